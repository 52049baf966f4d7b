-- Groups 1, 2, 3 and 7 of the walk are those of the clause list.
-- Assumes nothing.
use Prim.Native.Nat.{ℕ, suc, pred, ◌≤◌, ◌<◌}
use native.Mathlib.Nat.{le_refl}
use native.Mathlib.Omega.{arith}
use mathlib.Core.Path.{◌≡◌, refl, sym, ◌∙◌, ap, ap₂}
use mathlib.Core.Logic.{◌⊎◌, inl, inr}
use mathlib.Core.Bool.{Bool, true, false, cond}
use mathlib.Core.List.{List, [], ◌∷◌, ◌++◌, map, append_assoc}
use lib.Dec.{eqb, leb}
use lib.ListN.{length}
use borrow.Author.Tests.{ne_eqb, lt-ltb, le-ltb, le-leb, lt-leb}
use Rattle.lists.specs.Lists.{tab, each, select}
use Rattle.lists.proofs.Tests.{le_or_lt}
use Rattle.lists.proofs.Tables.{tab_ext, each_ext, each_front, tab_each}
use Rattle.meaning.specs.Program.{rule_at}
use Rattle.encoding.specs.Literal.{var, −◌, Clause}
use Rattle.encoding.specs.Variables.{Sizes, body_var, founds_var}
use Rattle.encoding.specs.Clauses.{rules_of, body_clauses, implied_clauses, supported_clause, one_clauses, founded_clause}
use Rattle.encoding.specs.Code.{Code, code_sizes, part1, part2, part3, part7}
use Rattle.clause_walk.specs.Walk.{rule_count, heads_of, head_of, positives, body_of, body_count, atom_at, signed, two, body_literal, body_opposite, of_head, item_count, block_count, size, slots, slot, clause_at, block, group, group_of}
use Rattle.clause_walk.proofs.Tabs.{head_is, tab_two, map_select}

module _ (G : Code) where
  abbrev S : Sizes
  S = code_sizes G

  -- ---- group 1

  module _ (r : ℕ) where
    abbrev B : List ℕ
    B = (rule_at G.rules r).positive

    abbrev C : List ℕ
    C = (rule_at G.rules r).negative

    -- clause y, where d says whether it is one of the short ones
    abbrev clause1 : Bool → ℕ → Clause
    clause1 d y =
        each (cond d 2 (suc (body_count G r)))
        (λ l. cond d (two (− body_var S r) (body_literal (body_of G r) (positives G r) y) l) (cond (eqb l 1) (var (body_var S r)) (body_opposite (body_of G r) (positives G r) (pred l))) ∷ [])

    short : (x : ℕ) → x < body_count G r
        → clause_at G 1 r 1 (suc x) ≡ cond (leb (suc x) (length B)) (− body_var S r ∷ var (atom_at (body_of G r) (suc x)) ∷ []) (− body_var S r ∷ − atom_at (body_of G r) (suc x) ∷ [])
    unfolding slots slot group_of
    short x h = ap (λ (d : Bool). clause1 d (suc x)) (le-leb (suc x) (body_count G r) h) ∙ go (leb (suc x) (length B))
      where
        go : (b : Bool) → − body_var S r ∷ signed b (atom_at (body_of G r) (suc x)) ∷ [] ≡ cond b (− body_var S r ∷ var (atom_at (body_of G r) (suc x)) ∷ []) (− body_var S r ∷ − atom_at (body_of G r) (suc x) ∷ [])
        go true = refl
        go false = refl

    opposite : (x : ℕ) → body_opposite (body_of G r) (positives G r) (suc x) ≡ cond (leb (suc x) (length B)) (− atom_at (body_of G r) (suc x)) (var (atom_at (body_of G r) (suc x)))
    opposite x = go (le_or_lt (suc x) (length B))
      where
        go : (suc x ≤ length B) ⊎ (length B < suc x) → body_opposite (body_of G r) (positives G r) (suc x) ≡ cond (leb (suc x) (length B)) (− atom_at (body_of G r) (suc x)) (var (atom_at (body_of G r) (suc x)))
        go (inl h) = rw (le-leb (suc x) (length B) h, le-ltb (length B) (suc x) h)
        go (inr h) = rw (lt-leb (suc x) (length B) h, lt-ltb (length B) (suc x) h)

    long : clause_at G 1 r 1 (suc (body_count G r)) ≡ var (body_var S r) ∷ (map −◌ B ++ map var C)
    unfolding slots slot group_of
    long =
        ap (λ (d : Bool). clause1 d (suc (body_count G r))) (lt-leb (suc (body_count G r)) (body_count G r) (le_refl (suc (body_count G r))))
        ∙ each_front (body_count G r) (λ l. cond (eqb l 1) (var (body_var S r)) (body_opposite (body_of G r) (positives G r) (pred l)) ∷ [])
        ∙ ap (λ (zs : Clause). var (body_var S r) ∷ zs)
        (each_ext (body_count G r) (λ l. cond (eqb (suc l) 1) (var (body_var S r)) (body_opposite (body_of G r) (positives G r) l) ∷ []) (λ y. cond (leb y (length B)) (− atom_at (body_of G r) y) (var (atom_at (body_of G r) y)) ∷ [])
        (λ i h. rw (ne_eqb (suc (suc i)) 1 (λ e. omega arith), opposite i))
        ∙ sym (tab_each (body_count G r) (λ y. cond (leb y (length B)) (− atom_at (body_of G r) y) (var (atom_at (body_of G r) y))))
        ∙ tab_two −◌ var B C)

    block1 : block G 1 r 1 ≡ body_clauses S r (rule_at G.rules r)
    unfolding size group_of
    block1 =
        ap₂ (λ (xs : List Clause) (c : Clause). xs ++ (c ∷ []))
        (tab_ext (body_count G r) (clause_at G 1 r 1) (λ y. cond (leb y (length B)) (− body_var S r ∷ var (atom_at (body_of G r) y) ∷ []) (− body_var S r ∷ − atom_at (body_of G r) y ∷ [])) short
        ∙ tab_two (λ b. − body_var S r ∷ var b ∷ []) (λ c. − body_var S r ∷ − c ∷ []) B C) long
        ∙ append_assoc (map (λ b. − body_var S r ∷ var b ∷ []) B) (map (λ c. − body_var S r ∷ − c ∷ []) C) ((var (body_var S r) ∷ (map −◌ B ++ map var C)) ∷ [])

  pub is_group1 : group G 1 ≡ part1 G
  unfolding item_count block_count group_of
  is_group1 = each_ext (rule_count G) (λ r. block G 1 r 1) (λ r. body_clauses S r (rule_at G.rules r)) (λ i h. block1 (suc i))

  -- ---- groups 2 and 7

  -- the rules of a, by the heads
  rules_of_lem : (a : ℕ) → select (rule_count G) (λ r. eqb (head_of G r) a) ≡ rules_of G.rules a
  unfolding rules_of
  rules_of_lem a =
      each_ext (rule_count G) (λ r. cond (eqb (head_of G r) a) (r ∷ []) []) (λ r. cond (eqb (rule_at G.rules r).head a) (r ∷ []) [])
      (λ i h. ap (λ (x : ℕ). cond (eqb x a) (suc i ∷ []) []) (head_is G.rules (suc i)))

  head_clause : (a : ℕ) (v : ℕ → ℕ) → each (suc (rule_count G)) (of_head (heads_of G) a v) ≡ − a ∷ map (λ r. var (v r)) (rules_of G.rules a)
  head_clause a v =
      each_front (rule_count G) (of_head (heads_of G) a v)
      ∙ ap (λ (zs : Clause). − a ∷ zs)
      (each_ext (rule_count G) (λ l. of_head (heads_of G) a v (suc l)) (λ r. cond (eqb (head_of G r) a) (var (v r) ∷ []) []) (λ i h. rw (ne_eqb (suc (suc i)) 1 (λ e. omega arith)))
      ∙ sym (map_select (λ r. var (v r)) (rule_count G) (λ r. eqb (head_of G r) a)) ∙ ap (map (λ r. var (v r))) (rules_of_lem a))

  -- block i of atom a, where d says whether i is a rule
  abbrev block2 : Bool → ℕ → ℕ → List Clause
  block2 d a i =
      tab (cond d (cond (eqb (head_of G i) a) 1 0) 1)
      (λ y. each (cond d 2 (suc (rule_count G))) (λ l. cond d (two (var a) (− body_var S i) l ∷ []) (of_head (heads_of G) a (body_var S) l)))

  implied_block : (a x : ℕ) → x < rule_count G → block G 2 a (suc x) ≡ cond (eqb (head_of G (suc x)) a) ((var a ∷ − body_var S (suc x) ∷ []) ∷ []) []
  unfolding size slots slot group_of
  implied_block a x h = ap (λ (d : Bool). block2 d a (suc x)) (le-leb (suc x) (rule_count G) h) ∙ go (eqb (head_of G (suc x)) a)
    where
      go : (b : Bool) → tab (cond b 1 0) (λ y. var a ∷ − body_var S (suc x) ∷ []) ≡ cond b ((var a ∷ − body_var S (suc x) ∷ []) ∷ []) []
      go true = refl
      go false = refl

  supported_block : (a : ℕ) → block G 2 a (suc (rule_count G)) ≡ supported_clause S a (rules_of G.rules a) ∷ []
  unfolding size slots slot group_of
  supported_block a =
      ap (λ (d : Bool). block2 d a (suc (rule_count G))) (lt-leb (suc (rule_count G)) (rule_count G) (le_refl (suc (rule_count G))))
      ∙ ap (λ (c : Clause). c ∷ []) (head_clause a (body_var S))

  pub is_group2 : ((a : ℕ) → G.opened a ≡ false) → group G 2 ≡ part2 G
  unfolding item_count block_count group_of
  is_group2 f =
      each_ext G.n (λ a. each (suc (rule_count G)) (block G 2 a)) (λ a. implied_clauses S a (rules_of G.rules a) ++ cond (G.opened a) [] (supported_clause S a (rules_of G.rules a) ∷ []))
      (λ i h. ap₂ (λ (xs ys : List Clause). xs ++ ys)
      (each_ext (rule_count G) (block G 2 (suc i)) (λ r. cond (eqb (head_of G r) (suc i)) ((var (suc i) ∷ − body_var S r ∷ []) ∷ []) []) (implied_block (suc i))
      ∙ sym (map_select (λ r. var (suc i) ∷ − body_var S r ∷ []) (rule_count G) (λ r. eqb (head_of G r) (suc i)))
      ∙ ap (implied_clauses S (suc i)) (rules_of_lem (suc i)))
      (supported_block (suc i) ∙ ap (λ (b : Bool). cond b [] (supported_clause S (suc i) (rules_of G.rules (suc i)) ∷ [])) (sym (f (suc i)))))

  pub is_group7 : ((a : ℕ) → G.opened a ≡ false) → group G 7 ≡ part7 G
  unfolding item_count block_count size slots slot group_of
  is_group7 f =
      each_ext G.n (λ a. block G 7 a 1) (λ a. cond (G.opened a) (one_clauses S a a) (founded_clause S a (rules_of G.rules a) ∷ []))
      (λ i h. ap (λ (c : Clause). c ∷ []) (head_clause (suc i) (founds_var S)) ∙ ap (λ (b : Bool). cond b (one_clauses S (suc i) (suc i)) (founded_clause S (suc i) (rules_of G.rules (suc i)) ∷ [])) (sym (f (suc i))))

  -- ---- group 3

  pub is_group3 : group G 3 ≡ part3 G
  unfolding item_count block_count size slots slot group_of
  is_group3 = refl
