-- The items of groups 2 and 7 in the walk.
--   head_item, founded_item    every clause of item a is true exactly if the definition for its group says so
--   head_asks, founded_asks    in a code whose tables are given, a is an atom, as head_holds and founded_holds require
-- Assumes nothing.
use Prim.Native.Nat.{ℕ, suc, ◌≤◌, ◌<◌}
use native.Mathlib.Omega.{arith}
use mathlib.Core.Path.{◌≡◌, refl, sym, ◌∙◌, ap, ap₂, subst}
use mathlib.Core.Bool.{Bool, true, false, ◌&&◌, ◌||◌, cond, or-false}
use mathlib.Core.List.{List, [], ◌∷◌}
use lib.Dec.{eqb}
use lib.ListN.{length}
use borrow.Author.Tests.{ne_eqb, le-leb, lt-leb}
use Rattle.lists.specs.Lists.{any, each, all_to, any_to}
use Rattle.lists.proofs.Tests.{all_to_ext, any_each}
use Rattle.encoding.specs.Code.{Code, code_sizes}
use Rattle.encoding.specs.Literal.{Assignment, var, −◌, literal_true}
use Rattle.encoding.specs.Variables.{Sizes, body_var}
use Rattle.clause_walk.specs.Walk.{heads_of, head_at, head_of, item_count, block_count, size, slots, slot, of_head, implied_slot, group_of}
use Rattle.clause_slots.specs.SlotNumber.{rule_var}
use Rattle.clause_tables.specs.declared.Totals.{Totals}
use Rattle.clause_tables.specs.Tables.{Tabled}
use Rattle.clause_table_laws.proofs.Elements.{atoms_are}
use Rattle.truth_literals.specs.Clauses.{two_true}
use Rattle.truth_literals.specs.Items.{block_true, item_true}
use Rattle.truth_literals.proofs.Gathered.{any_after}
use Rattle.truth_heads.specs.Heads.{implied_true, supports, head_true, founded_true}
use Rattle.truth_heads.proofs.SupportLaws.{heads_length}

-- ---- the last clause of an atom, by its slots

module _ (A : Assignment) (S : Sizes) (hs : List ℕ) (a : ℕ) (founds : Bool) where
  abbrev head_slot : ℕ → Bool
  head_slot l = any (literal_true A) (of_head hs a (rule_var S founds) l)

  -- the slot of rule r
  rule_slot : (r : ℕ) → head_slot (suc (suc r)) ≡ supports A S hs a founds (suc r)
  rule_slot r =
      ap (λ (d : Bool). any (literal_true A) (cond d (− a ∷ []) (cond (eqb (head_at hs (suc r)) a) (var (rule_var S founds (suc r)) ∷ []) [])))
      (ne_eqb (suc (suc r)) 1 (λ e. omega (arith, e)))
      ∙ go (eqb (head_at hs (suc r)) a)
    where
      go : (d : Bool) → any (literal_true A) (cond d (var (rule_var S founds (suc r)) ∷ []) []) ≡ cond d (literal_true A (var (rule_var S founds (suc r)))) false
      go true = or-false (literal_true A (var (rule_var S founds (suc r))))
      go false = refl

  last_clause : {m : ℕ} → length hs ≡ m
      → any (literal_true A) (each (suc m) (of_head hs a (rule_var S founds))) ≡ (literal_true A (− a) || any_to (length hs) (supports A S hs a founds))
  last_clause {m} e =
      any_each (literal_true A) (suc m) (of_head hs a (rule_var S founds))
      ∙ any_after suc (λ i. refl) head_slot (supports A S hs a founds) m (λ r h. rule_slot r)
      ∙ ap₂ (λ (d : Bool) (n : ℕ). d || any_to n (supports A S hs a founds)) (or-false (literal_true A (− a))) (sym e)

-- ---- of any code

module _ (G : Code) (A : Assignment) (a : ℕ) where
  pub founded_item : founded_true G A a ≡ item_true G A 7 a
  unfolding founded_true item_true block_true block_count size slots slot group_of
  founded_item = sym (last_clause A (code_sizes G) (heads_of G) a true (heads_length G))

  -- block i of group 2, by the test for its place
  abbrev block_by : ℕ → Bool → Bool
  block_by i d =
      all_to (cond d (cond (eqb (head_of G i) a) 1 0) 1)
      (λ y. any (literal_true A) (each (cond d 2 (suc (length G.rules))) (λ l. cond d (implied_slot (code_sizes G) a i l ∷ []) (of_head (heads_of G) a (body_var (code_sizes G)) l))))

  -- the block of rule i
  implied_block : (i : ℕ) → i < length G.rules → implied_true A (code_sizes G) (heads_of G) a false (suc i) ≡ block_true G A 2 a (suc i)
  unfolding block_true size slots slot group_of
  implied_block i h = sym (ap (block_by (suc i)) (le-leb (suc i) (length G.rules) h) ∙ go (eqb (head_of G (suc i)) a))
    where
      go : (d : Bool)
          → all_to (cond d 1 0) (λ y. any (literal_true A) (each 2 (λ l. implied_slot (code_sizes G) a (suc i) l ∷ []))) ≡ cond d (two_true A (var a) (− body_var (code_sizes G) (suc i))) true
      go true = ap (λ (d : Bool). literal_true A (var a) || d) (or-false (literal_true A (− body_var (code_sizes G) (suc i))))
      go false = refl

  -- the last block
  supported_block : block_true G A 2 a (suc (length G.rules)) ≡ (literal_true A (− a) || any_to (length (heads_of G)) (supports A (code_sizes G) (heads_of G) a false))
  unfolding block_true size slots slot group_of
  supported_block =
      ap (block_by (suc (length G.rules))) (lt-leb (suc (length G.rules)) (length G.rules) (omega arith))
      ∙ last_clause A (code_sizes G) (heads_of G) a false (heads_length G)

  blocks2 : suc (length G.rules) ≡ block_count G 2
  unfolding block_count group_of
  blocks2 = refl

  pub head_item : head_true G A a ≡ item_true G A 2 a
  unfolding head_true item_true
  head_item =
      ap₂ ◌&&◌
      (ap (λ (n : ℕ). all_to n (implied_true A (code_sizes G) (heads_of G) a false)) (heads_length G)
      ∙ all_to_ext (length G.rules) (implied_true A (code_sizes G) (heads_of G) a false) (block_true G A 2 a) implied_block)
      (sym supported_block)
      ∙ ap (λ (n : ℕ). all_to n (block_true G A 2 a)) blocks2

-- ---- of a code whose tables are given

module _ {G : Code} {t : Totals} {hs ss bs ks xs ys : List ℕ} (T : Tabled G t hs ss bs ks xs ys) {a : ℕ} where
  among : a ≤ G.n → a ≤ t.sizes.n
  among h = subst (λ (n : ℕ). a ≤ n) (sym (atoms_are G t hs ss bs ks xs ys T)) h

  pub head_asks : a ≤ item_count G 2 → a ≤ t.sizes.n
  unfolding item_count group_of
  head_asks h = among h

  pub founded_asks : a ≤ item_count G 7 → a ≤ t.sizes.n
  unfolding item_count group_of
  founded_asks h = among h
