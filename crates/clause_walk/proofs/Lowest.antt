-- Group 6 of the walk is that of the clause list, for every width above 0.
-- Assumes nothing.
use Prim.Native.Nat.{ℕ, zero, suc, pred, ◌+◌, ◌-◌, ◌<◌}
use native.Mathlib.Nat.{le_refl}
use native.Mathlib.Omega.{arith}
use mathlib.Core.Path.{◌≡◌, refl, sym, ◌∙◌, ap, ap₂}
use mathlib.Core.Bool.{Bool, true, false, cond}
use mathlib.Core.List.{List, [], ◌∷◌, ◌++◌, map}
use lib.Dec.{eqb}
use borrow.Author.Tests.{eq-eqb, ne_eqb, le-leb, lt-leb}
use Rattle.lists.specs.Lists.{tab, each}
use Rattle.lists.proofs.Tables.{tab_ext, each_ext, each_front, tab_each, map_tab}
use Rattle.meaning.specs.Program.{rule_at}
use Rattle.encoding.specs.Literal.{var, −◌, Clause}
use Rattle.encoding.specs.Variables.{Sizes, body_var, founds_var, level_var, below_var, next_below_var}
use Rattle.encoding.specs.Clauses.{founds_clauses, lowest_clauses}
use Rattle.encoding.specs.Code.{Code, code_sizes, before, pair_numbers, part6}
use Rattle.clause_walk.specs.Walk.{rule_count, head_of, inner_count, signed, two, three, size6, slots6, slot6, item_count, block_count, size, slots, slot, block, group, group_of}
use Rattle.clause_walk.proofs.Tabs.{head_is, tab_front}

module _ (G : Code) where
  abbrev w : ℕ
  w = G.w

  abbrev S : Sizes
  S = code_sizes G

  -- ---- group 6

  module _ (r h k : ℕ) where
    abbrev s : ℕ
    s = founds_var S r

    abbrev t : ℕ
    t = body_var S r

    -- the pairs of the rule
    abbrev own : ℕ → List ℕ
    own b = tab b (λ j. k + j)

    abbrev clause6 : ℕ → ℕ → Clause
    clause6 b y = each (slots6 b y) (λ l. slot6 S r h k b y l ∷ [])

    -- clause y with b pairs, by what its tests say
    abbrev tested6 : ℕ → ℕ → Bool → Bool → Bool → Bool → Bool → Clause
    tested6 b y one short long none third =
        each (cond short 2 (cond long (suc (suc b)) (cond none 2 (suc b))))
        (λ l. cond one (two (− s) (var t) l)
        (cond short (two (− s) (var (below_var S (k + pred y) w)) l)
        (cond long (three (var s) (− t) (− below_var S (k + (l - 2)) w) l)
        (cond none (two (− t) (signed third (level_var S h (y - 2))) l) (two (− t) (− next_below_var S (k + pred l) w) l)))) ∷ [])

    clause_founds : (b : ℕ) → clause6 b 1 ≡ − s ∷ var t ∷ []
    clause_founds b = ap (λ (d : Bool). tested6 b 1 true d (eqb 1 (suc (suc b))) (eqb b 0) false) (le-leb 1 (suc b) (omega arith))

    clause_below : (b x : ℕ) → x < b → clause6 b (suc (suc x)) ≡ − s ∷ var (below_var S (k + suc x) w) ∷ []
    clause_below b x l =
        ap₂ (λ (c d : Bool). tested6 b (suc (suc x)) c d (eqb (suc (suc x)) (suc (suc b))) (eqb b 0) (eqb (suc (suc x)) 3))
        (ne_eqb (suc (suc x)) 1 (λ e. omega arith)) (le-leb (suc (suc x)) (suc b) (omega arith))

    -- the literals of b slots after two, and after one
    behind_two : (b : ℕ) (f : ℕ → ℕ) → each (suc (suc b)) (λ l. three (var s) (− t) (− f (l - 2)) l ∷ []) ≡ var s ∷ − t ∷ tab b (λ j. − f j)
    behind_two b f =
        each_front (suc b) (λ l. three (var s) (− t) (− f (l - 2)) l ∷ [])
        ∙ ap (λ (zs : Clause). var s ∷ zs)
        (each_front b (λ l. three (var s) (− t) (− f (suc l - 2)) (suc l) ∷ [])
        ∙ ap (λ (zs : Clause). − t ∷ zs)
        (each_ext b (λ l. three (var s) (− t) (− f (suc (suc l) - 2)) (suc (suc l)) ∷ []) (λ j. − f j ∷ [])
        (λ x l. rw (ne_eqb (suc (suc (suc x))) 1 (λ e. omega arith), ne_eqb (suc (suc (suc x))) 2 (λ e. omega arith), less x))
        ∙ sym (tab_each b (λ j. − f j))))
      where
        less : (x : ℕ) → suc (suc (suc x)) - 2 ≡ suc x
        less x = omega arith

    behind_one : (b : ℕ) (f : ℕ → ℕ) → each (suc b) (λ l. two (− t) (− f (pred l)) l ∷ []) ≡ − t ∷ tab b (λ j. − f j)
    behind_one b f =
        each_front b (λ l. two (− t) (− f (pred l)) l ∷ [])
        ∙ ap (λ (zs : Clause). − t ∷ zs)
        (each_ext b (λ l. two (− t) (− f l) (suc l) ∷ []) (λ j. − f j ∷ []) (λ x l. rw (ne_eqb (suc (suc x)) 1 (λ e. omega arith))) ∙ sym (tab_each b (λ j. − f j)))

    clause_long : (b : ℕ) → clause6 b (suc (suc b)) ≡ var s ∷ − t ∷ map (λ j. − below_var S j w) (own b)
    clause_long b =
        ap₂ (λ (c d : Bool). tested6 b (suc (suc b)) c d (eqb (suc (suc b)) (suc (suc b))) (eqb b 0) (eqb (suc (suc b)) 3))
        (ne_eqb (suc (suc b)) 1 (λ e. omega arith)) (lt-leb (suc (suc b)) (suc b) (le_refl (suc (suc b))))
        ∙ ap (λ (d : Bool). tested6 b (suc (suc b)) false false d (eqb b 0) (eqb (suc (suc b)) 3)) (eq-eqb (suc (suc b)) (suc (suc b)) refl)
        ∙ behind_two b (λ j. below_var S (k + j) w)
        ∙ ap (λ (zs : Clause). var s ∷ − t ∷ zs) (sym (map_tab (λ j. − below_var S j w) b (λ j. k + j)))

    -- past the long clause
    clause_past : (b y : ℕ) → suc (suc b) < y → clause6 b y ≡ tested6 b y false false false (eqb b 0) (eqb y 3)
    clause_past b y l =
        ap₂ (λ (c d : Bool). tested6 b y c d (eqb y (suc (suc b))) (eqb b 0) (eqb y 3)) (ne_eqb y 1 (λ e. omega arith)) (lt-leb y (suc b) (omega arith))
        ∙ ap (λ (d : Bool). tested6 b y false false d (eqb b 0) (eqb y 3)) (ne_eqb y (suc (suc b)) (λ e. omega arith))

    clause_last : (b : ℕ) → clause6 (suc b) (suc (suc (suc (suc b)))) ≡ − t ∷ map (λ j. − next_below_var S j w) (own (suc b))
    clause_last b =
        clause_past (suc b) (suc (suc (suc (suc b)))) (le_refl (suc (suc (suc (suc b)))))
        ∙ ap (λ (d : Bool). tested6 (suc b) (suc (suc (suc (suc b)))) false false false d (eqb (suc (suc (suc (suc b)))) 3)) (ne_eqb (suc b) 0 (λ e. omega arith))
        ∙ behind_one (suc b) (λ j. next_below_var S (k + j) w)
        ∙ ap (λ (zs : Clause). − t ∷ zs) (sym (map_tab (λ j. − next_below_var S j w) (suc b) (λ j. k + j)))

    clause_bit : (x : ℕ) → clause6 0 (suc (suc (suc (suc x)))) ≡ − t ∷ − level_var S h (suc (suc x)) ∷ []
    clause_bit x =
        clause_past 0 (suc (suc (suc (suc x)))) (omega arith)
        ∙ ap₂ (λ (d : Bool) (i : ℕ). − t ∷ signed d (level_var S h i) ∷ []) (ne_eqb (suc (suc (suc (suc x)))) 3 (λ e. omega arith)) (less x)
      where
        less : (x : ℕ) → suc (suc (suc (suc x))) - 2 ≡ suc (suc x)
        less x = omega arith

    lowest_some : (b : ℕ) → lowest_clauses S r h (own (suc b)) ≡ (− t ∷ map (λ j. − next_below_var S j w) (own (suc b))) ∷ []
    lowest_some b = ap (lowest_clauses S r h) (tab_front b (λ j. k + j)) ∙ ap (λ (js : List ℕ). (− t ∷ map (λ j. − next_below_var S j w) js) ∷ []) (sym (tab_front b (λ j. k + j)))

    block6_none : (v : ℕ) → w ≡ suc v → tab (size6 w 0) (clause6 0) ≡ founds_clauses S r (own 0) ++ lowest_clauses S r h (own 0)
    block6_none v e =
        ap (λ (x : ℕ). tab (suc (suc x)) (clause6 0)) e
        ∙ tab_front (suc (suc v)) (clause6 0)
        ∙ ap (λ (zs : List Clause). clause6 0 1 ∷ zs)
        (tab_front (suc v) (λ y. clause6 0 (suc y))
        ∙ ap (λ (zs : List Clause). clause6 0 2 ∷ zs)
        (tab_front v (λ y. clause6 0 (suc (suc y)))
        ∙ ap (λ (zs : List Clause). clause6 0 3 ∷ zs)
        (tab_ext v (λ y. clause6 0 (suc (suc (suc y)))) (λ i. − t ∷ − level_var S h (suc i) ∷ []) (λ x l. clause_bit x)
        ∙ ap (λ (x : ℕ). tab (pred x) (λ i. − t ∷ − level_var S h (suc i) ∷ [])) (sym e))))

    block6_some : (b : ℕ) → tab (size6 w (suc b)) (clause6 (suc b)) ≡ founds_clauses S r (own (suc b)) ++ lowest_clauses S r h (own (suc b))
    block6_some b =
        ap (λ (d : Bool). tab (cond d (suc (suc w)) (suc (suc (suc (suc b))))) (clause6 (suc b))) (ne_eqb (suc b) 0 (λ e. omega arith))
        ∙ tab_front (suc (suc (suc b))) (clause6 (suc b))
        ∙ ap₂ (λ (c : Clause) (zs : List Clause). c ∷ zs) (clause_founds (suc b))
        (ap₂ (λ (xs : List Clause) (c : Clause). xs ++ (c ∷ []))
        (ap₂ (λ (xs : List Clause) (c : Clause). xs ++ (c ∷ []))
        (tab_ext (suc b) (λ y. clause6 (suc b) (suc y)) (λ j. − s ∷ var (below_var S (k + j) w) ∷ []) (clause_below (suc b))
        ∙ sym (map_tab (λ j. − s ∷ var (below_var S j w) ∷ []) (suc b) (λ j. k + j)))
        (clause_long (suc b)))
        (clause_last b)
        ∙ ap (λ (zs : List Clause). (map (λ j. − s ∷ var (below_var S j w) ∷ []) (own (suc b)) ++ ((var s ∷ − t ∷ map (λ j. − below_var S j w) (own (suc b))) ∷ [])) ++ zs)
        (sym (lowest_some b)))

    block6 : 0 < w → (b : ℕ) → tab (size6 w b) (clause6 b) ≡ founds_clauses S r (own b) ++ lowest_clauses S r h (own b)
    block6 p zero = block6_none (pred w) (omega (arith, p))
    block6 p (suc b) = block6_some b

  pub is_group6 : 0 < w → group G 6 ≡ part6 G
  unfolding item_count block_count size slots slot group_of
  is_group6 p =
      each_ext (rule_count G) (λ r. block G 6 r 1) (λ r. founds_clauses S r (pair_numbers G r) ++ lowest_clauses S r (rule_at G.rules r).head (pair_numbers G r))
      (λ i l. block6 (suc i) (head_of G (suc i)) (before G (suc i)) p (inner_count G (suc i))
      ∙ ap (λ (h : ℕ). founds_clauses S (suc i) (pair_numbers G (suc i)) ++ lowest_clauses S (suc i) h (pair_numbers G (suc i))) (head_is G.rules (suc i)))
