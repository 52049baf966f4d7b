-- Truth of the clauses of groups 3 and 4, over an assignment and plain numbers.
--   level_has, next_has        bit i + 1 of a level, and of a next, has a byte
--   zero_more, zero_all        group 3: the clause of one bit more, and those of all bits
--   low_to k                   some of the lowest k bits of a level has 0
--   lower_more, low_more       group 4: the two clauses of one lower bit more, and whether it has 0
--   long_is                    the long clauses: all clauses of a bit
--   next_more, next_all        one bit more, and all bits
-- Assumes nothing.
use Prim.Native.Nat.{ℕ, suc, ◌+◌, ◌*◌, ◌/◌, ◌%◌, ◌≤◌, ◌<◌}
use native.Mathlib.Numerals.{add-one}
use native.Mathlib.Omega.{arith}
use mathlib.Core.Path.{◌≡◌, sym, ◌∙◌, ap, ap₂}
use mathlib.Core.Bool.{Bool, true, false, ◌&&◌, ◌||◌, cond}
use mathlib.Core.List.{List}
use lib.Dec.{eqb, ltb}
use borrow.Author.Tests.{eq-eqb, ne_eqb, lt-ltb, le-ltb}
use Rattle.lists.specs.Lists.{all_to, any_to}
use Rattle.lists.proofs.Bools.{and_assoc, or_assoc}
use Rattle.lists.proofs.Tests.{any_to_ext}
use Rattle.encoding.specs.Literal.{Assignment, Literal, var, −◌, literal_true}
use Rattle.encoding.specs.Variables.{Sizes, level_var, next_var}
use Rattle.clause_walk.specs.Walk.{signed, three}
use Rattle.truth_literals.specs.Clauses.{Has, two_true, three_true}
use Rattle.truth_literals.proofs.Gathered.{all_more, any_more, all_done}
use Rattle.truth_literals.proofs.Variables.{level_in_lem, next_in}
use Rattle.truth_levels.specs.Levels.{LevelIn, zero_clause, zero_true, next_clause, next_true, nexts_true}

-- ---- the variables of an atom's level, and of its next

module _ {bs : List ℕ} {S : Sizes} {a : ℕ} (H : LevelIn bs S a) (i : ℕ) (l : i < S.w) {v : ℕ} where
  pub level_has : v ≡ level_var S a (i + 1) → Has bs v
  level_has e = level_in_lem S a i 0 H.some H.among l H.bytes e

  pub next_has : v ≡ next_var S a (i + 1) → Has bs v
  next_has e = next_in S a i 0 H.some H.among l H.bytes e

-- ---- group 3

pub zero_more : (A : Assignment) (S : Sizes) (a y : ℕ) {v x : ℕ} → v ≡ a → x ≡ level_var S a (y + 1) → {p r : Bool} → p ≡ all_to y (zero_clause A S a)
    → r ≡ two_true A (var v) (− x) → (p && r) ≡ all_to (y + 1) (zero_clause A S a)
zero_more A S a y p q e d =
    all_more (zero_clause A S a) y e (d ∙ ap₂ (λ (v x : ℕ). two_true A (var v) (− x)) p (q ∙ ap (level_var S a) (add-one y)))

pub zero_all : (A : Assignment) (S : Sizes) (a y : ℕ) {p : Bool} → p ≡ all_to y (zero_clause A S a) → y ≤ S.w → S.w ≤ y → p ≡ zero_true A S a
unfolding zero_true
zero_all A S a y e h l = all_done (zero_clause A S a) y e h l

-- ---- group 4

module _ (A : Assignment) (S : Sizes) (a i : ℕ) where
  abbrev clause : ℕ → Bool
  clause y = next_clause A S a i y

  -- some of the lowest k bits has 0
  abbrev pub low_to : ℕ → Bool
  low_to k = any_to k (λ l. literal_true A (− level_var S a l))

  -- the literals of a clause of lower bit b, and of a long one, and the clause by its bit and the tests for its form
  abbrev literal_by : ℕ → Bool → Bool → Bool → ℕ → Literal
  literal_by b d f s l =
      cond d (three (var (level_var S a b)) (signed s (next_var S a i)) (signed f (level_var S a i)) l)
      (cond (ltb l i) (− level_var S a l) (cond (eqb l i) (signed s (next_var S a i)) (signed s (level_var S a i))))

  abbrev clause_by : ℕ → Bool → Bool → Bool → Bool
  clause_by b d f s = any_to (cond d 3 (suc i)) (λ l. literal_true A (literal_by b d f s l))

  module _ (k : ℕ) where
    odd : suc (2 * k) % 2 ≡ 1
    odd = omega arith

    even : suc (suc (2 * k)) % 2 ≡ 0
    even = omega arith

    half : suc ((2 * k) / 2) ≡ suc k
    half = omega arith

    half_up : suc (suc (2 * k) / 2) ≡ suc k
    half_up = omega arith

    first_by : {d : Bool} → ltb (suc k) i ≡ d → next_clause A S a i (suc (2 * k)) ≡ clause_by (suc k) d true false
    first_by {d} e =
        ap (λ (b : ℕ). clause_by b (ltb b i) (eqb (suc (2 * k) % 2) 1) (eqb (suc (2 * k) % 2) 0)) half
        ∙ ap (λ (n : ℕ). clause_by (suc k) (ltb (suc k) i) (eqb n 1) (eqb n 0)) odd
        ∙ ap (λ (d : Bool). clause_by (suc k) d true false) e

    second_by : {d : Bool} → ltb (suc k) i ≡ d → next_clause A S a i (suc (suc (2 * k))) ≡ clause_by (suc k) d false true
    second_by {d} e =
        ap (λ (b : ℕ). clause_by b (ltb b i) (eqb (suc (suc (2 * k)) % 2) 1) (eqb (suc (suc (2 * k)) % 2) 0)) half_up
        ∙ ap (λ (n : ℕ). clause_by (suc k) (ltb (suc k) i) (eqb n 1) (eqb n 0)) even
        ∙ ap (λ (d : Bool). clause_by (suc k) d false true) e

    two_more : all_to (2 * (k + 1)) clause ≡ (all_to (2 * k) clause && (clause (suc (2 * k)) && clause (suc (suc (2 * k)))))
    two_more = ap (λ (n : ℕ). all_to n clause) (twice k) ∙ and_assoc (all_to (2 * k) clause) (clause (suc (2 * k))) (clause (suc (suc (2 * k))))
      where
        twice : (k : ℕ) → 2 * (k + 1) ≡ suc (suc (2 * k))
        twice k = omega arith

    -- ---- the clauses of a lower bit

    module _ (h : k + 1 < i) {x u v : ℕ} (p : x ≡ level_var S a (k + 1)) (q : u ≡ next_var S a i) (s : v ≡ level_var S a i) {r : Bool}
        (e : r ≡ (three_true A (var x) (− u) (var v) && three_true A (var x) (var u) (− v))) where
      below : suc k < i
      below = omega (arith, h)

      both_are : r ≡ (next_clause A S a i (suc (2 * k)) && next_clause A S a i (suc (suc (2 * k))))
      both_are =
          e ∙ ap (λ (x : ℕ). three_true A (var x) (− u) (var v) && three_true A (var x) (var u) (− v)) (p ∙ ap (level_var S a) (add-one k))
          ∙ ap₂ (λ (u v : ℕ). three_true A (var (level_var S a (suc k))) (− u) (var v) && three_true A (var (level_var S a (suc k))) (var u) (− v)) q s
          ∙ sym (ap₂ ◌&&◌ (first_by (lt-ltb (suc k) i below)) (second_by (lt-ltb (suc k) i below)))

      pub lower_more : {p : Bool} → p ≡ all_to (2 * k) (next_clause A S a i) → (p && r) ≡ all_to (2 * (k + 1)) (next_clause A S a i)
      lower_more d = ap₂ ◌&&◌ d both_are ∙ sym two_more

    pub low_more : {x : ℕ} → x ≡ level_var S a (k + 1) → {p q : Bool} → p ≡ low_to k → q ≡ literal_true A (− x) → (p || q) ≡ low_to (k + 1)
    low_more d e f =
        any_more (λ l. literal_true A (− level_var S a l)) k e (f ∙ ap (λ (n : ℕ). literal_true A (− n)) (d ∙ ap (level_var S a) (add-one k)))

    -- ---- the long clauses

    module _ (l : k < i) (n : i ≤ k + 1) where
      last : i ≡ suc k
      last = omega (arith, l, n)

      long : ltb (suc k) i ≡ false
      long = le-ltb (suc k) i (omega (arith, last))

      -- bit i of the next and of the level, negated unless s holds, and the literal in slot j by the tests for its place
      abbrev at_next : Bool → Bool
      at_next s = literal_true A (signed s (next_var S a i))

      abbrev at_level : Bool → Bool
      at_level s = literal_true A (signed s (level_var S a i))

      abbrev by_place : Bool → ℕ → Bool → Bool → Bool
      by_place s j d e = literal_true A (cond d (− level_var S a j) (cond e (signed s (next_var S a i)) (signed s (level_var S a i))))

      abbrev slot : Bool → ℕ → Bool
      slot s j = by_place s j (ltb j i) (eqb j i)

      long_by : (f s : Bool) → clause_by (suc k) false f s ≡ (low_to k || (at_next s || at_level s))
      long_by f s =
          ap (λ (n : ℕ). any_to (suc n) (slot s)) last
          ∙ ap₂ ◌||◌ (ap₂ ◌||◌ (any_to_ext k (slot s) (λ j. literal_true A (− level_var S a j)) lower) next) level
          ∙ or_assoc (low_to k) (at_next s) (at_level s)
        where
          lower : (j : ℕ) → j < k → slot s (suc j) ≡ literal_true A (− level_var S a (suc j))
          lower j q = ap (λ (d : Bool). by_place s (suc j) d (eqb (suc j) i)) (lt-ltb (suc j) i (omega (arith, q, last)))

          next : slot s (suc k) ≡ at_next s
          next = ap₂ (by_place s (suc k)) long (eq-eqb (suc k) i (sym last))

          level : slot s (suc (suc k)) ≡ at_level s
          level = ap₂ (by_place s (suc (suc k))) (le-ltb (suc (suc k)) i (omega (arith, last))) (ne_eqb (suc (suc k)) i (λ q. omega (arith, q, last)))

      both_long : (clause (suc (2 * k)) && clause (suc (suc (2 * k))))
          ≡ ((low_to k || (at_next false || at_level false)) && (low_to k || (at_next true || at_level true)))
      both_long = ap₂ ◌&&◌ (first_by long ∙ long_by true false) (second_by long ∙ long_by false true)

      pub long_is : {u v : ℕ} → u ≡ next_var S a i → v ≡ level_var S a i → {o p r : Bool} → o ≡ all_to (2 * k) (next_clause A S a i) → p ≡ low_to k
          → r ≡ ((p || two_true A (− u) (− v)) && (p || two_true A (var u) (var v))) → (o && r) ≡ next_true A S a i
      unfolding next_true
      long_is q s {p = p} z e f =
          ap₂ ◌&&◌ z
          (f ∙ ap₂ (λ (u v : ℕ). (p || two_true A (− u) (− v)) && (p || two_true A (var u) (var v))) q s
          ∙ ap (λ (d : Bool). (d || (at_next false || at_level false)) && (d || (at_next true || at_level true))) e
          ∙ sym both_long)
          ∙ sym (ap (λ (n : ℕ). all_to n clause) (twice k last) ∙ two_more)
        where
          twice : (k : ℕ) {i : ℕ} → i ≡ suc k → 2 * i ≡ 2 * (k + 1)
          twice k q = omega (arith, q)

pub next_more : (A : Assignment) (S : Sizes) (a i : ℕ) {p r : Bool} → p ≡ all_to i (next_true A S a) → r ≡ next_true A S a (i + 1)
    → (p && r) ≡ all_to (i + 1) (next_true A S a)
next_more A S a i e d = all_more (next_true A S a) i e (d ∙ ap (next_true A S a) (add-one i))

pub next_all : (A : Assignment) (S : Sizes) (a i : ℕ) {p : Bool} → p ≡ all_to i (next_true A S a) → i ≤ S.w → S.w ≤ i → p ≡ nexts_true A S a
unfolding nexts_true
next_all A S a i e h l = all_done (next_true A S a) i e h l
