-- The blocks of group 4, clause by clause.
--   level_short, next_short        the variables of the block are from 1 to 9,999
--   next_clause S a i y            clause y of block i of atom a, slot by slot
--   next_blocks                    the lines of the block's clauses are its text
--   block_is                       that text, from the literals that code has
--   number_short                   a number that is such a variable
-- Assumes nothing.
use Prim.Native.Nat.{ℕ, zero, suc, pred, ◌-◌, ◌*◌, ◌%◌, ◌≤◌, ◌<◌}
use native.Mathlib.Omega.{arith}
use native.Mathlib.Nat.{mul-le-mul}
use mathlib.Core.Path.{◌≡◌, refl, sym, ◌∙◌, ap, ap₂, subst}
use mathlib.Core.Bool.{Bool, true, false, cond}
use mathlib.Core.List.{List, [], ◌∷◌, ◌++◌, append_assoc, append-nil}
use lib.Dec.{eqb, ltb}
use borrow.Author.Tests.{eq-eqb, ne_eqb, lt-ltb, le-ltb}
use Rattle.lists.specs.Lists.{each}
use Rattle.lists.proofs.Tables.{each_ext}
use Rattle.encoding.specs.Literal.{Literal, Clause, var, −◌, literal_number}
use Rattle.encoding.specs.Variables.{Sizes, level_var, next_var}
use Rattle.clause_literals.specs.Sizes.{Bounded}
use Rattle.clause_literals.proofs.Products.{one_before, atoms_fit}
use Rattle.digits.specs.Bytes.{literal_text, literals_text, line_text}
use Rattle.digits.proofs.Lengths.{literals_append}
use Rattle.clause_walk.specs.Walk.{signed, three, bit_of, is_first, is_second, slots4, slot4}
use Rattle.clause_numerals.specs.Numbered.{Short}
use Rattle.clause_blocks.specs.Texts.{lower_text, pair_text, pairs_text, long_text, longs_text, next_block_text}

-- ---- the variables

module _ (s : Sizes) (B : Bounded s) (a : ℕ) (h : a ≤ 126) where
  below : pred a * s.w ≤ 875
  below = mul-le-mul {n₂ = 125} {m₂ = 7} (omega (arith, h)) B.bits

  pub level_short : (i : ℕ) → 0 < i → i ≤ 7 → Short (level_var s a i)
  level_short i p q = record { some = omega (arith, p); fits = omega (arith, q, below, B.atoms, B.rules) }

  pub next_short : (i : ℕ) → 0 < i → i ≤ 7 → Short (next_var s a i)
  next_short i p q = record { some = omega (arith, p); fits = omega (arith, q, below, atoms_fit s B, B.atoms, B.rules) }

-- ---- one clause

module _ (S : Sizes) (a i : ℕ) where
  abbrev pub next_clause : ℕ → Clause
  next_clause y = each (slots4 i y) (λ l. (slot4 S a i y l ∷ []))

  -- by the bit j of the clause, whether that is below i, and the signs p of u and q of v
  abbrev clause_by : ℕ → Bool → Bool → Bool → Clause
  clause_by j d p q =
      each (cond d 3 (suc i))
      (λ l. (cond d (three (var (level_var S a j)) (signed p (next_var S a i)) (signed q (level_var S a i)) l) (cond (ltb l i) (− level_var S a l) (cond (eqb l i) (signed p (next_var S a i)) (signed p (level_var S a i)))) ∷ []))

  by_bit : (y : ℕ) {j : ℕ} {d p q : Bool} → bit_of y ≡ j → ltb j i ≡ d → is_second y ≡ p → is_first y ≡ q → next_clause y ≡ clause_by j d p q
  by_bit y {j} {d} {p} {q} e f u v =
      ap (λ (j : ℕ). clause_by j (ltb j i) (is_second y) (is_first y)) e
      ∙ ap (λ (d : Bool). clause_by j d (is_second y) (is_first y)) f
      ∙ ap₂ (λ (p q : Bool). clause_by j d p q) u v

  -- clauses 2 k + 1 and 2 k + 2 are those of bit k + 1
  module _ (k : ℕ) where
    first_bit_is : bit_of (suc (2 * k)) ≡ suc k
    first_bit_is = omega arith

    second_bit_is : bit_of (suc (suc (2 * k))) ≡ suc k
    second_bit_is = omega arith

    first_odd : suc (2 * k) % 2 ≡ 1
    first_odd = omega arith

    second_even : suc (suc (2 * k)) % 2 ≡ 0
    second_even = omega arith

    low_first : suc k < i → next_clause (suc (2 * k)) ≡ ((var (level_var S a (suc k)) ∷ []) ++ (− next_var S a i ∷ [])) ++ (var (level_var S a i) ∷ [])
    low_first h =
        by_bit (suc (2 * k)) first_bit_is (lt-ltb (suc k) i h) (ne_eqb (suc (2 * k) % 2) 0 (λ e. omega (arith, e, first_odd))) (eq-eqb (suc (2 * k) % 2) 1 first_odd)

    low_second : suc k < i → next_clause (suc (suc (2 * k))) ≡ ((var (level_var S a (suc k)) ∷ []) ++ (var (next_var S a i) ∷ [])) ++ (− level_var S a i ∷ [])
    low_second h =
        by_bit (suc (suc (2 * k))) second_bit_is (lt-ltb (suc k) i h) (eq-eqb (suc (suc (2 * k)) % 2) 0 second_even) (ne_eqb (suc (suc (2 * k)) % 2) 1 (λ e. omega (arith, e, second_even)))

    -- the long ones, where i is k + 1
    long_by : (e : i ≡ suc k) (p q : Bool)
        → clause_by (suc k) false p q ≡ (each k (λ l. (− level_var S a l ∷ [])) ++ (signed p (next_var S a i) ∷ [])) ++ (signed p (level_var S a i) ∷ [])
    long_by e p q =
        ap (λ (n : ℕ). each (suc n) (λ l. at l)) e
        ∙ ap₂ (λ (xs ys : List Literal). xs ++ ys)
        (ap₂ (λ (xs ys : List Literal). xs ++ ys) (each_ext k at (λ l. (− level_var S a l ∷ [])) (λ l h. ap (λ (d : Bool). (cond d (− level_var S a (suc l)) (cond (eqb (suc l) i) (signed p (next_var S a i)) (signed p (level_var S a i))) ∷ [])) (lt-ltb (suc l) i (omega (arith, h, e)))))
        (ap₂ (λ (d f : Bool). (cond d (− level_var S a (suc k)) (cond f (signed p (next_var S a i)) (signed p (level_var S a i))) ∷ [])) (le-ltb (suc k) i (omega (arith, e))) (eq-eqb (suc k) i (sym e))))
        (ap₂ (λ (d f : Bool). (cond d (− level_var S a (suc (suc k))) (cond f (signed p (next_var S a i)) (signed p (level_var S a i))) ∷ [])) (le-ltb (suc (suc k)) i (omega (arith, e))) (ne_eqb (suc (suc k)) i (λ q. omega (arith, q, e))))
      where
        at : ℕ → List Literal
        at l = (cond (ltb l i) (− level_var S a l) (cond (eqb l i) (signed p (next_var S a i)) (signed p (level_var S a i))) ∷ [])

    long_first : i ≡ suc k → next_clause (suc (2 * k)) ≡ (each k (λ l. (− level_var S a l ∷ [])) ++ (− next_var S a i ∷ [])) ++ (− level_var S a i ∷ [])
    long_first e =
        by_bit (suc (2 * k)) first_bit_is (le-ltb (suc k) i (omega (arith, e))) (ne_eqb (suc (2 * k) % 2) 0 (λ e. omega (arith, e, first_odd))) refl
        ∙ long_by e false (is_first (suc (2 * k)))

    long_second : i ≡ suc k → next_clause (suc (suc (2 * k))) ≡ (each k (λ l. (− level_var S a l ∷ [])) ++ (var (next_var S a i) ∷ [])) ++ (var (level_var S a i) ∷ [])
    long_second e =
        by_bit (suc (suc (2 * k))) second_bit_is (le-ltb (suc k) i (omega (arith, e))) (eq-eqb (suc (suc (2 * k)) % 2) 0 second_even) refl
        ∙ long_by e true (is_first (suc (suc (2 * k))))

-- ---- the lines of a block

module _ (S : Sizes) (a : ℕ) where
  lower_is : (k : ℕ) → literals_text (each k (λ l. (− level_var S a l ∷ []))) ≡ lower_text S a k
  lower_is zero = refl
  lower_is (suc k) =
      literals_append (each k (λ l. (− level_var S a l ∷ []))) ((− level_var S a (suc k) ∷ []))
      ∙ ap₂ (λ (s t : List ℕ). s ++ t) (lower_is k)
      (append-nil (literal_text (literal_number (− level_var S a (suc k))) ++ (32 ∷ [])))

  module _ (i : ℕ) where
    abbrev u : ℕ
    u = next_var S a i

    abbrev v : ℕ
    v = level_var S a i

    abbrev line : ℕ → List ℕ
    line y = line_text (next_clause S a i y)

    pair_is : (k : ℕ) → suc k < i → line (suc (2 * k)) ++ line (suc (suc (2 * k))) ≡ pair_text (var (level_var S a (suc k))) (var u) (var v)
    unfolding pair_text
    pair_is k l = ap₂ (λ (s t : List ℕ). s ++ t) (ap line_text (low_first S a i k l)) (ap line_text (low_second S a i k l))

    pairs_are : (k : ℕ) → k < i → each (2 * k) line ≡ pairs_text S a k (var u) (var v)
    pairs_are zero l = refl
    pairs_are (suc k) l =
        ap (λ (n : ℕ). each n line) (double k)
        ∙ append_assoc (each (2 * k) line) (line (suc (2 * k))) (line (suc (suc (2 * k))))
        ∙ ap₂ (λ (s t : List ℕ). s ++ t) (pairs_are k (omega (arith, l))) (pair_is k l)
      where
        double : (k : ℕ) → 2 * suc k ≡ suc (suc (2 * k))
        double k = omega arith

    -- the literals m and n of u and v stand last
    long_is : (k y : ℕ) (m n : Literal)
        → next_clause S a i y ≡ (each k (λ l. (− level_var S a l ∷ [])) ++ (m ∷ [])) ++ (n ∷ []) → line y ≡ long_text S a k m n
    unfolding long_text
    long_is k y m n e =
        ap line_text (e ∙ append_assoc lows ((m ∷ [])) ((n ∷ [])))
        ∙ ap (λ (t : List ℕ). t ++ (48 ∷ 10 ∷ [])) (literals_append lows ((m ∷ []) ++ (n ∷ [])))
        ∙ append_assoc (literals_text lows) (literals_text ((m ∷ []) ++ (n ∷ []))) (48 ∷ 10 ∷ [])
        ∙ ap (λ (t : List ℕ). t ++ line_text (m ∷ n ∷ [])) (lower_is k)
      where
        lows : List Literal
        lows = each k (λ l. (− level_var S a l ∷ []))

  pub next_blocks : (i : ℕ) → 0 < i → each (2 * i) (λ y. line_text (next_clause S a i y)) ≡ next_block_text S a i
  unfolding next_block_text longs_text
  next_blocks zero p = absurd (omega (arith, p))
  next_blocks (suc k) p =
      ap (λ (n : ℕ). each n (line (suc k))) (double k)
      ∙ append_assoc (each (2 * k) (line (suc k))) (line (suc k) (suc (2 * k))) (line (suc k) (suc (suc (2 * k))))
      ∙ ap₂ (λ (s t : List ℕ). s ++ t) (pairs_are (suc k) k (omega arith))
      (ap₂ (λ (s t : List ℕ). s ++ t)
      (long_is (suc k) k (suc (2 * k)) (− next_var S a (suc k)) (− level_var S a (suc k)) (long_first S a (suc k) k refl))
      (long_is (suc k) k (suc (suc (2 * k))) (var (next_var S a (suc k))) (var (level_var S a (suc k))) (long_second S a (suc k) k refl)))
    where
      double : (k : ℕ) → 2 * suc k ≡ suc (suc (2 * k))
      double k = omega arith

-- the text of the block, from the literals that code has
pub block_is : (S : Sizes) (a i : ℕ) {u v : Literal} → u ≡ var (next_var S a i) → v ≡ var (level_var S a i)
    → pairs_text S a (i - 1) u v ++ longs_text S a (i - 1) u v ≡ next_block_text S a i
unfolding next_block_text
block_is S a i {u} {v} e f =
    ap (λ (k : ℕ). pairs_text S a k u v ++ longs_text S a k u v) (one_before i)
    ∙ ap₂ (λ (u v : Literal). pairs_text S a (pred i) u v ++ longs_text S a (pred i) u v) e f

pub number_short : {n v : ℕ} → n ≡ v → Short v → Short n
number_short e S = subst Short (sym e) S
