-- Numbers below 10,000 by their digits.
--   digit_count n    how many digits n has
--   digits_of n      the digits of n, as bytes, 0 before the first, and how many it has
--   digits_text x    the digits and one space
-- Assumes nothing.
use Rattle.std.specs.Prelude.{ℕ, ◌+◌, ◌/◌, ◌%◌, cond, List, [], ◌∷◌, eqb, ltb}
use Rattle.digits.specs.declared.Digits.{Digits}

unfoldable pub digit_count : ℕ → ℕ
digit_count n = cond (ltb 999 n) 4 (cond (ltb 99 n) 3 (cond (ltb 9 n) 2 1))

abbrev pub digits_of : ℕ → Digits
digits_of n = record { a = 48 + n / 1000; b = 48 + n / 100 % 10; c = 48 + n / 10 % 10; d = 48 + n % 10; count = digit_count n }

unfoldable pub digits_text : Digits → List ℕ
digits_text x =
    cond (eqb x.count 4) (x.a ∷ x.b ∷ x.c ∷ x.d ∷ 32 ∷ [])
    (cond (eqb x.count 3) (x.b ∷ x.c ∷ x.d ∷ 32 ∷ []) (cond (eqb x.count 2) (x.c ∷ x.d ∷ 32 ∷ []) (x.d ∷ 32 ∷ [])))
