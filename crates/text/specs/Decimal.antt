-- A number in decimal digits, as bytes: 0, or digits without a leading zero (document 01, "Program text").
--   decimal n     the digits of n
-- Assumes nothing.
use Rattle.std.specs.Prelude.{ℕ, zero, suc, ◌+◌, ◌/◌, ◌%◌, true, false, List, [], ◌∷◌, ◌++◌, ltb}

-- a number has no more digits than itself, but for 0
abbrev pub digits_in : ℕ → ℕ → List ℕ
digits_in zero n = (48 + n) ∷ []
digits_in (suc f) n = elim (ltb n 10) [ true ↦ (48 + n) ∷ [] | false ↦ digits_in f (n / 10) ++ ((48 + n % 10) ∷ []) ]

unfoldable pub decimal : ℕ → List ℕ
decimal n = digits_in n n
