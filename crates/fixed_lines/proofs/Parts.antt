-- The texts of the header and of a refusal: their lengths, and their two parts.
--   header_length                how many bytes the header has
--   header_small, refused_small  at most 28 and at most 35
--   header_parts, refused_parts  the name with the first number, and the rest
-- Assumes nothing.
use Prim.Native.Nat.{ℕ, ◌+◌, ◌^◌, ◌≤◌, ◌<◌}
use native.Mathlib.Omega.{arith}
use mathlib.Core.Path.{◌≡◌, refl}
use mathlib.Core.List.{[], ◌∷◌, ◌++◌}
use lib.ListN.{length, length-append}
use Rattle.lists.specs.Ascii.{ascii}
use Rattle.text.specs.Decimal.{decimal}
use Rattle.digits.proofs.Lengths.{decimal_fits}
use Rattle.fixed_lines.specs.Lines.{header_text, refused_text}

-- ---- the header

module _ (v c : ℕ) where
  pub header_length : length (header_text v c) ≡ length (decimal v) + length (decimal c) + 8
  unfolding header_text ascii
  header_length =
      omega (
        arith,
        length-append (ascii "p cnf " ++ (decimal v ++ (32 ∷ []))) (decimal c ++ (10 ∷ [])),
        length-append (ascii "p cnf ") (decimal v ++ (32 ∷ [])),
        length-append (decimal v) (32 ∷ []),
        length-append (decimal c) (10 ∷ []),
      )

  pub header_small : v < 2 ^ 32 → c < 2 ^ 32 → length (header_text v c) ≤ 28
  header_small h k = omega (arith, header_length, decimal_fits 9 v (omega (arith, h)), decimal_fits 9 c (omega (arith, k)))

  pub header_parts : header_text v c ≡ (ascii "p cnf " ++ (decimal v ++ (32 ∷ []))) ++ (decimal c ++ (10 ∷ []))
  unfolding header_text
  header_parts = refl

-- ---- a refusal

module _ (number spot : ℕ) where
  pub refused_small : number < 256 → spot < 2 ^ 64 → length (refused_text number spot) ≤ 35
  unfolding refused_text ascii
  refused_small h k =
      omega (
        arith,
        length-append (ascii "(refused " ++ (decimal number ++ (32 ∷ []))) (decimal spot ++ ascii ")\n"),
        length-append (decimal spot) (ascii ")\n"),
        length-append (ascii "(refused ") (decimal number ++ (32 ∷ [])),
        length-append (decimal number) (32 ∷ []),
        decimal_fits 2 number (omega (arith, h)),
        decimal_fits 19 spot (omega (arith, k)),
      )

  pub refused_parts : refused_text number spot ≡ (ascii "(refused " ++ (decimal number ++ (32 ∷ []))) ++ (decimal spot ++ ascii ")\n")
  unfolding refused_text
  refused_parts = refl
