-- The lines of a chain's first bit, from the literals and their opposites that code has.
--   first_as    they are its text
-- Assumes nothing.
use mathlib.Core.Path.{◌≡◌, ap, ap₂}
use Prim.Native.Nat.{ℕ}
use mathlib.Core.List.{List, [], ◌∷◌, ◌++◌}
use Rattle.encoding.specs.Literal.{Literal}
use Rattle.digits.specs.Bytes.{line_text}
use Rattle.clause_numerals.specs.Numerals.{opposed}
use Rattle.clause_bits.specs.BitTexts.{starts_text, first_text}

pub first_as : (z x y : Literal) {k l m : Literal} → k ≡ opposed z → l ≡ opposed x → m ≡ opposed y → starts_text k l y ++ line_text (z ∷ x ∷ m ∷ []) ≡ first_text z x y
unfolding first_text
first_as z x y e f h =
    ap₂ (λ (s t : List ℕ). s ++ t) (ap₂ (λ (k l : Literal). starts_text k l y) e f) (ap (λ (m : Literal). line_text (z ∷ x ∷ m ∷ [])) h)
