-- The lines of a lower bit and of the long clauses, from the literals and their opposites that code has.
--   pair_as     those of a lower bit
--   longs_as    those of the two long clauses
-- Assumes nothing.
use Prim.Native.Nat.{ℕ}
use mathlib.Core.Path.{◌≡◌, ap₂}
use mathlib.Core.List.{[], ◌∷◌, ◌++◌}
use Rattle.encoding.specs.Literal.{Literal}
use Rattle.encoding.specs.Variables.{Sizes}
use Rattle.digits.specs.Bytes.{line_text}
use Rattle.clause_numerals.specs.Numerals.{opposed}
use Rattle.clause_blocks.specs.Texts.{pair_text, long_text, longs_text}

pub pair_as : (x u v : Literal) {k m : Literal} → k ≡ opposed u → m ≡ opposed v → line_text (x ∷ k ∷ v ∷ []) ++ line_text (x ∷ u ∷ m ∷ []) ≡ pair_text x u v
unfolding pair_text
pair_as x u v e f =
    ap₂ (λ (k m : Literal). line_text (x ∷ k ∷ v ∷ []) ++ line_text (x ∷ u ∷ m ∷ [])) e f

pub longs_as : (S : Sizes) (a j : ℕ) (u v : Literal) {k m : Literal} → k ≡ opposed u → m ≡ opposed v → long_text S a j k m ++ long_text S a j u v ≡ longs_text S a j u v
unfolding longs_text
longs_as S a j u v e f = ap₂ (λ (k m : Literal). long_text S a j k m ++ long_text S a j u v) e f
