-- What a number x adds to a list of which k bytes stand before it.
--   next_some    its text where some stand before it
-- Assumes nothing.
use Prim.Native.Nat.{ℕ, zero, suc}
use mathlib.Core.Path.{◌≡◌, refl}
use mathlib.Core.List.{◌∷◌}
use Rattle.text.specs.Decimal.{decimal}
use Rattle.checker_model.specs.Model.{listed_text}

pub next_some : (k x : ℕ) → (k ≡ 0 → ⊥) → listed_text k x ≡ 32 ∷ decimal x
next_some zero x h = absurd (h refl)
next_some (suc k) x h = refl
