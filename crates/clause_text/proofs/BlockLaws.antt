-- The groups whose blocks are taken as a whole.
--   blockwise_is, blockwise_not_five   they are 4 and 5
-- Assumes nothing.
use Prim.Native.Nat.{ℕ}
use mathlib.Core.Path.{◌≡◌, refl}
use mathlib.Core.Bool.{Bool, true, false, cond}
use mathlib.Core.Logic.{◌⊎◌, inl, inr}
use lib.Dec.{eqb}
use borrow.Author.Tests.{eqb-true}
use Rattle.clause_text.specs.Blocks.{is_blockwise}

pub blockwise_is : (g : ℕ) → is_blockwise g ≡ true → (g ≡ 4) ⊎ (g ≡ 5)
blockwise_is g e = go (eqb g 4) refl e
  where
    go : (d : Bool) → eqb g 4 ≡ d → cond d true (eqb g 5) ≡ true → (g ≡ 4) ⊎ (g ≡ 5)
    go true q e = inl (eqb-true g 4 q)
    go false q e = inr (eqb-true g 5 e)

pub blockwise_not_five : (g : ℕ) → is_blockwise g ≡ true → (g ≡ 5 → ⊥) → g ≡ 4
blockwise_not_five g e f = go (blockwise_is g e)
  where
    go : (g ≡ 4) ⊎ (g ≡ 5) → g ≡ 4
    go (inl q) = q
    go (inr q) = absurd (f q)
