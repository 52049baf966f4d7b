-- What holds of each element of a list.
--   Each Q xs     Q holds of each element of xs
--   each_append   of two lists, one after the other
--   each_at       by place
-- Assumes nothing.
use Prim.Native.Nat.{ℕ, zero, suc, ◌<◌}
use native.Mathlib.Nat.{not-suc-le-zero, le_of_suc-le-suc}
use mathlib.Core.List.{List, [], ◌∷◌, ◌++◌}
use lib.ListN.{length, get_or}

pub data Each {A : Type 0} (Q : A → Type 0) : List A → Type 0 where
  none : Each Q []
  also : {x : A} {xs : List A} → Q x → Each Q xs → Each Q (x ∷ xs)

module _ {A : Type 0} (Q : A → Type 0) where
  pub each_append : {xs ys : List A} → Each Q xs → Each Q ys → Each Q (xs ++ ys)
  each_append none f = f
  each_append (also q e) f = also q (each_append e f)

  pub each_at : (d : A) {xs : List A} → Each Q xs → (j : ℕ) → j < length xs → Q (get_or xs j d)
  each_at d none j h = absurd (not-suc-le-zero h)
  each_at d (also q e) zero h = q
  each_at d (also q e) (suc j) h = each_at d e j (le_of_suc-le-suc h)
