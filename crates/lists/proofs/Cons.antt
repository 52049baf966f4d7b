-- Equal lists that are not empty have equal first elements and equal rests.
-- Assumes nothing.
use mathlib.Core.Path.{◌≡◌, ap}
use mathlib.Core.List.{List, ◌∷◌}
use lib.ListN.{get_or, drop}

module _ {A : Type 0} {x y : A} {xs ys : List A} where
  pub cons_head : x ∷ xs ≡ y ∷ ys → x ≡ y
  cons_head e = ap (λ (l : List A). get_or l 0 x) e

  pub cons_tail : x ∷ xs ≡ y ∷ ys → xs ≡ ys
  cons_tail e = ap (drop 1) e
