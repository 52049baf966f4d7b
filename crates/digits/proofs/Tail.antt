-- A buffer e whose tail from a on was lent, and came back with a text at its front.
--   tail_length    how long the lent tail is
--   lent           the buffer afterwards
--   grow           the same, where the buffer began with p and was as `before` past it: it now begins with p ++ x
-- Assumes nothing.
use Prim.Native.Nat.{ℕ, ◌+◌, ◌-◌}
use native.Mathlib.Nat.{le_of_eq}
use mathlib.Core.Path.{◌≡◌, ◌∙◌, ap}
use mathlib.Core.List.{List, ◌++◌, append-nil, append_assoc}
use lib.ListN.{length, take, drop, length-drop, drop_of_length-le}
use lib.Seq.{take_all, drop-drop, take_at, drop_at}
use borrow.Rule.Slice.PartMut.{put_mid}

module _ (e : List ℕ) (a : ℕ) where
  pub tail_is : take (length e - a) (drop a e) ≡ drop a e
  tail_is = take_all (length e - a) (drop a e) (le_of_eq (length-drop a e))

  pub tail_length : length (take (length e - a) (drop a e)) ≡ length e - a
  tail_length = ap (λ (l : List ℕ). length l) tail_is ∙ length-drop a e

  pub lent : (k : ℕ) (text l : List ℕ) → l ≡ text ++ drop k (take (length e - a) (drop a e))
      → put_mid a (length e - a) e l ≡ take a e ++ (text ++ drop (a + k) e)
  lent k text l p = rw (drop_of_length-le (drop a e) (le_of_eq (length-drop a e)), append-nil l, p, tail_is, drop-drop)

pub grow : (to r : ℕ) (before e p x l : List ℕ) → length p ≡ to → e ≡ p ++ drop to before
    → l ≡ x ++ drop r (take (length e - to) (drop to e)) → put_mid to (length e - to) e l ≡ (p ++ x) ++ drop (to + r) before
grow to r before e p x l n h q =
    lent e to r x l q
    ∙ rw (← drop-drop r to e, h, take_at p (drop to before) to n, drop_at p (drop to before) to n, drop-drop r to before, append_assoc)
