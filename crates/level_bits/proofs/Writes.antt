-- Tables of truth values written at the front of a buffer b, one value after the other; e is the buffer as it then is.
--   put_room, put_kept    there is room for value k + 1, and the buffer's length stays
--   put_next              value k + 1 after the first k
-- Assumes nothing.
use Prim.Native.Nat.{ℕ, suc, ◌+◌, ◌≤◌, ◌<◌}
use native.Mathlib.Numerals.{add-one}
use native.Mathlib.Omega.{arith}
use mathlib.Core.Path.{◌≡◌, sym, ◌∙◌, ap, subst}
use mathlib.Core.Bool.{Bool}
use mathlib.Core.List.{List, [], ◌∷◌, ◌++◌}
use lib.ListN.{length, set}
use Rattle.lists.proofs.Tables.{length_tab}
use Rattle.digits.specs.Bytes.{Room, Wrote}
use Rattle.digits.proofs.Wrote.{wrote_as, wrote_byte, wrote_kept}
use Rattle.level_bits.specs.Bits.{byte_of, truth_bytes}

module _ (p : ℕ → Bool) (n : ℕ) {b e : List ℕ} {k : ℕ} (f : Room (truth_bytes n p) b) (W : Wrote (truth_bytes k p) b e k) where
  pub put_kept : k ≤ n → length e ≡ length b
  put_kept h = wrote_kept W (omega (arith, h, f, length_tab n (λ i. byte_of (p i)), length_tab k (λ i. byte_of (p i))))

  within : k < n → k < length b
  within h = omega (arith, h, f, length_tab n (λ i. byte_of (p i)))

  pub put_room : k < n → k < length e
  put_room h = omega (arith, within h, put_kept (omega (arith, h)))

  -- at place i the byte v
  pub put_next : {i v : ℕ} → k < n → i ≡ k → v ≡ byte_of (p (suc k)) → Wrote (truth_bytes (k + 1) p) b (set e i v) (k + 1)
  put_next {i} {v} h q r =
      subst (λ (j : ℕ). Wrote (truth_bytes (k + 1) p) b (set e j v) (k + 1)) (sym q)
      (wrote_as (ap (λ (x : ℕ). truth_bytes k p ++ (x ∷ [])) r ∙ ap (λ (j : ℕ). truth_bytes j p) (sym (add-one k))) (wrote_byte W v (within h)))
