-- Texts at the front of a buffer b, one after the other; e is the buffer as it then is.
--   wrote_none                nothing was written yet
--   room_as, wrote_as         room for a text, and the text written, by another name
--   room_front                where there is room for p and x, there is for p
--   wrote_kept                the buffer's length stays
--   wrote_after               a text x after p, written into the lent tail
--   after_start, after_room, after_sum, after_kept    where there is room for p and x: p ends within the buffer, x fits into the tail, both end within
--                             the buffer, and its length stays
--   wrote_byte                a byte after p; byte_room: there is room for it
--   wrote_row, row_start, row_room, row_sum, rows_whole    the same for text k + 1 of n texts after the first k, and all of them
--   wrote_end, end_room       0 and byte 10 after the literals of a clause, and that there is room for them
-- Assumes nothing.
use Prim.Native.Nat.{ℕ, zero, suc, ◌+◌, ◌-◌, ◌≤◌, ◌<◌}
use native.Mathlib.Nat.{le_antisymm, le_trans, le_refl}
use native.Mathlib.Numerals.{add-one}
use native.Mathlib.Omega.{arith}
use mathlib.Core.Path.{◌≡◌, refl, sym, ◌∙◌, ap, ap₂, subst}
use mathlib.Core.Logic.{⊎_elim}
use mathlib.Core.List.{List, [], ◌∷◌, ◌++◌, append_assoc}
use lib.ListN.{length, take, drop, set, length-append, length-drop}
use lib.Seq.{set_at, drop-cons}
use borrow.Rule.Slice.PartMut.{put_mid}
use Rattle.lists.specs.Lists.{each}
use Rattle.lists.proofs.Tests.{le_or_lt}
use Rattle.encoding.specs.Literal.{Clause}
use Rattle.digits.specs.Bytes.{literals_text, line_text, Room, Wrote}
use Rattle.digits.proofs.Tail.{tail_length, grow}
use Rattle.digits.proofs.Lengths.{line_length}

pub wrote_none : (b : List ℕ) → Wrote [] b b 0
wrote_none b = record { count = refl; bytes = refl }

pub room_as : {s t : List ℕ} {n : ℕ} → s ≡ t → length t ≤ n → length s ≤ n
room_as {n = n} q f = subst (λ (u : List ℕ). length u ≤ n) (sym q) f

pub wrote_as : {s t b e : List ℕ} {r : ℕ} → s ≡ t → Wrote s b e r → Wrote t b e r
wrote_as {b = b} {e = e} {r = r} q W = subst (λ (u : List ℕ). Wrote u b e r) q W

pub room_front : (p x : List ℕ) {n : ℕ} → length (p ++ x) ≤ n → length p ≤ n
room_front p x f = omega (arith, length-append p x, f)

pub wrote_kept : {p b e : List ℕ} {to : ℕ} → Wrote p b e to → Room p b → length e ≡ length b
wrote_kept {p} {b} {to = to} W f =
    omega (arith, ap (λ (l : List ℕ). length l) W.bytes, length-append p (drop to b), length-drop to b, W.count, f)

module _ {p b e : List ℕ} {to : ℕ} (W : Wrote p b e to) where
  pub wrote_byte : (v : ℕ) → to < length b → Wrote (p ++ (v ∷ [])) b (set e to v) (to + 1)
  wrote_byte v h =
      record {
        count = omega (arith, W.count, length-append p (v ∷ []));
        bytes = rw (W.bytes, drop-cons b to 0 h, set_at p _ _ v to (sym W.count), append_assoc, add-one);
      }

  module _ (x : List ℕ) where
    pub wrote_after : {l : List ℕ} {r : ℕ} → Wrote x (take (length e - to) (drop to e)) l r → Wrote (p ++ x) b (put_mid to (length e - to) e l) (to + r)
    wrote_after {l} {r} X =
        record {
          count = omega (arith, W.count, X.count, length-append p x);
          bytes = grow to r b e p x l (sym W.count) W.bytes X.bytes;
        }

    module _ (f : Room (p ++ x) b) where
      pub after_start : to ≤ length e
      after_start = omega (arith, W.count, wrote_kept W (room_front p x f), length-append p x, f)

      pub after_room : Room x (take (length e - to) (drop to e))
      after_room = omega (arith, W.count, wrote_kept W (room_front p x f), length-append p x, tail_length e to, f)

      pub after_sum : {r : ℕ} → r ≡ length x → to + r ≤ length b
      after_sum q = omega (arith, W.count, length-append p x, q, f)

      pub after_kept : {l : List ℕ} {r : ℕ} → Wrote x (take (length e - to) (drop to e)) l r → length (put_mid to (length e - to) e l) ≡ length b
      after_kept X = wrote_kept (wrote_after X) f

  pub byte_room : (v : ℕ) → Room (p ++ (v ∷ [])) b → to < length b
  byte_room v f = omega (arith, W.count, length-append p (v ∷ []), f)

-- ---- several texts

module _ (F : ℕ → List ℕ) where
  rows_le : (n k : ℕ) → k ≤ n → length (each k F) ≤ length (each n F)
  rows_le zero k h = subst (λ (j : ℕ). length (each j F) ≤ 0) (sym (none k h)) (omega arith)
    where
      none : (k : ℕ) → k ≤ 0 → k ≡ 0
      none k h = omega arith
  rows_le (suc n) k h = ⊎_elim (λ (l : k ≤ n). le_trans (rows_le n k l) (omega (arith, length-append (each n F) (F (suc n))))) (λ (l : n < k). subst (λ (j : ℕ). length (each j F) ≤ length (each (suc n) F)) (le_antisymm l h) (le_refl (length (each (suc n) F)))) (le_or_lt k n)

  row_is : (k : ℕ) {x : List ℕ} → x ≡ F (k + 1) → each k F ++ x ≡ each (k + 1) F
  row_is k q = ap (λ (y : List ℕ). each k F ++ y) (q ∙ ap F (add-one k)) ∙ ap (λ (j : ℕ). each j F) (sym (add-one k))

  module _ (k : ℕ) {to : ℕ} {b e x : List ℕ} (W : Wrote (each k F) b e to) (q : x ≡ F (k + 1)) where
    pub wrote_row : {l : List ℕ} {r : ℕ} → Wrote x (take (length e - to) (drop to e)) l r → Wrote (each (k + 1) F) b (put_mid to (length e - to) e l) (to + r)
    wrote_row X = wrote_as (row_is k q) (wrote_after W x X)

    module _ {n : ℕ} (h : k < n) (f : Room (each n F) b) where
      fits : Room (each k F ++ x) b
      fits = room_as (row_is k q) (le_trans (rows_le n (k + 1) (omega (arith, h))) f)

      pub row_start : to ≤ length e
      row_start = after_start W x fits

      pub row_room : Room x (take (length e - to) (drop to e))
      row_room = after_room W x fits

      pub row_sum : {r : ℕ} → r ≡ length x → to + r ≤ length b
      row_sum = after_sum W x fits

  -- all of them, and the length of the buffer where some are written
  pub rows_whole : {n k to : ℕ} {b e : List ℕ} → k ≤ n → n ≤ k → Wrote (each k F) b e to → Wrote (each n F) b e to
  rows_whole {to = to} {b = b} {e = e} h l W = subst (λ (j : ℕ). Wrote (each j F) b e to) (le_antisymm h l) W

  pub rows_kept : {n k to : ℕ} {b e : List ℕ} → k ≤ n → Room (each n F) b → Wrote (each k F) b e to → length e ≡ length b
  rows_kept {n} {k} h f W = wrote_kept W (le_trans (rows_le n k h) f)

-- ---- the end of a line, two bytes

module _ (c : Clause) {b e : List ℕ} {to : ℕ} (f : Room (line_text c) b) (W : Wrote (literals_text c) b e to) where
  pub end_room : to + 2 ≤ length e
  end_room = omega (arith, W.count, line_length c, f, wrote_kept W (room_front (literals_text c) (48 ∷ 10 ∷ []) f))

  pub wrote_end : (u v : ℕ) → u ≡ 48 → v ≡ 10 → Wrote (line_text c) b (set (set e to u) (to + 1) v) (to + 2)
  wrote_end u v p q =
      subst (λ (m : ℕ). Wrote (line_text c) b (set (set e to u) (to + 1) v) m) (two_more to)
      (wrote_as line_is (wrote_byte (wrote_byte W u (omega (arith, W.count, line_length c, f))) v (omega (arith, W.count, line_length c, f))))
    where
      two_more : (m : ℕ) → m + 1 + 1 ≡ m + 2
      two_more m = omega arith

      line_is : (literals_text c ++ (u ∷ [])) ++ (v ∷ []) ≡ line_text c
      line_is = append_assoc (literals_text c) (u ∷ []) (v ∷ []) ∙ ap₂ (λ (u v : ℕ). literals_text c ++ (u ∷ v ∷ [])) p q
