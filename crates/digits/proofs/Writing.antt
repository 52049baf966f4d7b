-- The last digit of a number in a buffer b, and the text of a literal by its sign.
--   next_digit     the last digit of a number n, after those of m, a tenth of n
--   below_zero_is  the sign, as std tests it
--   text_positive, text_negative    a literal by its sign and magnitude; word_positive, word_negative: with one space
--   lead_room, lead_start, lead_tail, lead_sum, lead_put, lead_kept    a text t of a byte u and a text x: the byte, and x after it
--   any_start, any_tail, any_put, any_kept    the same with a byte v in the place of u, which must be u for the text alone
-- Assumes nothing.
use Prim.Native.Nat.{ℕ, ◌+◌, ◌-◌, ◌/◌, ◌%◌, ◌≤◌, ◌<◌}
use native.Mathlib.Omega.{arith}
use mathlib.Core.Path.{◌≡◌, refl, sym, ◌∙◌, ap}
use mathlib.Core.Bool.{Bool, true, false, false≢true}
use mathlib.Core.List.{List, [], ◌∷◌, ◌++◌}
use lib.Dec.{leb-suc-zero}
use lib.IntN.{ℤ, pos, negsuc, nat_abs}
use lib.ListN.{length, take, drop, set}
use borrow.Rule.Slice.PartMut.{put_mid}
use Rattle.std.specs.Int.{is_negative as below_zero}
use Rattle.text.specs.Decimal.{decimal}
use Rattle.text.proofs.Decimals.{decimal_large}
use Rattle.clause_literals.specs.Signed.{is_negative}
use Rattle.digits.specs.Bytes.{literal_text, Room, Wrote}
use Rattle.digits.proofs.Wrote.{wrote_none, room_as, wrote_as, wrote_byte, wrote_after, after_start, after_room, after_sum, after_kept}

module _ (b : List ℕ) where
  pub next_digit : (n : ℕ) {m k v : ℕ} {e : List ℕ} → 10 ≤ n → m ≡ n / 10 → v ≡ 48 + n % 10 → k < length b → Wrote (decimal m) b e k
      → Wrote (decimal n) b (set e k v) (k + 1)
  next_digit n {v = v} h q d l W = wrote_as (rw (q, d, decimal_large n h)) (wrote_byte W v l)

pub below_zero_is : (y : ℤ) → below_zero y ≡ is_negative y
below_zero_is (pos n) = leb-suc-zero n
below_zero_is (negsuc n) = refl

-- y is x as the machine holds it, r and n are what is_negative and magnitude return
pub text_positive : (x y : ℤ) (r : Bool) (n : ℕ) → y ≡ x → r ≡ is_negative y → r ≡ false → n ≡ nat_abs y → literal_text x ≡ decimal n
text_positive x y r n q e s p = ap literal_text (sym q) ∙ go y (sym e ∙ s) p
  where
    go : (y : ℤ) → is_negative y ≡ false → n ≡ nat_abs y → literal_text y ≡ decimal n
    go (pos m) e p = ap decimal (sym p)
    go (negsuc m) e p = absurd (false≢true (sym e))

pub text_negative : (x y : ℤ) (r : Bool) (n : ℕ) → y ≡ x → r ≡ is_negative y → r ≡ true → n ≡ nat_abs y → literal_text x ≡ 45 ∷ decimal n
text_negative x y r n q e s p = ap literal_text (sym q) ∙ go y (sym e ∙ s) p
  where
    go : (y : ℤ) → is_negative y ≡ true → n ≡ nat_abs y → literal_text y ≡ 45 ∷ decimal n
    go (pos m) e p = absurd (false≢true e)
    go (negsuc m) e p = ap (λ (k : ℕ). 45 ∷ decimal k) (sym p)

module _ {x y : ℤ} {r : Bool} {n : ℕ} (q : y ≡ x) (e : r ≡ is_negative y) where
  pub word_positive : r ≡ false → n ≡ nat_abs y → literal_text x ++ (32 ∷ []) ≡ decimal n ++ (32 ∷ [])
  word_positive s p = ap (λ (t : List ℕ). t ++ (32 ∷ [])) (text_positive x y r n q e s p)

  pub word_negative : r ≡ true → n ≡ nat_abs y → literal_text x ++ (32 ∷ []) ≡ 45 ∷ (decimal n ++ (32 ∷ []))
  word_negative s p = ap (λ (t : List ℕ). t ++ (32 ∷ [])) (text_negative x y r n q e s p)

-- ---- a byte u, then the rest

module _ (b : List ℕ) {u : ℕ} {t x : List ℕ} (q : t ≡ u ∷ x) (f : Room t b) where
  pub lead_room : 0 < length b
  lead_room = omega (arith, room_as (sym q) f)

  -- with any byte v at its place
  module _ (v : ℕ) where
    whole : Room (v ∷ x) b
    whole = room_as (sym q) f

    first : Wrote (v ∷ []) b (set b 0 v) 1
    first = wrote_byte (wrote_none b) v lead_room

    pub any_start : 1 ≤ length (set b 0 v)
    any_start = after_start first x whole

    pub any_tail : Room x (take (length (set b 0 v) - 1) (drop 1 (set b 0 v)))
    any_tail = after_room first x whole

    module _ {l : List ℕ} {r : ℕ} (X : Wrote x (take (length (set b 0 v) - 1) (drop 1 (set b 0 v))) l r) where
      pub any_put : v ≡ u → Wrote t b (put_mid 1 (length (set b 0 v) - 1) (set b 0 v) l) (1 + r)
      any_put p = wrote_as (ap (λ (k : ℕ). k ∷ x) p ∙ sym q) (wrote_after first x X)

      pub any_kept : length (put_mid 1 (length (set b 0 v) - 1) (set b 0 v) l) ≡ length b
      any_kept = after_kept first x whole X

  pub lead_start : 1 ≤ length (set b 0 u)
  lead_start = any_start u

  pub lead_tail : Room x (take (length (set b 0 u) - 1) (drop 1 (set b 0 u)))
  lead_tail = any_tail u

  pub lead_sum : {r : ℕ} → r ≡ length x → 1 + r ≤ length b
  lead_sum = after_sum (first u) x (whole u)

  module _ {l : List ℕ} {r : ℕ} (X : Wrote x (take (length (set b 0 u) - 1) (drop 1 (set b 0 u))) l r) where
    pub lead_put : Wrote t b (put_mid 1 (length (set b 0 u) - 1) (set b 0 u) l) (1 + r)
    lead_put = any_put u X refl

    pub lead_kept : length (put_mid 1 (length (set b 0 u) - 1) (set b 0 u) l) ≡ length b
    lead_kept = any_kept u X
