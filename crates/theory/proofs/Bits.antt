-- The number of a row of bits: it fits its width, its lowest bits are a remainder, and it determines the bits.
-- Assumes nothing.
use Prim.Native.Nat.{ℕ, zero, suc, ◌+◌, ◌*◌, ◌-◌, ◌^◌, ◌/◌, ◌%◌, ◌≤◌, ◌<◌}
use native.Mathlib.Nat.{not-suc-le-zero, zero-mul, one-mul, add-zero, add-suc, add_comm, mod-lt, mod-one, mod-eq_of_lt, add-mul-mod_self_right, add-sub_of_le, pow-succ'}
use native.Mathlib.Numerals.{one-add}
use native.Mathlib.Omega.{arith}
use lib.Pow.{pow-add, mod-pow-add}
use mathlib.Core.Path.{◌≡◌, refl, sym, ◌∙◌, ap, ap₂, subst}
use mathlib.Core.Bool.{Bool, true, false, cond}
use lib.Dec.{eqb}
use Rattle.lists.proofs.Tests.{up_to_lem}
use Rattle.lists.proofs.Tables.{sum_ext}
use Rattle.encoding.specs.Counter.{value, bit}

pub value_lt : (X : ℕ → Bool) (w : ℕ) → value X w < 2 ^ w
value_lt X zero = omega arith
value_lt X (suc w) = subst (λ (q : ℕ). value X (suc w) < q) (sym (pow-succ' 2 w)) (go (X (suc w)) (2 ^ w) (value_lt X w))
  where
    go : (b : Bool) (p : ℕ) → value X w < p → value X w + cond b p 0 < 2 * p
    go true p h = omega arith
    go false p h = omega arith

pub value_ext : (X Y : ℕ → Bool) (w : ℕ) → ((i : ℕ) → i < w → X (suc i) ≡ Y (suc i)) → value X w ≡ value Y w
value_ext X Y w e = sum_ext w _ _ (λ i h. ap (λ b. cond b (2 ^ i) 0) (e i h))

-- the bits above the lowest w add a multiple of 2^w
value_above : (X : ℕ → Bool) (w k : ℕ) → (q : ℕ) × (value X (w + k) ≡ value X w + q * 2 ^ w)
value_above X w zero = (0, ap (value X) (add-zero w) ∙ sym (ap (λ (z : ℕ). value X w + z) (zero-mul (2 ^ w)) ∙ add-zero (value X w)))
value_above X w (suc k) =
    let r = value_above X w k in (
      r.0 + cond (X (suc (w + k))) (2 ^ k) 0,
      ap (value X) (add-suc w k)
          ∙ go (X (suc (w + k))) (value X (w + k)) (value X w) r.0 (2 ^ (w + k)) (2 ^ w) (2 ^ k) (pow-add 2 w k) r.1,
    )
  where
    go : (b : Bool) (x y q p s t : ℕ) → p ≡ s * t → x ≡ y + q * s → x + cond b p 0 ≡ y + (q + cond b t 0) * s
    go true x y q p s t e f = omega arith
    go false x y q p s t e f = omega arith

pub value_mod : (X : ℕ → Bool) (w i : ℕ) → i ≤ w → value X w % 2 ^ i ≡ value X i
value_mod X w i h =
    let r = value_above X i (w - i) in
    ap (λ (x : ℕ). x % 2 ^ i) (ap (value X) (sym (add-sub_of_le h)) ∙ r.1)
    ∙ add-mul-mod_self_right (value X i) r.0 (2 ^ i) ∙ mod-eq_of_lt (value_lt X i)

pub value_bit : (x w : ℕ) → value (bit x) w ≡ x % 2 ^ w
value_bit x zero = sym (mod-one x)
value_bit x (suc w) =
    ap₂ ◌+◌ (value_bit x w) (go (x / 2 ^ w % 2) (2 ^ w) (mod-lt (x / 2 ^ w) (omega arith)))
    ∙ sym (ap (λ (k : ℕ). x % 2 ^ k) (sym (one-add w)) ∙ mod-pow-add x 1 w ∙ add_comm (x / 2 ^ w % 2 ^ 1 * 2 ^ w) (x % 2 ^ w))
  where
    go : (r p : ℕ) → r < 2 → cond (eqb r 1) p 0 ≡ r * p
    go zero p h = sym (zero-mul p)
    go (suc zero) p h = sym (one-mul p)
    go (suc (suc r)) p h = absurd (omega arith)

pub value_inj : (X Y : ℕ → Bool) (w : ℕ) → value X w ≡ value Y w → (i : ℕ) → i < w → X (suc i) ≡ Y (suc i)
value_inj X Y zero e i h = absurd (not-suc-le-zero h)
value_inj X Y (suc w) e i h =
    let t = top (X (suc w)) (Y (suc w)) (value X w) (value Y w) (2 ^ w) (value_lt X w) (value_lt Y w) e in
    up_to_lem (λ i. X (suc i) ≡ Y (suc i)) w (value_inj X Y w t.1) t.0 i h
  where
    top : (x y : Bool) (a b p : ℕ) → a < p → b < p → a + cond x p 0 ≡ b + cond y p 0 → (x ≡ y) × (a ≡ b)
    top true true a b p g h e = (refl, omega arith)
    top true false a b p g h e = absurd (omega arith)
    top false true a b p g h e = absurd (omega arith)
    top false false a b p g h e = (refl, omega arith)

-- the bits of a row's number are the row
pub bit_value : (X : ℕ → Bool) (w i : ℕ) → i < w → bit (value X w) (suc i) ≡ X (suc i)
bit_value X w i h = value_inj (bit (value X w)) X w (value_bit (value X w) w ∙ mod-eq_of_lt (value_lt X w)) i h

-- and so are those of a number that agrees with it modulo 2^w
pub bit_mod : (X : ℕ → Bool) (x w i : ℕ) → value X w ≡ x % 2 ^ w → i < w → X (suc i) ≡ bit x (suc i)
bit_mod X x w i e h = value_inj X (bit x) w (e ∙ sym (value_bit x w)) i h
