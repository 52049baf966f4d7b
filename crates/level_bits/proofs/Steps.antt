-- Bits and comparisons, one bit after the other.
--   rest_next, bit_is                  what is left of a number, and its lowest bit
--   bits_equal, bits_differ            a bit that decides, and one that does not
--   less_next, less_goes               whether the lowest bits of x are below those of y
-- Assumes nothing.
use Prim.Native.Nat.{ℕ, zero, suc, ◌+◌, ◌*◌, ◌^◌, ◌/◌, ◌%◌, ◌<◌}
use native.Mathlib.Nat.{mod-lt}
use native.Mathlib.Numerals.{add-one, one-add}
use native.Mathlib.Omega.{arith}
use mathlib.Core.Path.{◌≡◌, refl, sym, ◌∙◌, ap, ap₂}
use mathlib.Core.Bool.{Bool, true, false, cond}
use lib.Dec.{eqb, ltb}
use lib.Pow.{pow_pos, shr-shr, mod-pow-add}
use borrow.Author.Tests.{eq-eqb, ne_eqb, lt-ltb, le-ltb, ltb-true, ltb-false}
use Rattle.encoding.specs.Counter.{bit}
use Rattle.encoding.specs.Fill.{less_at}
use Rattle.level_bits.specs.Bits.{byte_of}

pub rest_next : (x i : ℕ) {r : ℕ} → r ≡ x / 2 ^ i → r / 2 ≡ x / 2 ^ (i + 1)
rest_next x i e = ap (λ (r : ℕ). r / 2) e ∙ shr-shr x i 1

bit_byte : (r : ℕ) → r < 2 → r ≡ byte_of (eqb r 1)
bit_byte zero h = refl
bit_byte (suc zero) h = refl
bit_byte (suc (suc r)) h = absurd (omega arith)

pub bit_is : (x i : ℕ) {r : ℕ} → r ≡ x / 2 ^ i → r % 2 ≡ byte_of (bit x (suc i))
bit_is x i e = ap (λ (r : ℕ). r % 2) e ∙ bit_byte (x / 2 ^ i % 2) (mod-lt (x / 2 ^ i) (omega arith))

-- one bit above: c and d are the bits, u and v what lies below them, both below s
above : (c d u v s : ℕ) → c < 2 → d < 2 → u < s → v < s → cond (eqb c d) (byte_of (ltb u v)) d ≡ byte_of (ltb (c * s + u) (d * s + v))
above zero zero u v s g h k l = ap₂ (λ (x y : ℕ). byte_of (ltb x y)) (same u) (same v)
  where
    same : (u : ℕ) → u ≡ 0 * s + u
    same u = omega arith
above zero (suc zero) u v s g h k l = sym (ap byte_of (lt-ltb (0 * s + u) (1 * s + v) (omega (arith, k))))
above (suc zero) zero u v s g h k l = sym (ap byte_of (le-ltb (1 * s + u) (0 * s + v) (omega (arith, l))))
above (suc zero) (suc zero) u v s g h k l = go (ltb u v) refl
  where
    go : (b : Bool) → ltb u v ≡ b → byte_of b ≡ byte_of (ltb (1 * s + u) (1 * s + v))
    go true e = sym (ap byte_of (lt-ltb (1 * s + u) (1 * s + v) (omega (arith, ltb-true u v e))))
    go false e = sym (ap byte_of (le-ltb (1 * s + u) (1 * s + v) (omega (arith, ltb-false u v e))))
above (suc (suc c)) d u v s g h k l = absurd (omega arith)
above zero (suc (suc d)) u v s g h k l = absurd (omega arith)
above (suc zero) (suc (suc d)) u v s g h k l = absurd (omega arith)

low_bits : (x i : ℕ) → x % 2 ^ suc i ≡ x / 2 ^ i % 2 * 2 ^ i + x % 2 ^ i
low_bits x i = ap (λ (k : ℕ). x % 2 ^ k) (sym (one-add i)) ∙ mod-pow-add x 1 i

-- the lower bits decide where the bits a and b are equal, else b does
module _ {a b : ℕ} (x y : ℕ) where
  pub bits_equal : a ≡ b → x ≡ cond (eqb a b) x y
  bits_equal e = sym (ap (λ (d : Bool). cond d x y) (eq-eqb a b e))

  pub bits_differ : (a ≡ b → ⊥) → y ≡ cond (eqb a b) x y
  bits_differ f = sym (ap (λ (d : Bool). cond d x y) (ne_eqb a b f))

pub less_next : (x y i : ℕ) {p q b r : ℕ} → p ≡ x / 2 ^ i → q ≡ y / 2 ^ i → b ≡ byte_of (less_at x y i) → r ≡ cond (eqb (p % 2) (q % 2)) b (q % 2)
    → r ≡ byte_of (less_at x y (suc i))
less_next x y i {p} {q} {b} e f g h =
    h ∙ ap₂ (λ (p q : ℕ). cond (eqb (p % 2) (q % 2)) b (q % 2)) e f ∙ ap (λ (b : ℕ). cond (eqb (x / 2 ^ i % 2) (y / 2 ^ i % 2)) b (y / 2 ^ i % 2)) g
    ∙ above (x / 2 ^ i % 2) (y / 2 ^ i % 2) (x % 2 ^ i) (y % 2 ^ i) (2 ^ i)
    (mod-lt (x / 2 ^ i) (omega arith)) (mod-lt (y / 2 ^ i) (omega arith)) (mod-lt x (pow_pos i)) (mod-lt y (pow_pos i))
    ∙ sym (ap₂ (λ (u v : ℕ). byte_of (ltb u v)) (low_bits x i) (low_bits y i))

pub less_goes : (x y i : ℕ) {p q b r : ℕ} → p ≡ x / 2 ^ i → q ≡ y / 2 ^ i → b ≡ byte_of (less_at x y i) → r ≡ cond (eqb (p % 2) (q % 2)) b (q % 2)
    → (p / 2 ≡ x / 2 ^ (i + 1)) × (q / 2 ≡ y / 2 ^ (i + 1)) × (r ≡ byte_of (less_at x y (i + 1)))
less_goes x y i e f g h = (rest_next x i e, rest_next y i f, less_next x y i e f g h ∙ ap (λ (k : ℕ). byte_of (less_at x y k)) (sym (add-one i)))
