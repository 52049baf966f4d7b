-- Signed literals: their range, magnitude and numbers as calls gave them.
-- Assumes nothing.
use Prim.Native.Nat.{ℕ, zero, suc, ◌^◌, ◌<◌}
use native.Mathlib.Omega.{arith}
use mathlib.Core.Path.{◌≡◌, refl, sym, ◌∙◌, ap}
use mathlib.Core.Bool.{Bool, true, false, cond}
use lib.Dec.{eqb}
use lib.IntN.{ℤ, pos, negsuc, neg_ℤ, nat_abs}
use lib.Signed.{mag}
use mir.Syntax.{w32}
use mir.Val.{SFits, hbits, to_z, of_z}
use mir.Facts.{to_z-of_z}
use borrow.Author.Rules.{sfits_of}
use Rattle.encoding.specs.Literal.{Literal, literal_number}

-- what is below 2^31 without its sign is in the range of an i32, and so is its negation
pub abs_fits : (x : ℤ) → nat_abs x < 2 ^ 31 → SFits w32 x
abs_fits (pos n) h = sfits_of h
abs_fits (negsuc n) h = sfits_of (omega (arith, h))

pub abs_negated : (x : ℤ) → nat_abs (neg_ℤ x) ≡ nat_abs x
abs_negated (pos zero) = refl
abs_negated (pos (suc n)) = refl
abs_negated (negsuc n) = refl

-- what a call gave, read back from its bits: its contract's number
pub read_back : {x y : ℤ} → mag x < 2 ^ hbits w32 → x ≡ y → to_z w32 (of_z w32 x) ≡ y
read_back ok e = to_z-of_z (sfits_of {w = w32} ok) ∙ e

-- the machine compares bits with 0
pub zero_bits : {x : ℤ} → SFits w32 x → of_z w32 x ≡ 0 → x ≡ pos 0
zero_bits h e = sym (to_z-of_z h) ∙ ap (to_z w32) e

pub some_bits : {x : ℤ} → (of_z w32 x ≡ 0 → ⊥) → x ≡ pos 0 → ⊥
some_bits f e = f (ap (of_z w32) e)

-- x is the number of literal l
pub record Names (x : ℤ) (l : Literal) : Type 0 where
  pub is : x ≡ literal_number l

-- the literal f of a variable whose number is known, as a call gave it
pub named : (f : ℕ → Literal) {v u : ℕ} {x : ℤ} → mag x < 2 ^ hbits w32 → x ≡ literal_number (f v) → v ≡ u → Names (to_z w32 (of_z w32 x)) (f u)
named f ok e p = record { is = read_back ok e ∙ ap (λ (v : ℕ). literal_number (f v)) p }

-- the literal in slot l of a clause of two, and of three
pick : (d : Bool) {a b : Literal} {x y : ℤ} → Names x a → Names y b → Names (cond d x y) (cond d a b)
pick true p q = p
pick false p q = q

pub two_of : (l : ℕ) {x y z : ℤ} {a b : Literal} → mag z < 2 ^ hbits w32 → z ≡ cond (eqb l 1) x y → Names x a → Names y b
    → to_z w32 (of_z w32 z) ≡ literal_number (cond (eqb l 1) a b)
two_of l ok e p q = read_back ok (e ∙ (pick (eqb l 1) p q).is)

pub three_of : (l : ℕ) {x y z t : ℤ} {a b c : Literal} → mag t < 2 ^ hbits w32 → t ≡ cond (eqb l 1) x (cond (eqb l 2) y z)
    → Names x a → Names y b → Names z c → to_z w32 (of_z w32 t) ≡ literal_number (cond (eqb l 1) a (cond (eqb l 2) b c))
three_of l ok e p q r = read_back ok (e ∙ (pick (eqb l 1) p (pick (eqb l 2) q r)).is)
