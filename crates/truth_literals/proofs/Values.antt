-- Truth of single literals, as code tests it.
-- Assumes nothing.
use Prim.Native.Nat.{ℕ, zero, suc, ◌-◌, ◌≤◌, ◌<◌, ◌^◌}
use native.Mathlib.Omega.{arith}
use mathlib.Core.Path.{◌≡◌, refl, sym, ◌∙◌, ap, ap₂, subst}
use mathlib.Core.Bool.{Bool, true, false, not, ◌&&◌, ◌||◌, false≢true}
use mathlib.Core.List.{List}
use lib.Dec.{eqb}
use lib.IntN.{ℤ, pos, negsuc, nat_abs}
use lib.ListN.{length, get_or}
use lib.Signed.{mag}
use mir.Syntax.{w32}
use mir.Val.{hbits, to_z, of_z}
use Rattle.encoding.specs.Literal.{Literal, var, −◌, literal_number, literal_true, variable}
use Rattle.encoding.proofs.Literals.{number_size}
use Rattle.clause_literals.specs.Signed.{is_negative}
use Rattle.clause_walk.specs.Walk.{signed}
use Rattle.clause_literals.proofs.Signed.{read_back}
use Rattle.clause_literals.proofs.Products.{one_before}
use Rattle.truth_literals.specs.Values.{value_in, number_true}
use Rattle.truth_literals.specs.Clauses.{two_true, three_true, pairs_true}

pub value_is : (bs : List ℕ) (v : ℕ) → not (eqb (get_or bs (v - 1) 0) 0) ≡ value_in bs v
value_is bs v = ap (λ (k : ℕ). not (eqb (get_or bs k 0) 0)) (one_before v)

-- y is x as the machine holds it, r what is_negative returns, n the magnitude and v its variable's value
module _ (bs : List ℕ) (x y : ℤ) (r v : Bool) (n : ℕ) (q : y ≡ x) (e : r ≡ is_negative y) (m : n ≡ nat_abs y) (u : v ≡ value_in bs n) where
  pub true_negative : r ≡ true → not v ≡ number_true bs x
  true_negative s = ap not (u ∙ ap (value_in bs) m) ∙ go y (sym e ∙ s) ∙ ap (number_true bs) q
    where
      go : (y : ℤ) → is_negative y ≡ true → not (value_in bs (nat_abs y)) ≡ number_true bs y
      go (pos k) h = absurd (false≢true h)
      go (negsuc k) h = refl

  pub true_positive : r ≡ false → v ≡ number_true bs x
  true_positive s = u ∙ ap (value_in bs) m ∙ go y (sym e ∙ s) ∙ ap (number_true bs) q
    where
      go : (y : ℤ) → is_negative y ≡ false → value_in bs (nat_abs y) ≡ number_true bs y
      go (pos k) h = refl
      go (negsuc k) h = absurd (false≢true (sym h))

-- a literal of a variable above 0 is true as its number is
number_true_lem : (bs : List ℕ) (l : Literal) → 0 < variable l → number_true bs (literal_number l) ≡ literal_true (value_in bs) l
number_true_lem bs (var v) h = refl
number_true_lem bs (− zero) h = absurd (omega (arith, h))
number_true_lem bs (− suc v) h = refl

-- z is the number of the literal l, whose variable has a byte
module _ (bs : List ℕ) (l : Literal) {z : ℤ} (p : z ≡ literal_number l) (h : 0 < variable l) where
  pub literal_asks : variable l < 2 ^ 16 → variable l ≤ length bs → (nat_abs z < 2 ^ 31) × (0 < nat_abs z) × (nat_abs z ≤ length bs)
  literal_asks b k = (omega (arith, size, b), omega (arith, size, h), subst (λ (n : ℕ). n ≤ length bs) (sym size) k)
    where
      size : nat_abs z ≡ variable l
      size = ap nat_abs p ∙ number_size l

  pub literal_true_lem : {r : Bool} → r ≡ number_true bs z → r ≡ literal_true (value_in bs) l
  literal_true_lem q = q ∙ ap (number_true bs) p ∙ number_true_lem bs l h

-- ---- a literal that a call gave and that is passed on

pub positive_size : {v : ℕ} {x : ℤ} → mag x < 2 ^ hbits w32 → x ≡ literal_number (var v) → nat_abs (to_z w32 (of_z w32 x)) ≡ v
positive_size ok e = ap nat_abs (read_back ok e)

pub negated_size : (v : ℕ) {x : ℤ} → mag x < 2 ^ hbits w32 → x ≡ literal_number (− v) → nat_abs (to_z w32 (of_z w32 x)) ≡ v
negated_size v ok e = ap nat_abs (read_back ok e) ∙ number_size (− v)

pub signed_size : (b : Bool) (v : ℕ) {x : ℤ} → mag x < 2 ^ hbits w32 → x ≡ literal_number (signed b v) → nat_abs (to_z w32 (of_z w32 x)) ≡ v
signed_size true v ok e = positive_size ok e
signed_size false v ok e = negated_size v ok e

pub signed_some : (b : Bool) {v : ℕ} → 0 < v → 0 < variable (signed b v)
signed_some true h = h
signed_some false h = h

-- x is the number of the literal l
pub record Says (l : Literal) (x : ℤ) : Type 0 where
  pub number : x ≡ literal_number l
  pub some : 0 < variable l

pub says : (l : Literal) {x : ℤ} → mag x < 2 ^ hbits w32 → x ≡ literal_number l → 0 < variable l → Says l (to_z w32 (of_z w32 x))
says l ok e h = record { number = read_back ok e; some = h }

module _ (bs : List ℕ) {l : Literal} {x : ℤ} (p : Says l x) where
  pub one_true : {r : Bool} → r ≡ number_true bs x → r ≡ literal_true (value_in bs) l
  one_true e = literal_true_lem bs l p.number p.some e

  module _ {m : Literal} {y : ℤ} (q : Says m y) where
    pub two_true_lem : {r : Bool} → r ≡ (number_true bs x || number_true bs y) → r ≡ two_true (value_in bs) l m
    two_true_lem e = e ∙ ap₂ ◌||◌ (one_true refl) (literal_true_lem bs m q.number q.some refl)

    pub three_true_lem : {n : Literal} {z : ℤ} → Says n z → {r : Bool} → r ≡ ((number_true bs x || number_true bs y) || number_true bs z)
        → r ≡ three_true (value_in bs) l m n
    three_true_lem {n} s e = e ∙ ap₂ ◌||◌ (two_true_lem refl) (literal_true_lem bs n s.number s.some refl)

-- ---- parameters that are passed on: each is what the machine reads back of it

pub pairs_read : (bs : List ℕ) {z x y g z' x' y' g' : ℤ} → z' ≡ z → x' ≡ x → y' ≡ y → g' ≡ g → {p q r : Bool}
    → p ≡ ((number_true bs z' || number_true bs x') || number_true bs y')
    → q ≡ ((number_true bs z' || number_true bs x') || number_true bs g') → r ≡ ((number_true bs z' || number_true bs y') || number_true bs g')
    → ((p && q) && r) ≡ pairs_true (number_true bs) z x y g
pairs_read bs a b c d e f h = ap₂ ◌&&◌ (ap₂ ◌&&◌ (e ∙ three a b c) (f ∙ three a b d)) (h ∙ three a c d)
  where
    three : {x y z x' y' z' : ℤ} → x' ≡ x → y' ≡ y → z' ≡ z
        → ((number_true bs x' || number_true bs y') || number_true bs z') ≡ ((number_true bs x || number_true bs y) || number_true bs z)
    three p q s = ap₂ ◌||◌ (ap₂ ◌||◌ (ap (number_true bs) p) (ap (number_true bs) q)) (ap (number_true bs) s)

pub place_asks : (bs : List ℕ) {x y : ℤ} {n : ℕ} → y ≡ x → n ≡ nat_abs y → 0 < nat_abs x → nat_abs x ≤ length bs → (0 < n) × (n ≤ length bs)
place_asks bs {x} {y} {n} q m h k = (subst (λ (z : ℕ). 0 < z) (sym size) h, subst (λ (z : ℕ). z ≤ length bs) (sym size) k)
  where
    size : n ≡ nat_abs x
    size = m ∙ ap nat_abs q
