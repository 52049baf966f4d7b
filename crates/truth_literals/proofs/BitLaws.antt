-- The clauses of a chain's bit, over an assignment and plain numbers.
--   first_bit, next_bit       those of the first bit, and of the second
--   further_bit               those of a further bit are as the second bit's
-- Assumes nothing.
use Prim.Native.Nat.{ℕ}
use mathlib.Core.Path.{◌≡◌, refl, sym, ◌∙◌, ap, ap₂}
use mathlib.Core.Bool.{Bool, true, false, ◌&&◌, ◌||◌, cond}
use mathlib.Core.List.{List}
use lib.Dec.{eqb}
use lib.IntN.{ℤ}
use borrow.Author.Tests.{ne_eqb}
use Rattle.lists.specs.Lists.{all_to, any_to}
use Rattle.encoding.specs.Literal.{Assignment, var, −◌, literal_true}
use Rattle.clause_walk.specs.Walk.{chain_first, chain_next}
use Rattle.clause_chains.specs.declared.Chain.{Chain}
use Rattle.truth_literals.specs.Values.{value_in, number_true}
use Rattle.truth_literals.specs.Clauses.{three_true, pairs_true, bit_true}
use Rattle.truth_literals.proofs.Values.{Says, two_true_lem, three_true_lem}

three_more : (a b d e : Bool) → (a && ((b && d) && e)) ≡ (((a && b) && d) && e)
three_more true b d e = refl
three_more false b d e = refl

-- the numbers of z, x and y, positive and negated
module _ (bs : List ℕ) (c : Chain) {z x y u v w : ℤ} (Z : Says (var c.z.0) z) (X : Says (var c.x.0) x) (Y : Says (var c.y.0) y)
    (Nz : Says (− c.z.0) u) (Nx : Says (− c.x.0) v) (Ny : Says (− c.y.0) w) where
  pub first_bit : {p q r : Bool} → p ≡ (number_true bs u || number_true bs v) → q ≡ (number_true bs u || number_true bs y)
      → r ≡ ((number_true bs z || number_true bs x) || number_true bs w) → ((p && q) && r) ≡ bit_true (value_in bs) c 1
  unfolding bit_true
  first_bit e f h = ap₂ ◌&&◌ (ap₂ ◌&&◌ (two_true_lem bs Nz Nx e) (two_true_lem bs Nz Y f)) (three_true_lem bs Z X Ny h)

  -- and of z at the bit before
  pub next_bit : {g k : ℤ} → Says (var c.g.0) g → Says (− c.g.0) k → {p q : Bool} → p ≡ pairs_true (number_true bs) u v y g
      → q ≡ pairs_true (number_true bs) z x w k
      → (p && q) ≡ bit_true (value_in bs) c 2
  unfolding bit_true
  next_bit G Ng {p} e f =
      ap (λ (t : Bool). p && t) (f ∙ ap₂ ◌&&◌ (ap₂ ◌&&◌ (three_true_lem bs Z X Ny refl) (three_true_lem bs Z X Ng refl)) (three_true_lem bs Z Ny Ng refl))
      ∙ three_more p fourth fifth sixth
      ∙ ap (λ (t : Bool). ((t && fourth) && fifth) && sixth)
      (e ∙ ap₂ ◌&&◌ (ap₂ ◌&&◌ (three_true_lem bs Nz Nx Y refl) (three_true_lem bs Nz Nx G refl)) (three_true_lem bs Nz Y G refl))
    where
      fourth : Bool
      fourth = three_true (value_in bs) (var c.z.0) (var c.x.0) (− c.y.0)

      fifth : Bool
      fifth = three_true (value_in bs) (var c.z.0) (var c.x.0) (− c.g.0)

      sixth : Bool
      sixth = three_true (value_in bs) (var c.z.0) (− c.y.0) (− c.g.0)

module _ (A : Assignment) (c : Chain) where
  -- by the test for the first bit
  abbrev bit_by : Bool → Bool
  bit_by d =
      all_to (cond d 3 6)
      (λ y. any_to (cond d (cond (eqb y 3) 3 2) 3) (λ l. literal_true A (cond d (chain_first c.z.0 c.x.0 c.y.0 y l) (chain_next c.z.0 c.x.0 c.y.0 c.g.0 y l))))

  pub further_bit : {i : ℕ} {r : Bool} → (i ≡ 1 → ⊥) → r ≡ bit_true A c 2 → r ≡ bit_true A c i
  unfolding bit_true
  further_bit {i} q e = e ∙ sym (ap bit_by (ne_eqb i 1 q))
