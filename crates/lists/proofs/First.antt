-- The first number that passes: 0 exactly if none does, and else it passes and none before it does. A greatest element of a list.
-- Assumes nothing.
use Prim.Native.Nat.{ℕ, zero, suc, ◌≤◌, ◌<◌}
use native.Mathlib.Nat.{not-suc-le-zero, le_of_suc-le-suc, suc-ne-zero, le_refl, le_trans, le_of_lt}
use native.Mathlib.Omega.{arith}
use mathlib.Core.Path.{◌≡◌, refl, sym, ◌∙◌, ap₂, subst}
use mathlib.Core.Logic.{⊎_elim}
use mathlib.Core.Bool.{Bool, true, false, So, false≢true}
use mathlib.Core.List.{List, [], ◌∷◌}
use lib.ListN.{length, get_or}
use Rattle.lists.specs.Lists.{first, or_last}
use Rattle.lists.proofs.Tests.{up_to_lem, le_or_lt}

-- f is the first of 1 to n that passes, or 0 and none does
pub record IsFirst (n : ℕ) (p : ℕ → Bool) (f : ℕ) : Type 0 where
  pub within : f ≤ n
  pub passes : zero < f → So (p f)
  pub none_before : (i : ℕ) → suc i < f → p (suc i) ≡ false
  pub none_at_all : f ≡ zero → (i : ℕ) → i < n → p (suc i) ≡ false

pub first_is : (n : ℕ) (p : ℕ → Bool) → IsFirst n p (first n p)
first_is zero p = record { within = omega arith; passes = λ h. absurd (omega arith); none_before = λ i h. absurd (omega arith); none_at_all = λ e i h. absurd (omega arith) }
first_is (suc n) p = go (first n p) (p (suc n)) refl (first_is n p)
  where
    go : (f : ℕ) (b : Bool) → p (suc n) ≡ b → IsFirst n p f → IsFirst (suc n) p (or_last f b (suc n))
    go zero true e q =
        record { within = omega arith; passes = λ h. e; none_before = λ i h. q.none_at_all refl i (omega arith); none_at_all = λ x. absurd (omega arith) }
    go zero false e q =
        record { within = omega arith; passes = λ h. absurd (omega arith); none_before = λ i h. absurd (omega arith); none_at_all = λ x. up_to_lem (λ i. p (suc i) ≡ false) n (q.none_at_all refl) e }
    go (suc f) b e q =
        record { within = omega (arith, q.within); passes = q.passes; none_before = q.none_before; none_at_all = λ x. absurd (suc-ne-zero f x) }

-- some number passes: the first one is there
pub first_pos : (n : ℕ) (p : ℕ → Bool) (i : ℕ) → i < n → So (p (suc i)) → zero < first n p
first_pos n p i h t = go (first n p) refl
  where
    go : (f : ℕ) → first n p ≡ f → zero < f
    go zero e = absurd (false≢true (sym ((first_is n p).none_at_all e i h) ∙ t))
    go (suc f) e = omega arith

-- and no later than any that passes
pub first_le : (n : ℕ) (p : ℕ → Bool) (i : ℕ) → i < n → So (p (suc i)) → first n p ≤ suc i
first_le n p i h t =
    ⊎_elim (λ (l : first n p ≤ suc i). l)
    (λ (l : suc i < first n p). absurd (false≢true (sym ((first_is n p).none_before i l) ∙ t))) (le_or_lt (first n p) (suc i))

-- none passes
-- tests that agree on 1 to n
pub first_ext : (n : ℕ) (p q : ℕ → Bool) → ((i : ℕ) → i < n → p (suc i) ≡ q (suc i)) → first n p ≡ first n q
first_ext zero p q e = refl
first_ext (suc n) p q e = ap₂ (λ (f : ℕ) (b : Bool). or_last f b (suc n)) (first_ext n p q (λ i h. e i (omega (arith, h)))) (e n (omega arith))

pub first_none : (n : ℕ) (p : ℕ → Bool) → ((i : ℕ) → i < n → p (suc i) ≡ false) → first n p ≡ zero
first_none n p f = go (first n p) refl
  where
    go : (k : ℕ) → first n p ≡ k → k ≡ zero
    go zero e = refl
    go (suc k) e =
        absurd (false≢true (sym (f k (subst (λ (x : ℕ). x ≤ n) e (first_is n p).within))
        ∙ subst (λ (x : ℕ). So (p x)) e ((first_is n p).passes (subst (λ (x : ℕ). zero < x) (sym e) (omega arith)))))

-- the place of a greatest element of a list that is not empty
pub greatest : (f : ℕ → ℕ) (xs : List ℕ) → zero < length xs → (j : ℕ) × (j < length xs) × ((i : ℕ) → i < length xs → f (get_or xs i 0) ≤ f (get_or xs j 0))
greatest f [] h = absurd (not-suc-le-zero h)
greatest f (x ∷ []) h = (0, h, λ i g. only i g)
  where
    only : (i : ℕ) → i < 1 → f (get_or (x ∷ []) i 0) ≤ f x
    only zero g = le_refl (f x)
    only (suc i) g = absurd (omega arith)
greatest f (x ∷ (y ∷ ys)) h = go (greatest f (y ∷ ys) (omega arith))
  where
    go : (j : ℕ) × (j < suc (length ys)) × ((i : ℕ) → i < suc (length ys) → f (get_or (y ∷ ys) i 0) ≤ f (get_or (y ∷ ys) j 0))
        → (j : ℕ) × (j < suc (suc (length ys))) × ((i : ℕ) → i < suc (suc (length ys)) → f (get_or (x ∷ (y ∷ ys)) i 0) ≤ f (get_or (x ∷ (y ∷ ys)) j 0))
    go q =
        ⊎_elim (λ (l : f x ≤ f (get_or (y ∷ ys) q.0 0)). (suc q.0, omega (arith, q.1), λ i. later l i))
        (λ (l : f (get_or (y ∷ ys) q.0 0) < f x). (0, omega arith, λ i. first_one l i)) (le_or_lt (f x) (f (get_or (y ∷ ys) q.0 0)))
      where
        later : f x ≤ f (get_or (y ∷ ys) q.0 0) → (i : ℕ) → i < suc (suc (length ys)) → f (get_or (x ∷ (y ∷ ys)) i 0) ≤ f (get_or (y ∷ ys) q.0 0)
        later l zero g = l
        later l (suc i) g = q.2 i (le_of_suc-le-suc g)

        first_one : f (get_or (y ∷ ys) q.0 0) < f x → (i : ℕ) → i < suc (suc (length ys)) → f (get_or (x ∷ (y ∷ ys)) i 0) ≤ f x
        first_one l zero g = le_refl (f x)
        first_one l (suc i) g = le_trans (q.2 i (le_of_suc-le-suc g)) (le_of_lt l)
