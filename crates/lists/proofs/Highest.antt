-- The highest of the values of the numbers 1 to n.
--   highest_same      values that agree on 1 to n have the same highest one
--   highest_le        no value is higher
--   highest_at        a highest value above 0 is that of some number
--   Reached n p f h   each of 1 to h is the value of some number of 1 to n that passes
--   reached_count     then at least h numbers pass
-- Assumes nothing.
use Prim.Native.Nat.{ℕ, zero, suc, ◌≤◌, ◌<◌, max}
use native.Mathlib.Nat.{le_trans, le_of_suc-le-suc, eq-or-lt_of_le, le-max_left, le-max_right, max-eq_left, max-eq_right}
use native.Mathlib.Omega.{arith}
use mathlib.Core.Path.{◌≡◌, refl, sym, ◌∙◌, ap₂, subst}
use mathlib.Core.Logic.{⊎_elim}
use mathlib.Core.Bool.{Bool, ◌&&◌, So}
use mathlib.Core.List.{[], ◌∷◌}
use lib.Dec.{leb}
use lib.ListN.{get_or}
use borrow.Author.Tests.{leb-true, le-leb}
use Rattle.lists.specs.Lists.{highest}
use Rattle.lists.proofs.Bools.{and_in, and_left, and_right, false_of}
use Rattle.lists.proofs.Tests.{le_or_lt}
use Rattle.lists.proofs.Growing.{count, count_mono, count_more}

-- of 2, 5 and 3 the highest is 5, of none 0
highest_computed : highest 3 (λ i. get_or {A = ℕ} (0 ∷ 2 ∷ 5 ∷ 3 ∷ []) i 0) ∷ highest 0 (λ i. i) ∷ [] ≡ 5 ∷ 0 ∷ []
highest_computed = refl

pub highest_same : (n : ℕ) (f g : ℕ → ℕ) → ((i : ℕ) → i < n → f (suc i) ≡ g (suc i)) → highest n f ≡ highest n g
highest_same zero f g e = refl
highest_same (suc n) f g e = ap₂ max (highest_same n f g (λ i h. e i (omega (arith, h)))) (e n (omega arith))

pub highest_le : (n : ℕ) (f : ℕ → ℕ) (i : ℕ) → i < n → f (suc i) ≤ highest n f
highest_le zero f i h = absurd (omega (arith, h))
highest_le (suc n) f i h =
    ⊎_elim (λ (e : i ≡ n). subst (λ (k : ℕ). f (suc k) ≤ highest (suc n) f) (sym e) (le-max_right (highest n f) (f (suc n))))
    (λ (l : i < n). le_trans (highest_le n f i l) (le-max_left (highest n f) (f (suc n)))) (eq-or-lt_of_le (le_of_suc-le-suc h))

pub highest_at : (n : ℕ) (f : ℕ → ℕ) → zero < highest n f → (i : ℕ) × (i < n) × (f (suc i) ≡ highest n f)
highest_at zero f p = absurd (omega (arith, p))
highest_at (suc n) f p =
    ⊎_elim (λ (l : highest n f ≤ f (suc n)). (n, omega arith, sym (max-eq_right l)))
    (λ (l : f (suc n) < highest n f).
    let q = highest_at n f (omega (arith, l)) in
    (q.0, omega (arith, q.1), q.2 ∙ sym (max-eq_left (omega (arith, l))))) (le_or_lt (highest n f) (f (suc n)))

module _ (n : ℕ) (p : ℕ → Bool) (f : ℕ → ℕ) where
  -- the numbers that pass and have a value of at most i
  abbrev up_to : ℕ → ℕ → Bool
  up_to i a = p a && leb (f a) i

  passes : (i a : ℕ) → So (up_to i a) → So (p a)
  passes i a t = and_left (p a) (leb (f a) i) t

  value_le : (i a : ℕ) → So (up_to i a) → f a ≤ i
  value_le i a t = leb-true (f a) i (and_right (p a) (leb (f a) i) t)

  in_up_to : (i a : ℕ) → So (p a) → f a ≤ i → So (up_to i a)
  in_up_to i a t l = and_in t (le-leb (f a) i l)

  -- each of 1 to h is the value of some number that passes
  abbrev pub Reached : ℕ → Type 0
  Reached h = (i : ℕ) → i < h → (a : ℕ) × (a < n) × So (p (suc a)) × (f (suc a) ≡ suc i)

  reached_up_to : (h : ℕ) → Reached h → h ≤ count n (up_to h)
  reached_up_to zero r = omega arith
  reached_up_to (suc h) r =
      let q = r h (omega arith) in
      let a = suc q.0 in
      omega (
        arith,
        reached_up_to h (λ i l. r i (omega (arith, l))),
        count_more n (up_to h) (up_to (suc h)) (λ b l t. in_up_to (suc h) (suc b) (passes h (suc b) t) (omega (arith, value_le h (suc b) t)))
            q.0 q.1 (false_of (up_to h a) (λ t. omega (arith, value_le h a t, q.3))) (in_up_to (suc h) a q.2 (omega (arith, q.3))),
      )

  pub reached_count : (h : ℕ) → Reached h → h ≤ count n p
  reached_count h r = omega (arith, reached_up_to h r, count_mono n (up_to h) p (λ a l. passes h (suc a)))
