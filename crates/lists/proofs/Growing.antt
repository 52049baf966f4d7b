-- A growing row of sets of the numbers 1 to n, each determined by the one before, is at rest from its place n on.
--   count n p     how many of the numbers 1 to n pass
-- Assumes nothing.
use Prim.Native.Nat.{ℕ, zero, suc, ◌+◌, ◌-◌, ◌≤◌, ◌<◌}
use native.Mathlib.Nat.{not-suc-le-zero, le_of_suc-le-suc, eq-or-lt_of_le, add-zero, add-suc, add-sub_of_le}
use native.Mathlib.Omega.{arith}
use mathlib.Core.Path.{◌≡◌, refl, sym, ◌∙◌, ap, subst}
use mathlib.Core.Logic.{◌⊎◌, inl, inr, ⊎_elim}
use mathlib.Core.Bool.{Bool, true, false, not, ◌&&◌, ◌||◌, So, false≢true, true≢false, cond}
use lib.Dec.{ltb, leb}
use borrow.Author.Tests.{leb-true}
use Rattle.lists.specs.Lists.{sum, all_to}
use Rattle.lists.proofs.Bools.{and_right, or_cases, not_So, So-or-not}
use Rattle.lists.proofs.Tests.{le_or_lt, all_to_at, any_to_at, any_to_not}

abbrev pub one : Bool → ℕ
one b = cond b 1 0

abbrev pub count : ℕ → (ℕ → Bool) → ℕ
count n p = sum n (λ i. one (p i))

one_le : (b : Bool) → one b ≤ 1
one_le true = omega arith
one_le false = omega arith

one_mono : (b c : Bool) → (So b → So c) → one b ≤ one c
one_mono true true f = omega arith
one_mono true false f = absurd (false≢true (f refl))
one_mono false c f = omega arith

one_more : (b c : Bool) → b ≡ false → So c → one b + 1 ≤ one c
one_more true c e t = absurd (true≢false e)
one_more false true e t = omega arith
one_more false false e t = absurd (false≢true t)

pub count_le : (n : ℕ) (p : ℕ → Bool) → count n p ≤ n
count_le zero p = omega arith
count_le (suc n) p = omega (arith, count_le n p, one_le (p (suc n)))

pub count_mono : (n : ℕ) (p q : ℕ → Bool) → ((i : ℕ) → i < n → So (p (suc i)) → So (q (suc i))) → count n p ≤ count n q
count_mono zero p q f = omega arith
count_mono (suc n) p q f =
    omega (arith, count_mono n p q (λ i h. f i (omega arith)), one_mono (p (suc n)) (q (suc n)) (f n (omega arith)))

-- a number that one set has and the other lacks makes the difference
pub count_more : (n : ℕ) (p q : ℕ → Bool) → ((i : ℕ) → i < n → So (p (suc i)) → So (q (suc i)))
    → (i : ℕ) → i < n → p (suc i) ≡ false → So (q (suc i)) → count n p + 1 ≤ count n q
count_more zero p q f i h e t = absurd (not-suc-le-zero h)
count_more (suc n) p q f i h e t =
    ⊎_elim
    (λ (x : i ≡ n).
    omega (
      arith,
      count_mono n p q (λ j g. f j (omega arith)),
      one_more (p (suc n)) (q (suc n)) (subst (λ (k : ℕ). p (suc k) ≡ false) x e) (subst (λ (k : ℕ). So (q (suc k))) x t),
    ))
    (λ (l : i < n).
    omega (arith, count_more n p q (λ j g. f j (omega arith)) i l e t, one_mono (p (suc n)) (q (suc n)) (f n (omega arith))))
    (eq-or-lt_of_le (le_of_suc-le-suc h))

module _ (S : ℕ → ℕ → Bool) (grows : (i a : ℕ) → So (S i a) → So (S (suc i) a)) where
  grows_by : (k i a : ℕ) → So (S i a) → So (S (i + k) a)
  grows_by zero i a t = subst (λ (j : ℕ). So (S j a)) (sym (add-zero i)) t
  grows_by (suc k) i a t = subst (λ (j : ℕ). So (S j a)) (sym (add-suc i k)) (grows (i + k) a (grows_by k i a t))

  pub grows_le : (i j a : ℕ) → i ≤ j → So (S i a) → So (S j a)
  grows_le i j a h t = subst (λ (x : ℕ). So (S x a)) (add-sub_of_le h) (grows_by (j - i) i a t)

module _
    (n : ℕ)
    (S : ℕ → ℕ → Bool)
    (grows : (i a : ℕ) → So (S i a) → So (S (suc i) a))
    (within : (i a : ℕ) → So (S i a) → So (ltb 0 a && leb a n))
    (steps : (i : ℕ) → ((a : ℕ) → So (S (suc i) a) → So (S i a)) → (a : ℕ) → So (S (suc (suc i)) a) → So (S (suc i) a))
  where
    abbrev Rests : ℕ → Type 0
    Rests i = (a : ℕ) → So (S (suc i) a) → So (S i a)

    rests_by : (k i : ℕ) → Rests i → Rests (i + k)
    rests_by zero i r = subst Rests (sym (add-zero i)) r
    rests_by (suc k) i r = subst Rests (sym (add-suc i k)) (steps (i + k) (rests_by k i r))

    rests_on : (k i a : ℕ) → Rests i → So (S (i + k) a) → So (S i a)
    rests_on zero i a r t = subst (λ (j : ℕ). So (S j a)) (add-zero i) t
    rests_on (suc k) i a r t = rests_on k i a r (rests_by k i r a (subst (λ (j : ℕ). So (S j a)) (add-suc i k) t))

    -- at place i the row is at rest, or it grows there
    at_rest : (i : ℕ) → Rests i ⊎ (count n (S i) + 1 ≤ count n (S (suc i)))
    at_rest i = go (So-or-not (all_to n (λ a. not (S (suc i) a) || S i a)))
      where
        still : So (all_to n (λ a. not (S (suc i) a) || S i a)) → (a : ℕ) → So (ltb 0 a && leb a n) → So (S (suc i) a) → So (S i a)
        still t zero u v = absurd (false≢true u)
        still t (suc a) u v =
            ⊎_elim (λ q. absurd (not_So (not (S (suc i) (suc a))) (ap not v) q)) (λ q. q)
            (or_cases (not (S (suc i) (suc a))) (S i (suc a))
            (all_to_at n (λ a. not (S (suc i) a) || S i a) t a (leb-true (suc a) n (and_right (ltb 0 (suc a)) (leb (suc a) n) u))))

        split : (b c : Bool) → So (not (not b || c)) → So b × (c ≡ false)
        split true true t = absurd (false≢true t)
        split true false t = (refl, refl)
        split false c t = absurd (false≢true t)

        grown : (a : ℕ) × (a < n) × So (not (not (S (suc i) (suc a)) || S i (suc a))) → count n (S i) + 1 ≤ count n (S (suc i))
        grown q =
            let e = split (S (suc i) (suc q.0)) (S i (suc q.0)) q.2 in
            count_more n (S i) (S (suc i)) (λ j h. grows i (suc j)) q.0 q.1 e.1 e.0

        go : So (all_to n (λ a. not (S (suc i) a) || S i a)) ⊎ (all_to n (λ a. not (S (suc i) a) || S i a) ≡ false)
            → Rests i ⊎ (count n (S i) + 1 ≤ count n (S (suc i)))
        go (inl t) = inl (λ a u. still t a (within (suc i) a u) u)
        go (inr e) =
            inr (grown (any_to_at n (λ a. not (not (S (suc i) a) || S i a)) (any_to_not n (λ a. not (S (suc i) a) || S i a) ∙ ap not e)))

    by_size : (i : ℕ) → ((j : ℕ) × (j < i) × Rests j) ⊎ (i ≤ count n (S i))
    by_size zero = inr (omega arith)
    by_size (suc i) = go (by_size i)
      where
        go : ((j : ℕ) × (j < i) × Rests j) ⊎ (i ≤ count n (S i)) → ((j : ℕ) × (j < suc i) × Rests j) ⊎ (suc i ≤ count n (S (suc i)))
        go (inl q) = inl (q.0, omega (arith, q.1), q.2)
        go (inr h) = ⊎_elim (λ r. inl (i, omega arith, r)) (λ (c : count n (S i) + 1 ≤ count n (S (suc i))). inr (omega arith)) (at_rest i)

    pub by_n : (i a : ℕ) → So (S i a) → So (S n a)
    by_n i a t = go (by_size (suc n))
      where
        go : ((j : ℕ) × (j < suc n) × Rests j) ⊎ (suc n ≤ count n (S (suc n))) → So (S n a)
        go (inr h) = absurd (omega (arith, count_le n (S (suc n))))
        go (inl q) =
            ⊎_elim (λ (l : i ≤ n). grows_le S grows i n a l t)
            (λ (l : n < i).
            grows_le S grows q.0 n a (le_of_suc-le-suc q.1)
            (rests_on (i - q.0) q.0 a q.2 (subst (λ (x : ℕ). So (S x a)) (sym (add-sub_of_le {n = i} {m = q.0} (omega (arith, q.1)))) t)))
            (le_or_lt i n)
