-- How many of the numbers 1 to n pass a test.
--   sum_with          two sums whose terms add up to those of a third
--   one_of            one number of 1 to n is h
--   members, others   of a list of distinct numbers from 1 to n: as many numbers of 1 to n are in it as it is long, and the others make up n
-- Assumes nothing.
use Prim.Native.Nat.{ℕ, zero, suc, ◌+◌, ◌≤◌, ◌<◌}
use native.Mathlib.Nat.{not-suc-le-zero, eq-or-lt_of_le, le_of_suc-le-suc, le_refl}
use native.Mathlib.Omega.{arith}
use mathlib.Core.Path.{◌≡◌, refl, sym, ◌∙◌, ap, ap₂, subst}
use mathlib.Core.Logic.{⊎_elim}
use mathlib.Core.Bool.{Bool, true, false, ◌||◌, cond}
use mathlib.Core.List.{List, [], ◌∷◌}
use lib.Dec.{eqb}
use lib.ListN.{length, get_or}
use borrow.Author.Tests.{eq-eqb, ne_eqb, eqb-true}
use Rattle.lists.specs.Lists.{any, sum}
use Rattle.lists.proofs.Tests.{any_at}
use Rattle.lists.proofs.Tables.{sum_ext, sum_add, sum_const, sum_zero}
use Rattle.lists.proofs.Growing.{one}

pub sum_with : (n : ℕ) (f g h : ℕ → ℕ) → ((i : ℕ) → i < n → f (suc i) + g (suc i) ≡ h (suc i)) → sum n f + sum n g ≡ sum n h
sum_with n f g h e = sym (sum_add n f g) ∙ sum_ext n (λ i. f i + g i) h e

pub one_of : (n h : ℕ) → h < n → sum n (λ a. one (eqb (suc h) a)) ≡ 1
one_of zero h l = absurd (not-suc-le-zero l)
one_of (suc n) h l =
    ⊎_elim
    (λ (e : h ≡ n). ap₂ ◌+◌ (none n h (subst (λ (k : ℕ). n ≤ k) (sym e) (le_refl n))) (ap one (eq-eqb (suc h) (suc n) (ap suc e))))
    (λ (k : h < n). ap₂ ◌+◌ (one_of n h k) (ap one (ne_eqb (suc h) (suc n) (λ e. omega arith)))) (eq-or-lt_of_le (le_of_suc-le-suc l))
  where
    none : (n h : ℕ) → n ≤ h → sum n (λ a. one (eqb (suc h) a)) ≡ 0
    none zero h l = refl
    none (suc n) h l = ap₂ ◌+◌ (none n h (omega arith)) (ap one (ne_eqb (suc h) (suc n) (λ e. omega arith)))

-- ---- the numbers f x of the elements x of a list, from 1 to n and no two equal

module _ {A : Type 0} (f : A → ℕ) (d : A) (n : ℕ) where
  pub record Distinct (xs : List A) : Type 0 where
    pub positive : (j : ℕ) → j < length xs → 0 < f (get_or xs j d)
    pub within : (j : ℕ) → j < length xs → f (get_or xs j d) ≤ n
    pub apart : (j : ℕ) → j < length xs → (i : ℕ) → i < j → f (get_or xs i d) ≡ f (get_or xs j d) → ⊥

  -- some element has the number v
  abbrev has : List A → ℕ → Bool
  has xs v = any (λ x. eqb (f x) v) xs

  one_at : (v : ℕ) → 0 < v → v ≤ n → sum n (λ a. one (eqb v a)) ≡ 1
  one_at zero p h = absurd (omega (arith, p))
  one_at (suc v) p h = one_of n v h

  pub members : (xs : List A) → Distinct xs → sum n (λ v. one (has xs v)) ≡ length xs
  members [] D = sum_zero n
  members (x ∷ xs) D =
      sym (sum_with n (λ v. one (eqb (f x) v)) (λ v. one (has xs v)) (λ v. one (has (x ∷ xs) v)) (λ i h. term (suc i)))
      ∙ ap₂ ◌+◌ (one_at (f x) (D.positive 0 (omega arith)) (D.within 0 (omega arith)))
      (members xs
      (record {
        positive = λ j h. D.positive (suc j) (omega (arith, h));
        within = λ j h. D.within (suc j) (omega (arith, h));
        apart = λ j h i l. D.apart (suc j) (omega (arith, h)) (suc i) (omega (arith, l));
      }))
      ∙ omega arith
    where
      -- x has a number that no later element has
      term : (v : ℕ) → one (eqb (f x) v) + one (has xs v) ≡ one (eqb (f x) v || has xs v)
      term v = go (eqb (f x) v) refl (has xs v) refl
        where
          go : (a : Bool) → eqb (f x) v ≡ a → (b : Bool) → has xs v ≡ b → one a + one b ≡ one (a || b)
          go true p true q =
              let w = any_at (λ x. eqb (f x) v) xs d q in
              absurd (D.apart (suc w.0) (omega (arith, w.1)) 0 (omega arith) (eqb-true (f x) v p ∙ sym (eqb-true (f (get_or xs w.0 d)) v w.2)))
          go true p false q = refl
          go false p b q = omega arith

  pub others : (xs : List A) → Distinct xs → sum n (λ v. cond (has xs v) 0 1) + length xs ≡ n
  others xs D =
      ap (λ (k : ℕ). sum n (λ v. cond (has xs v) 0 1) + k) (sym (members xs D))
      ∙ sum_with n (λ v. cond (has xs v) 0 1) (λ v. one (has xs v)) (λ v. 1) (λ i h. go (has xs (suc i))) ∙ sum_const n 1 ∙ omega arith
    where
      go : (b : Bool) → cond b 0 1 + one b ≡ 1
      go true = refl
      go false = refl
