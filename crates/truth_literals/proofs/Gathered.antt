-- Tests of the numbers 1 to n, as a loop gathers them.
--   and_none, or_none                         none of them, after a first truth value l
--   and_more, or_more, all_more, any_more     one number more, after l or after nothing
--   and_done, or_done, all_done               all n numbers
--   all_after, any_after                      the numbers up to s 0, and the n after them
--   all_append                                the numbers up to m, and the n after them
-- Assumes nothing.
use Prim.Native.Nat.{ℕ, zero, suc, ◌+◌, ◌≤◌, ◌<◌}
use native.Mathlib.Nat.{le_antisymm, add-zero}
use native.Mathlib.Numerals.{add-one}
use native.Mathlib.Omega.{arith}
use mathlib.Core.Path.{◌≡◌, refl, sym, ◌∙◌, ap, ap₂}
use mathlib.Core.Bool.{Bool, true, false, ◌&&◌, ◌||◌, and-true, or-false}
use Rattle.lists.specs.Lists.{all_to, any_to}
use Rattle.lists.proofs.Bools.{and_assoc, or_assoc}

pub and_none : (l : Bool) (f : ℕ → Bool) → l ≡ (l && all_to 0 f)
and_none l f = sym (and-true l)

pub or_none : (l : Bool) (f : ℕ → Bool) → l ≡ (l || any_to 0 f)
or_none l f = sym (or-false l)

module _ (f : ℕ → Bool) (k : ℕ) {p : Bool} where
  pub and_more : (l : Bool) → p ≡ (l && all_to k f) → {q : Bool} → q ≡ f (suc k) → (p && q) ≡ (l && all_to (k + 1) f)
  and_more l e d = ap₂ ◌&&◌ e d ∙ and_assoc l (all_to k f) (f (suc k)) ∙ sym (ap (λ (n : ℕ). l && all_to n f) (add-one k))

  pub or_more : (l : Bool) → p ≡ (l || any_to k f) → {q : Bool} → q ≡ f (suc k) → (p || q) ≡ (l || any_to (k + 1) f)
  or_more l e d = ap₂ ◌||◌ e d ∙ or_assoc l (any_to k f) (f (suc k)) ∙ sym (ap (λ (n : ℕ). l || any_to n f) (add-one k))

  pub and_done : {l m : Bool} → p ≡ (l && all_to k f) → l ≡ m → {n : ℕ} → k ≤ n → n ≤ k → p ≡ (m && all_to n f)
  and_done e u h n = e ∙ ap₂ (λ (d : Bool) (n : ℕ). d && all_to n f) u (le_antisymm h n)

  pub or_done : {l m : Bool} → p ≡ (l || any_to k f) → l ≡ m → {n : ℕ} → k ≤ n → n ≤ k → p ≡ (m || any_to n f)
  or_done e u h n = e ∙ ap₂ (λ (d : Bool) (n : ℕ). d || any_to n f) u (le_antisymm h n)

  pub all_more : p ≡ all_to k f → {q : Bool} → q ≡ f (suc k) → (p && q) ≡ all_to (k + 1) f
  all_more e d = and_more true e d

  pub any_more : p ≡ any_to k f → {q : Bool} → q ≡ f (suc k) → (p || q) ≡ any_to (k + 1) f
  any_more e d = or_more false e d

  pub all_done : p ≡ all_to k f → {n : ℕ} → k ≤ n → n ≤ k → p ≡ all_to n f
  all_done e h n = and_done {l = true} e refl h n

-- f tests the numbers after s 0 as g tests those after 0
module _ (s : ℕ → ℕ) (q : (i : ℕ) → s (suc i) ≡ suc (s i)) (f g : ℕ → Bool) where
  pub all_after : (n : ℕ) → ((i : ℕ) → i < n → f (s (suc i)) ≡ g (suc i)) → all_to (s n) f ≡ (all_to (s 0) f && all_to n g)
  all_after zero e = sym (and-true (all_to (s 0) f))
  all_after (suc n) e =
      ap (λ (k : ℕ). all_to k f) (q n) ∙ ap₂ ◌&&◌ (all_after n (λ i h. e i (omega (arith, h)))) (ap f (sym (q n)) ∙ e n (omega arith))
      ∙ and_assoc (all_to (s 0) f) (all_to n g) (g (suc n))

  pub any_after : (n : ℕ) → ((i : ℕ) → i < n → f (s (suc i)) ≡ g (suc i)) → any_to (s n) f ≡ (any_to (s 0) f || any_to n g)
  any_after zero e = sym (or-false (any_to (s 0) f))
  any_after (suc n) e =
      ap (λ (k : ℕ). any_to k f) (q n) ∙ ap₂ ◌||◌ (any_after n (λ i h. e i (omega (arith, h)))) (ap f (sym (q n)) ∙ e n (omega arith))
      ∙ or_assoc (any_to (s 0) f) (any_to n g) (g (suc n))

pub all_append : (m n : ℕ) (f g : ℕ → Bool) → ((i : ℕ) → i < n → f (m + suc i) ≡ g (suc i)) → all_to (m + n) f ≡ (all_to m f && all_to n g)
all_append m n f g e =
    all_after (λ i. m + i) (next m) f g n e ∙ ap (λ (k : ℕ). all_to k f && all_to n g) (add-zero m)
  where
    next : (m n : ℕ) → m + suc n ≡ suc (m + n)
    next m n = omega arith
