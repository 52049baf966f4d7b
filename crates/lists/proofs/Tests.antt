-- Laws of all, any, all_to and any_to: by places, and over appended, mapped, tabulated and joined lists.
--   le_or_lt       an order, decided
--   up_to_lem      what holds below n, and of n, holds below n + 1
-- Assumes nothing.
use Prim.Native.Nat.{ℕ, zero, suc, ◌≤◌, ◌<◌}
use native.Mathlib.Nat.{not-suc-le-zero, le_of_suc-le-suc, eq-or-lt_of_le}
use native.Mathlib.Omega.{arith}
use mathlib.Core.Path.{◌≡◌, refl, sym, ◌∙◌, ap, ap₂, subst}
use mathlib.Core.Logic.{◌⊎◌, inl, inr, ⊎_elim}
use mathlib.Core.Bool.{Bool, true, false, not, ◌&&◌, ◌||◌, So, false≢true, cond, and-true, or-false}
use mathlib.Core.List.{List, [], ◌∷◌, ◌++◌, map}
use lib.Dec.{ltb}
use lib.ListN.{length, get_or}
use borrow.Author.Tests.{ltb-true, ltb-false}
use Rattle.lists.specs.Lists.{all, any, all_to, any_to, tab, each, joined, select}
use Rattle.lists.proofs.Bools.{and_in, and_left, and_right, or_left, or_right, or_cases, and_assoc, or_assoc}

pub le_or_lt : (m n : ℕ) → (m ≤ n) ⊎ (n < m)
le_or_lt m n = go (ltb n m) refl
  where
    go : (b : Bool) → ltb n m ≡ b → (m ≤ n) ⊎ (n < m)
    go true e = inr (ltb-true n m e)
    go false e = inl (ltb-false n m e)

pub up_to_lem {ℓ} : (Q : ℕ → Type ℓ) (n : ℕ) → ((i : ℕ) → i < n → Q i) → Q n → (i : ℕ) → i < suc n → Q i
up_to_lem Q n f q i h = ⊎_elim (λ e. subst Q (sym e) q) (λ l. f i l) (eq-or-lt_of_le (le_of_suc-le-suc h))

-- ---- the numbers 1 to n

pub all_to_at : (n : ℕ) (g : ℕ → Bool) → So (all_to n g) → (i : ℕ) → i < n → So (g (suc i))
all_to_at zero g t i h = absurd (not-suc-le-zero h)
all_to_at (suc n) g t i h =
    up_to_lem (λ i. So (g (suc i))) n (all_to_at n g (and_left (all_to n g) (g (suc n)) t)) (and_right (all_to n g) (g (suc n)) t) i h

pub all_to_in : (n : ℕ) (g : ℕ → Bool) → ((i : ℕ) → i < n → So (g (suc i))) → So (all_to n g)
all_to_in zero g f = refl
all_to_in (suc n) g f = and_in (all_to_in n g (λ i h. f i (omega arith))) (f n (omega arith))

pub any_to_at : (n : ℕ) (g : ℕ → Bool) → So (any_to n g) → (i : ℕ) × (i < n) × So (g (suc i))
any_to_at zero g t = absurd (false≢true t)
any_to_at (suc n) g t = go (any_to_at n g) (or_cases (any_to n g) (g (suc n)) t)
  where
    go : (So (any_to n g) → (i : ℕ) × (i < n) × So (g (suc i))) → So (any_to n g) ⊎ So (g (suc n)) → (i : ℕ) × (i < suc n) × So (g (suc i))
    go ih (inl u) = let w = ih u in (w.0, omega (arith, w.1), w.2)
    go ih (inr u) = (n, omega arith, u)

pub any_to_in : (n : ℕ) (g : ℕ → Bool) (i : ℕ) → i < n → So (g (suc i)) → So (any_to n g)
any_to_in zero g i h t = absurd (not-suc-le-zero h)
any_to_in (suc n) g i h t =
    ⊎_elim (λ (e : i ≡ n). or_right (any_to n g) (g (suc n)) (subst (λ (k : ℕ). So (g (suc k))) e t))
    (λ (l : i < n). or_left (any_to n g) (g (suc n)) (any_to_in n g i l t)) (eq-or-lt_of_le (le_of_suc-le-suc h))

pub all_to_ext : (n : ℕ) (f g : ℕ → Bool) → ((i : ℕ) → i < n → f (suc i) ≡ g (suc i)) → all_to n f ≡ all_to n g
all_to_ext zero f g e = refl
all_to_ext (suc n) f g e = ap₂ ◌&&◌ (all_to_ext n f g (λ i h. e i (omega arith))) (e n (omega arith))

pub any_to_ext : (n : ℕ) (f g : ℕ → Bool) → ((i : ℕ) → i < n → f (suc i) ≡ g (suc i)) → any_to n f ≡ any_to n g
any_to_ext zero f g e = refl
any_to_ext (suc n) f g e = ap₂ ◌||◌ (any_to_ext n f g (λ i h. e i (omega arith))) (e n (omega arith))

-- ---- the elements of a list, by place

module _ {A : Type 0} where
  pub all_at : (p : A → Bool) (xs : List A) (d : A) → So (all p xs) → (j : ℕ) → j < length xs → So (p (get_or xs j d))
  all_at p [] d t j h = absurd (not-suc-le-zero h)
  all_at p (x ∷ xs) d t zero h = and_left (p x) (all p xs) t
  all_at p (x ∷ xs) d t (suc j) h = all_at p xs d (and_right (p x) (all p xs) t) j (le_of_suc-le-suc h)

  pub all_in : (p : A → Bool) (xs : List A) (d : A) → ((j : ℕ) → j < length xs → So (p (get_or xs j d))) → So (all p xs)
  all_in p [] d f = refl
  all_in p (x ∷ xs) d f = and_in (f zero (omega arith)) (all_in p xs d (λ j h. f (suc j) (omega arith)))

  pub any_at : (p : A → Bool) (xs : List A) (d : A) → So (any p xs) → (j : ℕ) × (j < length xs) × So (p (get_or xs j d))
  any_at p [] d t = absurd (false≢true t)
  any_at p (x ∷ xs) d t = go (any_at p xs d) (or_cases (p x) (any p xs) t)
    where
      go : (So (any p xs) → (j : ℕ) × (j < length xs) × So (p (get_or xs j d))) → So (p x) ⊎ So (any p xs)
          → (j : ℕ) × (j < suc (length xs)) × So (p (get_or (x ∷ xs) j d))
      go ih (inl u) = (zero, omega arith, u)
      go ih (inr u) = let w = ih u in (suc w.0, omega (arith, w.1), w.2)

  pub any_in : (p : A → Bool) (xs : List A) (d : A) (j : ℕ) → j < length xs → So (p (get_or xs j d)) → So (any p xs)
  any_in p [] d j h t = absurd (not-suc-le-zero h)
  any_in p (x ∷ xs) d zero h t = or_left (p x) (any p xs) t
  any_in p (x ∷ xs) d (suc j) h t = or_right (p x) (any p xs) (any_in p xs d j (le_of_suc-le-suc h) t)

  pub all_ext : (p q : A → Bool) (xs : List A) (d : A) → ((j : ℕ) → j < length xs → p (get_or xs j d) ≡ q (get_or xs j d)) → all p xs ≡ all q xs
  all_ext p q [] d e = refl
  all_ext p q (x ∷ xs) d e = ap₂ ◌&&◌ (e zero (omega arith)) (all_ext p q xs d (λ j h. e (suc j) (omega arith)))

  -- ---- over appended, joined and tabulated lists

  pub all_append : (p : A → Bool) (xs ys : List A) → all p (xs ++ ys) ≡ (all p xs && all p ys)
  all_append p [] ys = refl
  all_append p (x ∷ xs) ys = ap (λ b. p x && b) (all_append p xs ys) ∙ sym (and_assoc (p x) (all p xs) (all p ys))

  pub any_append : (p : A → Bool) (xs ys : List A) → any p (xs ++ ys) ≡ (any p xs || any p ys)
  any_append p [] ys = refl
  any_append p (x ∷ xs) ys = ap (λ b. p x || b) (any_append p xs ys) ∙ sym (or_assoc (p x) (any p xs) (any p ys))

  pub all_each : (p : A → Bool) (n : ℕ) (f : ℕ → List A) → all p (each n f) ≡ all_to n (λ i. all p (f i))
  all_each p zero f = refl
  all_each p (suc n) f = all_append p (each n f) (f (suc n)) ∙ ap (λ b. b && all p (f (suc n))) (all_each p n f)

  pub any_each : (p : A → Bool) (n : ℕ) (f : ℕ → List A) → any p (each n f) ≡ any_to n (λ i. any p (f i))
  any_each p zero f = refl
  any_each p (suc n) f = any_append p (each n f) (f (suc n)) ∙ ap (λ b. b || any p (f (suc n))) (any_each p n f)

  pub all_tab : (p : A → Bool) (n : ℕ) (f : ℕ → A) → all p (tab n f) ≡ all_to n (λ i. p (f i))
  all_tab p zero f = refl
  all_tab p (suc n) f =
      all_append p (tab n f) (f (suc n) ∷ []) ∙ ap₂ ◌&&◌ (all_tab p n f) (and-true (p (f (suc n))))

  pub any_tab : (p : A → Bool) (n : ℕ) (f : ℕ → A) → any p (tab n f) ≡ any_to n (λ i. p (f i))
  any_tab p zero f = refl
  any_tab p (suc n) f =
      any_append p (tab n f) (f (suc n) ∷ []) ∙ ap₂ ◌||◌ (any_tab p n f) (or-false (p (f (suc n))))

module _ {A B : Type 0} where
  pub all_map : (p : B → Bool) (f : A → B) (xs : List A) → all p (map f xs) ≡ all (λ x. p (f x)) xs
  all_map p f [] = refl
  all_map p f (x ∷ xs) = ap (λ b. p (f x) && b) (all_map p f xs)

  pub any_map : (p : B → Bool) (f : A → B) (xs : List A) → any p (map f xs) ≡ any (λ x. p (f x)) xs
  any_map p f [] = refl
  any_map p f (x ∷ xs) = ap (λ b. p (f x) || b) (any_map p f xs)

pub any_not : {A : Type 0} (p : A → Bool) (xs : List A) → any (λ x. not (p x)) xs ≡ not (all p xs)
any_not p [] = refl
any_not p (x ∷ xs) = go (p x) (any_not p xs)
  where
    go : (b : Bool) → any (λ x. not (p x)) xs ≡ not (all p xs) → (not b || any (λ x. not (p x)) xs) ≡ not (b && all p xs)
    go true e = e
    go false e = refl

pub any_to_not : (n : ℕ) (g : ℕ → Bool) → any_to n (λ i. not (g i)) ≡ not (all_to n g)
any_to_not zero g = refl
any_to_not (suc n) g = ap (λ b. b || not (g (suc n))) (any_to_not n g) ∙ go (all_to n g) (g (suc n))
  where
    go : (a b : Bool) → (not a || not b) ≡ not (a && b)
    go true b = refl
    go false b = refl

-- some element passes exactly if not all fail
pub any_is : {A : Type 0} (p : A → Bool) (xs : List A) → any p xs ≡ not (all (λ x. not (p x)) xs)
any_is p [] = refl
any_is p (x ∷ xs) = ap (λ b. p x || b) (any_is p xs) ∙ go (p x) (all (λ x. not (p x)) xs)
  where
    go : (a b : Bool) → (a || not b) ≡ not (not a && b)
    go true b = refl
    go false b = refl

-- a disjunct that does not depend on the element stands outside
pub all_or : {A : Type 0} (c : Bool) (p : A → Bool) (xs : List A) → all (λ x. c || p x) xs ≡ (c || all p xs)
all_or true p [] = refl
all_or false p [] = refl
all_or true p (x ∷ xs) = all_or true p xs
all_or false p (x ∷ xs) = refl

pub all_to_or : (n : ℕ) (g : ℕ → Bool) (b : Bool) → all_to n (λ j. g j || b) ≡ (all_to n g || b)
all_to_or zero g b = refl
all_to_or (suc n) g b = ap (λ c. c && (g (suc n) || b)) (all_to_or n g b) ∙ go (all_to n g) (g (suc n)) b
  where
    go : (a c b : Bool) → ((a || b) && (c || b)) ≡ ((a && c) || b)
    go true c b = refl
    go false true true = refl
    go false true false = refl
    go false false true = refl
    go false false false = refl

pub or_all_to : (c : Bool) (n : ℕ) (g : ℕ → Bool) → all_to n (λ j. c || g j) ≡ (c || all_to n g)
or_all_to true zero g = refl
or_all_to false zero g = refl
or_all_to true (suc n) g = and-true (all_to n (λ j. true)) ∙ or_all_to true n g
or_all_to false (suc n) g = refl

-- the lists of a list of lists, one after the other
pub all_joined : {A : Type 0} (p : A → Bool) (xss : List (List A)) → all p (joined xss) ≡ all (all p) xss
all_joined p [] = refl
all_joined p (xs ∷ xss) = all_append p xs (joined xss) ∙ ap (λ b. all p xs && b) (all_joined p xss)

pub any_joined : {A : Type 0} (p : A → Bool) (xss : List (List A)) → any p (joined xss) ≡ any (any p) xss
any_joined p [] = refl
any_joined p (xs ∷ xss) = any_append p xs (joined xss) ∙ ap (λ b. any p xs || b) (any_joined p xss)

-- ---- the numbers that pass

pub all_select : (p q : ℕ → Bool) (n : ℕ) → all p (select n q) ≡ all_to n (λ i. not (q i) || p i)
all_select p q n = all_each p n (λ i. cond (q i) (i ∷ []) []) ∙ all_to_ext n _ _ (λ i h. go (suc i) (q (suc i)))
  where
    go : (i : ℕ) (b : Bool) → all p (cond b (i ∷ []) []) ≡ (not b || p i)
    go i true = and-true (p i)
    go i false = refl

pub any_select : (p q : ℕ → Bool) (n : ℕ) → any p (select n q) ≡ any_to n (λ i. q i && p i)
any_select p q n = any_each p n (λ i. cond (q i) (i ∷ []) []) ∙ any_to_ext n _ _ (λ i h. go (suc i) (q (suc i)))
  where
    go : (i : ℕ) (b : Bool) → any p (cond b (i ∷ []) []) ≡ (b && p i)
    go i true = or-false (p i)
    go i false = refl
