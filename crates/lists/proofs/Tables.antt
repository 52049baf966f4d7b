-- Lengths and elements of tables and of joined rows, and sums.
-- Assumes nothing.
use Prim.Native.Nat.{ℕ, zero, suc, pred, ◌+◌, ◌*◌, ◌-◌, ◌≤◌, ◌<◌}
use native.Mathlib.Nat.{not-suc-le-zero, le_of_suc-le-suc, eq-or-lt_of_le, zero-mul, suc-mul}
use native.Mathlib.Numerals.{add-one}
use native.Mathlib.Omega.{arith}
use mathlib.Core.Path.{◌≡◌, refl, sym, ◌∙◌, ap, ap₂, subst}
use mathlib.Core.Logic.{⊎_elim}
use mathlib.Core.Bool.{Bool, true, false, not, ◌&&◌, ◌||◌, So, cond}
use mathlib.Core.List.{List, [], ◌∷◌, ◌++◌, map, append_assoc, append-nil, map-append}
use lib.ListN.{length, get_or, length-append, get_or-append}
use lib.Seq.{get_or-append-add, get_or_at}
use Rattle.lists.specs.Lists.{tab, each, joined, keep, sum, all, all_to}
use Rattle.lists.proofs.Bools.{and_in, and_left, and_right, same}
use Rattle.lists.proofs.Tests.{le_or_lt, all_at, all_in, all_to_at, all_to_in}

pub sum_ext : (n : ℕ) (f g : ℕ → ℕ) → ((i : ℕ) → i < n → f (suc i) ≡ g (suc i)) → sum n f ≡ sum n g
sum_ext zero f g e = refl
sum_ext (suc n) f g e = ap₂ ◌+◌ (sum_ext n f g (λ i h. e i (omega arith))) (e n (omega arith))

pub sum_add : (n : ℕ) (f g : ℕ → ℕ) → sum n (λ i. f i + g i) ≡ sum n f + sum n g
sum_add zero f g = refl
sum_add (suc n) f g = omega (arith, sum_add n f g)

pub sum_mul : (n k : ℕ) (f : ℕ → ℕ) → sum n (λ i. f i * k) ≡ sum n f * k
sum_mul zero k f = sym (zero-mul k)
sum_mul (suc n) k f = omega (arith, sum_mul n k f)

pub sum_const : (n k : ℕ) → sum n (λ i. k) ≡ n * k
sum_const zero k = sym (zero-mul k)
sum_const (suc n) k = ap (λ s. s + k) (sum_const n k) ∙ sym (suc-mul n k)

pub sum_zero : (n : ℕ) → sum n (λ i. 0) ≡ 0
sum_zero zero = refl
sum_zero (suc n) = omega (arith, sum_zero n)

-- twice the numbers 1 to n
pub sum_twice : (n : ℕ) → sum n (λ i. 2 * i) ≡ n * (n + 1)
sum_twice zero = refl
sum_twice (suc n) = omega (arith, sum_twice n)

-- a sum may be taken in either order
pub sum_swap : (n m : ℕ) (f : ℕ → ℕ → ℕ) → sum n (λ i. sum m (λ j. f i j)) ≡ sum m (λ j. sum n (λ i. f i j))
sum_swap zero m f = sym (sum_zero m)
sum_swap (suc n) m f = ap (λ s. s + sum m (f (suc n))) (sum_swap n m f) ∙ sym (sum_add m (λ j. sum n (λ i. f i j)) (f (suc n)))

-- the sum of the first terms is at most the whole
pub sum_mono : (n : ℕ) (f : ℕ → ℕ) (i : ℕ) → i < n → sum i f + f (suc i) ≤ sum n f
sum_mono zero f i h = absurd (not-suc-le-zero h)
sum_mono (suc n) f i h =
    ⊎_elim (λ (e : i ≡ n). subst (λ (k : ℕ). sum k f + f (suc k) ≤ sum n f + f (suc n)) (sym e) (omega arith))
    (λ (l : i < n). omega (arith, sum_mono n f i l)) (eq-or-lt_of_le (le_of_suc-le-suc h))

-- the place of an element below a sum of sizes: which term it falls into, and where
pub sum_place : (n : ℕ) (f : ℕ → ℕ) (x : ℕ) → x < sum n f → (i : ℕ) × (j : ℕ) × (i < n) × (j < f (suc i)) × (x ≡ sum i f + j)
sum_place zero f x h = absurd (not-suc-le-zero h)
sum_place (suc n) f x h =
    ⊎_elim (λ (l : sum n f ≤ x). let j = x - sum n f in (n, j, omega arith, omega arith, omega arith))
    (λ (l : x < sum n f). let q = sum_place n f x l in (q.0, q.1, omega (arith, q.2), q.3, q.4)) (le_or_lt (sum n f) x)

-- a number below n rows of s is in one row, at one place
pub row_place : (n s x : ℕ) → x < n * s → (i : ℕ) × (j : ℕ) × (i < n) × (j < s) × (x ≡ i * s + j)
row_place n s x h =
    let q = sum_place n (λ i. s) x (subst (λ (k : ℕ). x < k) (sym (sum_const n s)) h) in
    (q.0, q.1, q.2, q.3, q.4 ∙ ap (λ (k : ℕ). k + q.1) (sum_const q.0 s))

module _ {A : Type 0} where
  -- a test of the elements is one of the places 1 to the length
  pub all_places : (p : A → Bool) (xs : List A) (d : A) → all p xs ≡ all_to (length xs) (λ j. p (get_or xs (pred j) d))
  all_places p xs d =
      same (all p xs) (all_to (length xs) (λ j. p (get_or xs (pred j) d)))
      (λ t. all_to_in (length xs) _ (λ j h. all_at p xs d t j h)) (λ t. all_in p xs d (all_to_at (length xs) (λ j. p (get_or xs (pred j) d)) t))

  pub length_tab : (n : ℕ) (f : ℕ → A) → length (tab n f) ≡ n
  length_tab zero f = refl
  length_tab (suc n) f = length-append (tab n f) (f (suc n) ∷ []) ∙ ap (λ k. k + 1) (length_tab n f) ∙ add-one n

  pub length_each : (n : ℕ) (f : ℕ → List A) → length (each n f) ≡ sum n (λ i. length (f i))
  length_each zero f = refl
  length_each (suc n) f = length-append (each n f) (f (suc n)) ∙ ap (λ k. k + length (f (suc n))) (length_each n f)

  pub tab_ext : (n : ℕ) (f g : ℕ → A) → ((i : ℕ) → i < n → f (suc i) ≡ g (suc i)) → tab n f ≡ tab n g
  tab_ext zero f g e = refl
  tab_ext (suc n) f g e = ap₂ (λ xs x. xs ++ (x ∷ [])) (tab_ext n f g (λ i h. e i (omega arith))) (e n (omega arith))

  pub each_ext : (n : ℕ) (f g : ℕ → List A) → ((i : ℕ) → i < n → f (suc i) ≡ g (suc i)) → each n f ≡ each n g
  each_ext zero f g e = refl
  each_ext (suc n) f g e = ap₂ ◌++◌ (each_ext n f g (λ i h. e i (omega arith))) (e n (omega arith))

  -- a table is joined rows of one element
  pub tab_each : (n : ℕ) (f : ℕ → A) → tab n f ≡ each n (λ i. f i ∷ [])
  tab_each zero f = refl
  tab_each (suc n) f = ap (λ (xs : List A). xs ++ (f (suc n) ∷ [])) (tab_each n f)

  pub get_or_tab : (n : ℕ) (f : ℕ → A) (d : A) (i : ℕ) → i < n → get_or (tab n f) i d ≡ f (suc i)
  get_or_tab zero f d i h = absurd (not-suc-le-zero h)
  get_or_tab (suc n) f d i h =
      ⊎_elim
      (λ (e : i ≡ n). get_or_at (tab n f) (f (suc n)) [] d i (length_tab n f ∙ sym e) ∙ ap (λ (k : ℕ). f (suc k)) (sym e))
      (λ (l : i < n). get_or-append (tab n f) (f (suc n) ∷ []) d i (subst (λ (k : ℕ). i < k) (sym (length_tab n f)) l) ∙ get_or_tab n f d i l)
      (eq-or-lt_of_le (le_of_suc-le-suc h))

  -- element j of row i of joined rows stands after the rows before it
  pub get_or_each : (n : ℕ) (f : ℕ → List A) (d : A) (i j : ℕ) → i < n → j < length (f (suc i))
      → get_or (each n f) (sum i (λ k. length (f k)) + j) d ≡ get_or (f (suc i)) j d
  get_or_each zero f d i j h g = absurd (not-suc-le-zero h)
  get_or_each (suc n) f d i j h g =
      ⊎_elim
      (λ (e : i ≡ n).
      ap (λ (k : ℕ). get_or (each n f ++ f (suc n)) (k + j) d) (ap (λ (k : ℕ). sum k (λ r. length (f r))) e ∙ sym (length_each n f))
      ∙ get_or-append-add (each n f) (f (suc n)) j d ∙ ap (λ (k : ℕ). get_or (f (suc k)) j d) (sym e))
      (λ (l : i < n).
      get_or-append (each n f) (f (suc n)) d (sum i (λ r. length (f r)) + j)
      (omega (arith, sum_mono n (λ r. length (f r)) i l, length_each n f)) ∙ get_or_each n f d i j l g)
      (eq-or-lt_of_le (le_of_suc-le-suc h))

  -- rows of one length: element j of row i stands at i times the length, and j
  pub get_d_rows : (n s : ℕ) (f : ℕ → List A) (d : A) → ((i : ℕ) → i < n → length (f (suc i)) ≡ s) → (i j : ℕ) → i < n → j < s
      → get_or (each n f) (i * s + j) d ≡ get_or (f (suc i)) j d
  get_d_rows n s f d e i j h g =
      ap (λ (k : ℕ). get_or (each n f) (k + j) d) (sym (sum_ext i (λ k. length (f k)) (λ k. s) (λ k l. e k (omega arith)) ∙ sum_const i s))
      ∙ get_or_each n f d i j h (subst (λ (k : ℕ). j < k) (sym (e i h)) g)

  pub length_rows : (n s : ℕ) (f : ℕ → List A) → ((i : ℕ) → i < n → length (f (suc i)) ≡ s) → length (each n f) ≡ n * s
  length_rows n s f e = length_each n f ∙ sum_ext n (λ k. length (f k)) (λ k. s) e ∙ sum_const n s

  -- what stands after a first part
  pub get_or_skip : (xs ys : List A) (d : A) (k i : ℕ) → length xs ≡ k → get_or (xs ++ ys) (k + i) d ≡ get_or ys i d
  get_or_skip xs ys d k i e = ap (λ (j : ℕ). get_or (xs ++ ys) (j + i) d) (sym e) ∙ get_or-append-add xs ys i d

  -- what stands in a first part
  pub get_or_here : (xs ys : List A) (d : A) (k i : ℕ) → length xs ≡ k → i < k → get_or (xs ++ ys) i d ≡ get_or xs i d
  get_or_here xs ys d k i e h = get_or-append xs ys d i (subst (λ (j : ℕ). i < j) (sym e) h)

  -- the first row in front
  pub each_front : (n : ℕ) (f : ℕ → List A) → each (suc n) f ≡ f 1 ++ each n (λ i. f (suc i))
  each_front zero f = sym (append-nil (f 1))
  each_front (suc n) f = ap (λ xs. xs ++ f (suc (suc n))) (each_front n f) ∙ append_assoc (f 1) (each n (λ i. f (suc i))) (f (suc (suc n)))

  pub each_none : (n : ℕ) → each {A = A} n (λ i. []) ≡ []
  each_none zero = refl
  each_none (suc n) = append-nil (each n (λ i. [])) ∙ each_none n

  pub all_keep : (p q : A → Bool) (xs : List A) → So (all q xs) → So (all q (keep p xs))
  all_keep p q [] t = refl
  all_keep p q (x ∷ xs) t = go (p x) (all_keep p q xs (and_right (q x) (all q xs) t))
    where
      go : (b : Bool) → So (all q (keep p xs)) → So (all q (cond b (x ∷ keep p xs) (keep p xs)))
      go true ih = and_in (and_left (q x) (all q xs) t) ih
      go false ih = ih

  -- nothing is lost where everything passes
  pub keep_all : (p : A → Bool) (xs : List A) → ((x : A) → So (p x)) → keep p xs ≡ xs
  keep_all p [] f = refl
  keep_all p (x ∷ xs) f = ap (λ b. cond b (x ∷ keep p xs) (keep p xs)) (f x) ∙ ap (λ ys. x ∷ ys) (keep_all p xs f)

  -- a test of the kept elements asks nothing of the others
  pub all_of_keep : (p q : A → Bool) (xs : List A) → all q (keep p xs) ≡ all (λ x. not (p x) || q x) xs
  all_of_keep p q [] = refl
  all_of_keep p q (x ∷ xs) = go (p x) ∙ ap (λ b. (not (p x) || q x) && b) (all_of_keep p q xs)
    where
      go : (b : Bool) → all q (cond b (x ∷ keep p xs) (keep p xs)) ≡ ((not b || q x) && all q (keep p xs))
      go true = refl
      go false = refl

pub map_tab : {A B : Type 0} (f : A → B) (n : ℕ) (g : ℕ → A) → map f (tab n g) ≡ tab n (λ i. f (g i))
map_tab f zero g = refl
map_tab f (suc n) g = map-append f (tab n g) (g (suc n) ∷ []) ∙ ap (λ xs. xs ++ (f (g (suc n)) ∷ [])) (map_tab f n g)

pub get_d_map : {A B : Type 0} (f : A → B) (xs : List A) (d : A) (e : B) (j : ℕ) → j < length xs → get_or (map f xs) j e ≡ f (get_or xs j d)
get_d_map f [] d e j h = absurd (not-suc-le-zero h)
get_d_map f (x ∷ xs) d e zero h = refl
get_d_map f (x ∷ xs) d e (suc j) h = get_d_map f xs d e j (le_of_suc-le-suc h)

-- a row for each element of a list
pub each_list : {A B : Type 0} (f : A → List B) (xs : List A) (d : A) → each (length xs) (λ r. f (get_or xs (pred r) d)) ≡ joined (map f xs)
each_list f [] d = refl
each_list f (x ∷ xs) d = each_front (length xs) (λ r. f (get_or (x ∷ xs) (pred r) d)) ∙ ap (λ ys. f x ++ ys) (shifted ∙ each_list f xs d)
  where
    shifted : each (length xs) (λ i. f (get_or (x ∷ xs) i d)) ≡ each (length xs) (λ r. f (get_or xs (pred r) d))
    shifted = each_ext (length xs) _ _ (λ i h. refl)

-- a row of one element or none: the elements that are kept
pub joined_keep : {A B : Type 0} (p : A → Bool) (g : A → B) (xs : List A) → joined (map (λ x. cond (p x) (g x ∷ []) []) xs) ≡ map g (keep p xs)
joined_keep p g [] = refl
joined_keep p g (x ∷ xs) = ap (λ ys. cond (p x) (g x ∷ []) [] ++ ys) (joined_keep p g xs) ∙ go (p x)
  where
    go : (b : Bool) → cond b (g x ∷ []) [] ++ map g (keep p xs) ≡ map g (cond b (x ∷ keep p xs) (keep p xs))
    go true = refl
    go false = refl
