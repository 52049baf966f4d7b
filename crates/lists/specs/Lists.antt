-- Tests, tables and sums over plain lists, counted from 1 as document 01 counts.
--   all p xs, any p xs      each element passes the test; some element does
--   all_to n g, any_to n g  each of the numbers 1 to n passes; some one does
--   tab n f                 f 1, f 2, .., f n
--   each n f                f 1, then f 2, .., then f n, in one list
--   joined xss              the lists of xss, one after the other
--   keep p xs               the elements that pass, in their order
--   select n p              the numbers from 1 to n that pass
--   sum n f                 f 1 + f 2 + .. + f n
--   highest n f             the highest of f 1, f 2, .., f n, 0 if n is 0
--   first n p               the first of the numbers 1 to n that passes, 0 if none does
-- Assumes nothing.
use Rattle.std.specs.Prelude.{ℕ, zero, suc, ◌+◌, max, Bool, true, false, ◌&&◌, ◌||◌, cond, List, [], ◌∷◌, ◌++◌}

module _ {A : Type 0} where
  abbrev pub all : (A → Bool) → List A → Bool
  all p [] = true
  all p (x ∷ xs) = p x && all p xs

  abbrev pub any : (A → Bool) → List A → Bool
  any p [] = false
  any p (x ∷ xs) = p x || any p xs

  abbrev pub tab : ℕ → (ℕ → A) → List A
  tab zero f = []
  tab (suc n) f = tab n f ++ (f (suc n) ∷ [])

  abbrev pub each : ℕ → (ℕ → List A) → List A
  each zero f = []
  each (suc n) f = each n f ++ f (suc n)

  abbrev pub joined : List (List A) → List A
  joined [] = []
  joined (xs ∷ xss) = xs ++ joined xss

  abbrev pub keep : (A → Bool) → List A → List A
  keep p [] = []
  keep p (x ∷ xs) = cond (p x) (x ∷ keep p xs) (keep p xs)

abbrev pub all_to : ℕ → (ℕ → Bool) → Bool
all_to zero g = true
all_to (suc n) g = all_to n g && g (suc n)

abbrev pub any_to : ℕ → (ℕ → Bool) → Bool
any_to zero g = false
any_to (suc n) g = any_to n g || g (suc n)

abbrev pub sum : ℕ → (ℕ → ℕ) → ℕ
sum zero f = 0
sum (suc n) f = sum n f + f (suc n)

abbrev pub highest : ℕ → (ℕ → ℕ) → ℕ
highest zero f = 0
highest (suc n) f = max (highest n f) (f (suc n))

abbrev pub select : ℕ → (ℕ → Bool) → List ℕ
select n p = each n (λ i. cond (p i) (i ∷ []) [])

-- what stands for the first number of n that passes, where f does for those before it and b says whether the last one passes
abbrev pub or_last : ℕ → Bool → ℕ → ℕ
or_last zero true n = n
or_last zero false n = 0
or_last (suc f) b n = suc f

abbrev pub first : ℕ → (ℕ → Bool) → ℕ
first zero p = 0
first (suc n) p = or_last (first n p) (p (suc n)) (suc n)
