-- Stores into one of several lists that stand one after the other.
--   total xss         how many elements the lists have in all
--   sets_region       the elements of zs stored in the list after those of xss, from its place a on
--   set_region        one element stored there
-- Assumes nothing.
use Prim.Native.Nat.{ℕ, suc, ◌+◌, ◌≤◌, ◌<◌}
use native.Mathlib.Nat.{zero-add, suc-add}
use native.Mathlib.Omega.{arith}
use mathlib.Core.Path.{◌≡◌, refl, ◌∙◌, ap}
use mathlib.Core.List.{List, [], ◌∷◌, ◌++◌}
use lib.ListN.{length, set, length-set}
use lib.Seq.{sets, set-append_left}
use Rattle.lists.specs.Lists.{joined}

-- ---- two lists

-- stored in the first
sets_first : (xs ys zs : List ℕ) (a : ℕ) → a + length zs ≤ length xs → sets (xs ++ ys) a zs ≡ sets xs a zs ++ ys
sets_first xs ys [] a h = refl
sets_first xs ys (z ∷ zs) a h =
    ap (λ (ws : List ℕ). sets ws (suc a) zs) (set-append_left xs ys a z (omega (arith, h)))
    ∙ sets_first (set xs a z) ys zs (suc a) (omega (arith, h, length-set xs a z))

-- stored in the second
sets_cons : (x : ℕ) (xs zs : List ℕ) (a : ℕ) → sets (x ∷ xs) (suc a) zs ≡ x ∷ sets xs a zs
sets_cons x xs [] a = refl
sets_cons x xs (z ∷ zs) a = sets_cons x (set xs a z) zs (suc a)

sets_second : (xs ys zs : List ℕ) (a : ℕ) → sets (xs ++ ys) (length xs + a) zs ≡ xs ++ sets ys a zs
sets_second [] ys zs a = ap (λ (k : ℕ). sets ys k zs) (zero-add a)
sets_second (x ∷ xs) ys zs a =
    ap (λ (k : ℕ). sets (x ∷ (xs ++ ys)) k zs) (suc-add (length xs) a)
    ∙ sets_cons x (xs ++ ys) zs (length xs + a)
    ∙ ap (λ (ws : List ℕ). x ∷ ws) (sets_second xs ys zs a)

-- ---- many lists

abbrev pub total : List (List ℕ) → ℕ
total [] = 0
total (xs ∷ xss) = length xs + total xss

in_region : (xss : List (List ℕ)) (ys : List ℕ) (yss : List (List ℕ)) (zs : List ℕ) (a : ℕ) → a + length zs ≤ length ys
    → sets (joined (xss ++ (ys ∷ yss))) (total xss + a) zs ≡ joined (xss ++ (sets ys a zs ∷ yss))
in_region [] ys yss zs a h = ap (λ (k : ℕ). sets (ys ++ joined yss) k zs) (zero-add a) ∙ sets_first ys (joined yss) zs a h
in_region (xs ∷ xss) ys yss zs a h =
    ap (λ (k : ℕ). sets (xs ++ joined (xss ++ (ys ∷ yss))) k zs) (same (length xs) (total xss))
    ∙ sets_second xs (joined (xss ++ (ys ∷ yss))) zs (total xss + a)
    ∙ ap (λ (ws : List ℕ). xs ++ ws) (in_region xss ys yss zs a h)
  where
    same : (i j : ℕ) → i + j + a ≡ i + (j + a)
    same i j = omega arith

pub sets_region : (xss : List (List ℕ)) (ys : List ℕ) (yss : List (List ℕ)) (zs : List ℕ) (a j : ℕ) → j ≡ total xss + a → a + length zs ≤ length ys
    → sets (joined (xss ++ (ys ∷ yss))) j zs ≡ joined (xss ++ (sets ys a zs ∷ yss))
sets_region xss ys yss zs a j e h = ap (λ (k : ℕ). sets (joined (xss ++ (ys ∷ yss))) k zs) e ∙ in_region xss ys yss zs a h

pub set_region : (xss : List (List ℕ)) (ys : List ℕ) (yss : List (List ℕ)) (z a j : ℕ) → j ≡ total xss + a → a < length ys
    → set (joined (xss ++ (ys ∷ yss))) j z ≡ joined (xss ++ (set ys a z ∷ yss))
set_region xss ys yss z a j e h = sets_region xss ys yss (z ∷ []) a j e (omega (arith, h))
