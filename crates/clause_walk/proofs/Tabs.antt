-- Tables and rows of lists: from the front, over two lists, in pairs, through a map.
-- Assumes nothing.
use Prim.Native.Nat.{ℕ, zero, suc, pred, ◌+◌, ◌*◌, ◌≤◌, ◌<◌, suc-le-suc}
use native.Mathlib.Nat.{add-zero}
use native.Mathlib.Omega.{arith}
use mathlib.Core.Path.{◌≡◌, refl, sym, ◌∙◌, ap, ap₂}
use mathlib.Core.Logic.{◌⊎◌, inl, inr}
use mathlib.Core.Bool.{Bool, true, false, cond}
use mathlib.Core.List.{List, [], ◌∷◌, ◌++◌, map, append_assoc, append-nil, map-append}
use lib.Dec.{leb}
use lib.ListN.{length, get_or}
use borrow.Author.Tests.{le-leb, lt-leb}
use Rattle.lists.specs.Lists.{tab, each, select}
use Rattle.lists.proofs.Tests.{le_or_lt}
use Rattle.meaning.specs.Program.{Rule, no_rule, rule_at}
use Rattle.clause_walk.specs.Walk.{head_at}
use Rattle.lists.proofs.Tables.{tab_ext}

module _ {A : Type 0} where
  pub tab_front : (n : ℕ) (f : ℕ → A) → tab (suc n) f ≡ f 1 ∷ tab n (λ i. f (suc i))
  tab_front zero f = refl
  tab_front (suc n) f = ap (λ (xs : List A). xs ++ (f (suc (suc n)) ∷ [])) (tab_front n f)

  pub each_add : (a b : ℕ) (f : ℕ → List A) → each (a + b) f ≡ each a f ++ each b (λ i. f (a + i))
  each_add a zero f = ap (λ (k : ℕ). each k f) (add-zero a) ∙ sym (append-nil (each a f))
  each_add a (suc b) f =
      ap (λ (k : ℕ). each k f) (next a b)
      ∙ ap₂ (λ (xs ys : List A). xs ++ ys) (each_add a b f) (ap f (sym (next a b)))
      ∙ append_assoc (each a f) (each b (λ i. f (a + i))) (f (a + suc b))
    where
      next : (a b : ℕ) → a + suc b ≡ suc (a + b)
      next a b = omega arith

  -- two for each number
  pub tab_pairs : (n : ℕ) (f : ℕ → A) → tab (2 * n) f ≡ each n (λ j. f (suc (2 * pred j)) ∷ f (suc (suc (2 * pred j))) ∷ [])
  tab_pairs zero f = refl
  tab_pairs (suc n) f =
      ap (λ (k : ℕ). tab k f) (double n)
      ∙ append_assoc (tab (2 * n) f) (f (suc (2 * n)) ∷ []) (f (suc (suc (2 * n))) ∷ [])
      ∙ ap (λ (xs : List A). xs ++ (f (suc (2 * n)) ∷ f (suc (suc (2 * n))) ∷ [])) (tab_pairs n f)
    where
      double : (n : ℕ) → 2 * suc n ≡ suc (suc (2 * n))
      double n = omega arith

  -- the elements of a list, in order
  pub tab_map : (f : ℕ → A) (xs : List ℕ) → tab (length xs) (λ y. f (get_or xs (pred y) 0)) ≡ map f xs
  tab_map f [] = refl
  tab_map f (x ∷ xs) =
      tab_front (length xs) (λ y. f (get_or (x ∷ xs) (pred y) 0)) ∙ ap (λ (zs : List A). f x ∷ zs) (tab_ext (length xs) (λ i. f (get_or (x ∷ xs) i 0)) (λ y. f (get_or xs (pred y) 0)) (λ i h. refl) ∙ tab_map f xs)

  -- those of two lists, each in its own way
  pub tab_two : (f g : ℕ → A) (xs ys : List ℕ)
      → tab (length (xs ++ ys)) (λ y. cond (leb y (length xs)) (f (get_or (xs ++ ys) (pred y) 0)) (g (get_or (xs ++ ys) (pred y) 0))) ≡ map f xs ++ map g ys
  tab_two f g [] ys =
      tab_ext (length ys) (λ y. cond (leb y 0) (f (get_or ys (pred y) 0)) (g (get_or ys (pred y) 0))) (λ y. g (get_or ys (pred y) 0)) (λ i h. rw (lt-leb (suc i) 0 (omega arith))) ∙ tab_map g ys
  tab_two f g (x ∷ xs) ys =
      tab_front (length (xs ++ ys)) F
      ∙ ap₂ (λ (z : A) (zs : List A). z ∷ zs) (rw (le-leb 1 (suc (length xs)) (omega arith))) (tab_ext (length (xs ++ ys)) (λ i. F (suc i)) G (λ i h. same i (le_or_lt (suc i) (length xs))) ∙ tab_two f g xs ys)
    where
      F : ℕ → A
      F y = cond (leb y (suc (length xs))) (f (get_or (x ∷ (xs ++ ys)) (pred y) 0)) (g (get_or (x ∷ (xs ++ ys)) (pred y) 0))

      G : ℕ → A
      G y = cond (leb y (length xs)) (f (get_or (xs ++ ys) (pred y) 0)) (g (get_or (xs ++ ys) (pred y) 0))

      same : (i : ℕ) → (suc i ≤ length xs) ⊎ (length xs < suc i) → F (suc (suc i)) ≡ G (suc i)
      same i (inl h) = rw (le-leb (suc (suc i)) (suc (length xs)) (suc-le-suc h), le-leb (suc i) (length xs) h)
      same i (inr h) = rw (lt-leb (suc (suc i)) (suc (length xs)) (suc-le-suc h), lt-leb (suc i) (length xs) h)

pub map_select : {A : Type 0} (f : ℕ → A) (n : ℕ) (p : ℕ → Bool) → map f (select n p) ≡ each n (λ i. cond (p i) (f i ∷ []) [])
map_select f zero p = refl
map_select f (suc n) p =
    map-append f (select n p) (cond (p (suc n)) (suc n ∷ []) [])
    ∙ ap₂ (λ xs ys. xs ++ ys) (map_select f n p) (one (p (suc n)))
  where
    one : (b : Bool) → map f (cond b (suc n ∷ []) []) ≡ cond b (f (suc n) ∷ []) []
    one true = refl
    one false = refl

-- the head at r of the rules' heads is that of rule r
pub head_is : (rs : List Rule) (r : ℕ) → head_at (map (λ R. R.head) rs) r ≡ (rule_at rs r).head
head_is rs r = go rs (pred r)
  where
    go : (rs : List Rule) (j : ℕ) → get_or (map (λ R. R.head) rs) j 0 ≡ (get_or rs j no_rule).head
    go [] j = refl
    go (R ∷ rs) zero = refl
    go (R ∷ rs) (suc j) = go rs j
