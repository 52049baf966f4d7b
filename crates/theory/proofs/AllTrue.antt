-- When all clauses of a list are true, part by part.
--   so_or, or_so, so_implies          a disjunction of truth values as an implication
--   each_at, each_in                  of `each n f`: those of f i for i from 1 to n
--   append_left, append_right, append_in   of two lists, one after the other
--   one_of                            of a list of one clause
-- Assumes nothing.
use Prim.Native.Nat.{ℕ, suc, ◌<◌}
use mathlib.Core.Path.{refl, sym, ◌∙◌}
use mathlib.Core.Bool.{Bool, true, false, not, ◌||◌, So, false≢true}
use mathlib.Core.List.{List, [], ◌∷◌, ◌++◌}
use Rattle.lists.specs.Lists.{each}
use Rattle.lists.proofs.Bools.{and_in, and_left, and_right}
use Rattle.lists.proofs.Tests.{all_to_at, all_to_in, all_append, all_each}
use Rattle.encoding.specs.Literal.{Clause, Assignment, clause_true, all_true}

pub so_or : (a b : Bool) → (So (not a) → So b) → So (a || b)
so_or true b f = refl
so_or false b f = f refl

pub or_so : (a b : Bool) → So (not a || b) → So a → So b
or_so true b t u = t
or_so false b t u = absurd (false≢true u)

pub so_implies : (a b : Bool) → (So a → So b) → So (not a || b)
so_implies true b f = f refl
so_implies false b f = refl

module _ (A : Assignment) where
  pub each_at : (n : ℕ) (f : ℕ → List Clause) → So (all_true A (each n f)) → (i : ℕ) → i < n → So (all_true A (f (suc i)))
  each_at n f t = all_to_at n (λ i. all_true A (f i)) (sym (all_each (clause_true A) n f) ∙ t)

  pub each_in : (n : ℕ) (f : ℕ → List Clause) → ((i : ℕ) → i < n → So (all_true A (f (suc i)))) → So (all_true A (each n f))
  each_in n f g = all_each (clause_true A) n f ∙ all_to_in n (λ i. all_true A (f i)) g

  pub append_left : (xs ys : List Clause) → So (all_true A (xs ++ ys)) → So (all_true A xs)
  append_left xs ys t = and_left (all_true A xs) (all_true A ys) (sym (all_append (clause_true A) xs ys) ∙ t)

  pub append_right : (xs ys : List Clause) → So (all_true A (xs ++ ys)) → So (all_true A ys)
  append_right xs ys t = and_right (all_true A xs) (all_true A ys) (sym (all_append (clause_true A) xs ys) ∙ t)

  pub append_in : (xs ys : List Clause) → So (all_true A xs) → So (all_true A ys) → So (all_true A (xs ++ ys))
  append_in xs ys t u = all_append (clause_true A) xs ys ∙ and_in t u

  pub one_of : (c : Clause) → So (all_true A (c ∷ [])) → So (clause_true A c)
  one_of c t = and_left (clause_true A c) true t
