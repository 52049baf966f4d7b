-- The clauses of one rule or atom, as one truth value each: what groups 1, 2, 3, 6 and 7 say. (Counters has groups 4 and 5.)
-- Assumes nothing.
use Prim.Native.Nat.{ℕ, suc, pred}
use mathlib.Core.Path.{◌≡◌, refl, ◌∙◌, ap, ap₂, fun_ext}
use mathlib.Core.Bool.{Bool, true, false, not, ◌&&◌, ◌||◌, beq, or-false, and-true}
use mathlib.Core.List.{List, [], ◌∷◌, map}
use Rattle.lists.specs.Lists.{all, any, all_to}
use Rattle.lists.proofs.Tests.{all_append, all_map, any_append, any_map, any_not, any_is, all_or, or_all_to, all_tab, all_to_ext}
use Rattle.meaning.specs.Program.{Rule, body_true, none_in}
use Rattle.encoding.specs.Literal.{Literal, var, −◌, Assignment, literal_true, clause_true, all_true}
use Rattle.encoding.specs.Variables.{Sizes, body_var, founds_var, level_var, below_var, next_below_var}
use Rattle.encoding.specs.Clauses.{body_clauses, implied_clauses, supported_clause, zero_clauses, founds_clauses, one_clauses, lowest_clauses, founded_clause}

body_table : (t p q : Bool) → ((not t || p) && ((not t || q) && ((t || (not p || not q)) && true))) ≡ beq t (p && q)
body_table true true true = refl
body_table true true false = refl
body_table true false true = refl
body_table true false false = refl
body_table false true true = refl
body_table false true false = refl
body_table false false true = refl
body_table false false false = refl

founds_table : (s t q : Bool) → ((not s || (t || false)) && ((not s || q) && ((s || (not t || not q)) && true))) ≡ beq s (t && q)
founds_table true true true = refl
founds_table true true false = refl
founds_table true false true = refl
founds_table true false false = refl
founds_table false true true = refl
founds_table false true false = refl
founds_table false false true = refl
founds_table false false false = refl

module _ (S : Sizes) (A : Assignment) where
  -- each of these clauses holds a literal that does not depend on x, and one that does
  all_second : {X : Type 0} (l : Literal) (f : X → Literal) (xs : List X)
      → all_true A (map (λ x. l ∷ f x ∷ []) xs) ≡ (literal_true A l || all (λ x. literal_true A (f x)) xs)
  all_second l f xs =
      all_map (clause_true A) (λ x. l ∷ f x ∷ []) xs
      ∙ ap (λ p. all p xs) (fun_ext (λ x. ap (λ b. literal_true A l || b) (or-false (literal_true A (f x)))))
      ∙ all_or (literal_true A l) (λ x. literal_true A (f x)) xs

  pub body_means : (r : ℕ) (R : Rule) → all_true A (body_clauses S r R) ≡ beq (A (body_var S r)) (body_true A R)
  body_means r R =
      let t = body_var S r in
      all_append (clause_true A) (map (λ b. − t ∷ var b ∷ []) R.positive) _
      ∙ ap₂ ◌&&◌ (all_second (− t) var R.positive)
      (all_append (clause_true A) (map (λ c. − t ∷ − c ∷ []) R.negative) _
      ∙ ap₂ ◌&&◌ (all_second (− t) −◌ R.negative)
      (ap (λ b. (A t || b) && true)
      (any_append (literal_true A) (map −◌ R.positive) (map var R.negative)
      ∙ ap₂ ◌||◌ (any_map (literal_true A) −◌ R.positive ∙ any_not A R.positive) (any_map (literal_true A) var R.negative ∙ any_is A R.negative))))
      ∙ body_table (A t) (all A R.positive) (none_in A R.negative)

  pub implied_means : (a : ℕ) (rs : List ℕ) → all_true A (implied_clauses S a rs) ≡ (A a || all (λ r. not (A (body_var S r))) rs)
  implied_means a rs = all_second (var a) (λ r. − body_var S r) rs

  pub supported_means : (a : ℕ) (rs : List ℕ) → clause_true A (supported_clause S a rs) ≡ (not (A a) || any (λ r. A (body_var S r)) rs)
  supported_means a rs = ap (λ b. not (A a) || b) (any_map (literal_true A) (λ r. var (body_var S r)) rs)

  pub zero_means : (a : ℕ) → all_true A (zero_clauses S a) ≡ (A a || all_to S.w (λ i. not (A (level_var S a i))))
  zero_means a =
      all_tab (clause_true A) S.w (λ i. var a ∷ − level_var S a i ∷ [])
      ∙ all_to_ext S.w _ _ (λ i h. ap (λ b. A a || b) (or-false (not (A (level_var S a (suc i))))))
      ∙ or_all_to (A a) S.w (λ i. not (A (level_var S a i)))

  pub founds_means : (r : ℕ) (ks : List ℕ)
      → all_true A (founds_clauses S r ks) ≡ beq (A (founds_var S r)) (A (body_var S r) && all (λ k. A (below_var S k S.w)) ks)
  founds_means r ks =
      let s = founds_var S r in
      let t = body_var S r in
      ap (λ b. (not (A s) || (A t || false)) && b)
      (all_append (clause_true A) (map (λ k. − s ∷ var (below_var S k S.w) ∷ []) ks) _
      ∙ ap₂ ◌&&◌ (all_second (− s) (λ k. var (below_var S k S.w)) ks)
      (ap (λ b. (A s || (not (A t) || b)) && true)
      (any_map (literal_true A) (λ k. − below_var S k S.w) ks ∙ any_not (λ k. A (below_var S k S.w)) ks)))
      ∙ founds_table (A s) (A t) (all (λ k. A (below_var S k S.w)) ks)

  -- the lowest bit of the counter of h is set and no other is
  abbrev pub one_test : ℕ → Bool
  one_test h = A (level_var S h 1) && all_to (pred S.w) (λ i. not (A (level_var S h (suc i))))

  pub one_means : (x h : ℕ) → all_true A (one_clauses S x h) ≡ (not (A x) || one_test h)
  one_means x h =
      ap₂ ◌&&◌ (ap (λ b. not (A x) || b) (or-false (A (level_var S h 1))))
      (all_tab (clause_true A) (pred S.w) (λ i. − x ∷ − level_var S h (suc i) ∷ [])
      ∙ all_to_ext (pred S.w) _ _ (λ i g. ap (λ b. not (A x) || b) (or-false (not (A (level_var S h (suc (suc i)))))))
      ∙ or_all_to (not (A x)) (pred S.w) (λ i. not (A (level_var S h (suc i)))))
      ∙ go (not (A x)) (A (level_var S h 1)) _
    where
      go : (c a b : Bool) → ((c || a) && (c || b)) ≡ (c || (a && b))
      go true a b = refl
      go false a b = refl

  -- the head is as low as the last clauses of group 6 ask
  abbrev pub low_test : ℕ → List ℕ → Bool
  low_test h [] = one_test h
  low_test h (k ∷ ks) = any (λ k. not (A (next_below_var S k S.w))) (k ∷ ks)

  pub lowest_means : (r h : ℕ) (ks : List ℕ) → all_true A (lowest_clauses S r h ks) ≡ (not (A (body_var S r)) || low_test h ks)
  lowest_means r h [] = one_means (body_var S r) h
  lowest_means r h (k ∷ ks) =
      and-true _ ∙ ap (λ b. not (A (body_var S r)) || b) (any_map (literal_true A) (λ k. − next_below_var S k S.w) (k ∷ ks))

  pub founded_means : (a : ℕ) (rs : List ℕ) → clause_true A (founded_clause S a rs) ≡ (not (A a) || any (λ r. A (founds_var S r)) rs)
  founded_means a rs = ap (λ b. not (A a) || b) (any_map (literal_true A) (λ r. var (founds_var S r)) rs)
