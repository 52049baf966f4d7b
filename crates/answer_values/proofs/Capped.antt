-- A literal whose number is capped.
--   capped_positive, capped_small       its magnitude
--   capped_outcome, capped_bytes        where n is at most 9890, it does what the literal does
-- Assumes nothing.
use Prim.Native.Nat.{ℕ, zero, suc, ◌^◌, ◌≤◌, ◌<◌, min}
use native.Mathlib.Omega.{arith}
use mathlib.Core.Path.{◌≡◌, refl, sym, ◌∙◌, ap, ap₂}
use mathlib.Core.Logic.{⊎_elim}
use mathlib.Core.List.{List}
use lib.IntN.{pos, neg_ℤ, nat_abs}
use borrow.Author.Tests.{lt-ltb}
use Rattle.lists.proofs.Tests.{le_or_lt}
use Rattle.encoding.specs.Literal.{Literal, variable}
use Literal.{var, −◌}
use Rattle.clause_literals.proofs.Signed.{abs_negated}
use Rattle.answer_words.specs.Words.{most_number}
use Rattle.answer_reader.specs.Results.{capped}
use Rattle.answer_bytes.specs.Bytes.{Outcome, put_outcome, put_bytes, number_value}
use Rattle.answer_values.specs.Assign.{literal_value}

capped_abs : (l : Literal) → nat_abs (capped l) ≡ min most_number (variable l)
capped_abs (var v) = refl
capped_abs (− v) = abs_negated (pos (min most_number v))

pub capped_positive : (l : Literal) → 0 < variable l → 0 < nat_abs (capped l)
capped_positive l h = omega (arith, capped_abs l, h)

pub capped_small : (l : Literal) → nat_abs (capped l) < 2 ^ 31
capped_small l = omega (arith, capped_abs l)

capped_value_lem : (l : Literal) → 0 < variable l → number_value (capped l) ≡ literal_value l
capped_value_lem (var v) h = refl
capped_value_lem (− v) h = go (min most_number v) (omega (arith, h))
  where
    go : (k : ℕ) → 0 < k → number_value (neg_ℤ (pos k)) ≡ 0
    go zero p = absurd (omega (arith, p))
    go (suc k) p = refl

module _ (n s : ℕ) (b : List ℕ) (l : Literal) (small : n ≤ 9890) where
  far : (v : ℕ) → n < v → put_outcome n v s b ≡ Outcome.stray s
  unfolding put_outcome
  far v h = rw (lt-ltb n v h)

  kept : (v x : ℕ) → n < v → put_bytes n v x b ≡ b
  unfolding put_bytes
  kept v x h = rw (lt-ltb n v h)

  pub capped_outcome : put_outcome n (nat_abs (capped l)) s b ≡ put_outcome n (variable l) s b
  capped_outcome =
      ap (λ (v : ℕ). put_outcome n v s b) (capped_abs l)
      ∙ ⊎_elim (λ (h : variable l ≤ most_number). ap (λ (v : ℕ). put_outcome n v s b) (omega (arith, h)))
      (λ (h : most_number < variable l). far (min most_number (variable l)) (omega (arith, h, small)) ∙ sym (far (variable l) (omega (arith, h, small))))
      (le_or_lt (variable l) most_number)

  pub capped_bytes : 0 < variable l → put_bytes n (nat_abs (capped l)) (number_value (capped l)) b ≡ put_bytes n (variable l) (literal_value l) b
  capped_bytes p =
      ap₂ (λ (v x : ℕ). put_bytes n v x b) (capped_abs l) (capped_value_lem l p)
      ∙ ⊎_elim (λ (h : variable l ≤ most_number). ap (λ (v : ℕ). put_bytes n v (literal_value l) b) (omega (arith, h)))
      (λ (h : most_number < variable l). kept (min most_number (variable l)) (literal_value l) (omega (arith, h, small)) ∙ sym (kept (variable l) (literal_value l) (omega (arith, h, small))))
      (le_or_lt (variable l) most_number)
