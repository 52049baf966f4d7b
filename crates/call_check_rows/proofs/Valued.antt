-- The first false clause, for values as bytes.
--   FirstFalse P A f  f is the first clause that is false under A, 0 if none is
--   first_false       `code_first_false` gives it
-- Assumes nothing.
use Prim.Native.Nat.{ℕ, zero, suc, pred, ◌≤◌, ◌<◌}
use native.Mathlib.Omega.{arith}
use mathlib.Core.Path.{◌≡◌, sym, ap, subst}
use mathlib.Core.Bool.{Bool, false, not, So}
use mathlib.Core.List.{List, []}
use lib.ListN.{length, get_or}
use borrow.Author.Tests.{not-true, not-false}
use Rattle.lists.specs.Lists.{first}
use Rattle.lists.proofs.First.{IsFirst, first_is}
use Rattle.encoding.specs.Code.{code_of}
use Rattle.meaning.specs.Program.{Program}
use Rattle.encoding.specs.Width.{width}
use Rattle.encoding.specs.Literal.{Assignment, Clause, value_of, clause_true}
use Rattle.theory.proofs.Whole.{clauses_whole}
use Rattle.answer_offers.specs.Offered.{value_bytes}
use Rattle.truth_clauses.specs.Truth.{value_in, code_first_false}
use Rattle.call_results.proofs.ValueBytes.{values_same}
use Rattle.call_check_rows.specs.Rows.{clause_of, clause_number}

-- ---- the first false clause

pub record FirstFalse (P : Program) (A : Assignment) (f : ℕ) : Type 0 where
  pub within : f ≤ clause_number P
  pub is_false_lem : 0 < f → clause_true A (clause_of P f) ≡ false
  pub true_before : (j : ℕ) → 0 < j → j < f → So (clause_true A (clause_of P j))
  pub all_true_lem : f ≤ 0 → (j : ℕ) → 0 < j → j ≤ clause_number P → So (clause_true A (clause_of P j))

-- the clauses of document 01's code are the program's
first_of_lem : (P : Program) (bs : List ℕ) → code_first_false (code_of P) bs ≡ first (clause_number P) (λ j. not (clause_true (value_in bs) (clause_of P j)))
unfolding code_first_false
first_of_lem P bs =
    ap (λ (cs : List Clause). first (length cs) (λ j. not (clause_true (value_in bs) (get_or cs (pred j) [])))) (clauses_whole P (width P.atoms))

pub first_false : (P : Program) (bs : List Bool) → FirstFalse P (value_of bs) (code_first_false (code_of P) (value_bytes bs))
first_false P bs =
    subst (λ (A : Assignment). FirstFalse P A (code_first_false (code_of P) (value_bytes bs))) (values_same bs)
    (subst (FirstFalse P (value_in (value_bytes bs))) (sym (first_of_lem P (value_bytes bs))) (go (first_is (clause_number P) is_false)))
  where
    is_false : ℕ → Bool
    is_false j = not (clause_true (value_in (value_bytes bs)) (clause_of P j))

    go : {f : ℕ} → IsFirst (clause_number P) is_false f → FirstFalse P (value_in (value_bytes bs)) f
    go {f} F =
        record {
          within = F.within;
          is_false_lem = λ h. not-true (clause_true (value_in (value_bytes bs)) (clause_of P f)) (F.passes h);
          true_before = λ j. before j;
          all_true_lem = λ z j. nowhere z j;
        }
      where
        before : (j : ℕ) → 0 < j → j < f → So (clause_true (value_in (value_bytes bs)) (clause_of P j))
        before zero p h = absurd (omega (arith, p))
        before (suc j) p h = not-false (clause_true (value_in (value_bytes bs)) (clause_of P (suc j))) (F.none_before j h)

        nowhere : f ≤ 0 → (j : ℕ) → 0 < j → j ≤ clause_number P → So (clause_true (value_in (value_bytes bs)) (clause_of P j))
        nowhere z zero p h = absurd (omega (arith, p))
        nowhere z (suc j) p h = not-false (clause_true (value_in (value_bytes bs)) (clause_of P (suc j))) (F.none_at_all (omega (arith, z)) j h)
