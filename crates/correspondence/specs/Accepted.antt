-- Accepted assignments (document 01, "Check and filling out"): lists of values, over the texts of programs and answers.
--   AcceptedAssignment t P bs   the check accepts, for the program text t of P, an answer that has the values bs, completed
--   Room P b l                  the buffers b and l have room for the assignment and the levels
--   CheckWrites                 what the check of an answer with an accepted assignment returns and writes
--   set_bytes n M               a set of atoms as bytes, one for each atom
--   SetOf n s M                 the bytes s, n of them and each 0 or 1, are those of the set M
-- Assumes nothing.
use Rattle.std.specs.Prelude.{ℕ, ◌≤◌, ◌<◌, ◌≡◌, Bool, cond, List, ◌++◌, length, get_or, drop}
use Rattle.lists.specs.Lists.{tab, sum, highest as highest_of}
use Rattle.meaning.specs.Program.{Program, Atoms}
use Rattle.meaning.specs.Stage.{level}
use Rattle.encoding.specs.Fill.{true_atoms}
use Rattle.answer_form.specs.Pieces.{Spotted}
use Rattle.answer_offers.specs.Offered.{value_bytes, values_of}
use Rattle.level_lists.specs.Bytes.{set_in}
use Rattle.call_results.specs.Results.{var_total}
use Rattle.call_check_rows.specs.Check.{check_answer, check_assignment, check_levels}
use Rattle.call_check_rows.specs.Rows.{Offers, assumed_number}
use Rattle.call_check_rows.specs.Verdict.{model_shown}

pub record AcceptedAssignment (t : List ℕ) (P : Program) (bs : List Bool) : Type 0 where
  pub answer : List ℕ
  pub literals : List Spotted
  pub offers : Offers answer literals
  pub its_values : values_of (var_total P) literals ≡ bs
  -- with buffers of V and n bytes
  pub count : ℕ
  pub highest : ℕ
  pub assumed : ℕ
  pub accepted : check_answer t answer (var_total P) P.atoms ≡ model_shown count highest assumed

pub record Room (P : Program) (b l : List ℕ) : Type 0 where
  pub assignment : var_total P ≤ length b
  pub levels : P.atoms ≤ length l

-- the check of an answer with the accepted assignment bs: how many atoms are true, the highest level number, how many variables the answer leaves out, the
-- values and the level numbers; the bytes after them stay
pub record CheckWrites (t : List ℕ) (P : Program) (bs : List Bool) (X : AcceptedAssignment t P bs) (b l : List ℕ) : Type 0 where
  pub answer_is : check_answer t X.answer (length b) (length l)
      ≡ model_shown (sum P.atoms (λ a. cond (true_atoms P bs a) 1 0)) (highest_of P.atoms (level P (true_atoms P bs))) (assumed_number P X.literals)
  pub assignment_is : check_assignment t X.answer b (length l) ≡ value_bytes bs ++ drop (var_total P) b
  pub levels_are : check_levels t X.answer (length b) l ≡ tab P.atoms (level P (true_atoms P bs)) ++ drop P.atoms l

abbrev pub set_bytes : ℕ → Atoms → List ℕ
set_bytes n M = value_bytes (tab n M)

pub record SetOf (n : ℕ) (s : List ℕ) (M : Atoms) : Type 0 where
  pub sized : length s ≡ n
  pub bytes : (i : ℕ) → i < length s → get_or s i 0 ≤ 1
  pub its_atoms : set_in n s ≡ M
