-- What the check and filling out write and return (document 01, "Check and filling out" and "Verdicts").
--   var_total P            the number of variables of P
--   program_read r         the program that a reading accepted
--   Result R               accepted, with the number of variables that were left out and read as false (document 02, Q-3), the values of the variables and
--                          the levels of the atoms as bytes; or refused
--   true_count n bs        how many of the atoms 1 to n are true under the values bs
--   level_byte ls a        the level of atom a in the bytes ls
--   counters S bs          the counter of each atom under the values bs
--   Called A               what a call answers, an A, and what it leaves in its two lent buffers, the assignment and the levels
--   assignment_after z v x b  the buffer b of the assignment of v variables, once the result x is given: a refusal that z names leaves zeros
--   levels_after n x b     the buffer b of the levels of n atoms
-- Assumes nothing.
use Rattle.std.specs.Prelude.{ℕ, pred, Bool, cond, List, ◌++◌, get_or, drop}
use Rattle.lists.specs.Lists.{tab, sum}
use Rattle.meaning.specs.Program.{Program}
use Rattle.encoding.specs.Variables.{Sizes}
use Rattle.encoding.specs.Code.{code_of, variables_of}
use Rattle.encoding.specs.Fill.{counter}
use Rattle.reader.specs.declared.ReadResult.{ReadResult}
use Rattle.program.specs.Arrays.{decoded}
use Rattle.answer_bytes.specs.Bytes.{overwritten}
use Rattle.truth_clauses.specs.Truth.{value_in}

-- V
abbrev pub var_total : Program → ℕ
var_total P = variables_of (code_of P)

-- the program that a reading accepted
abbrev pub program_read : ReadResult → Program
program_read r = decoded r.program

pub data Result (R : Type 0) : Type 0 where
  accepted : (assumed : ℕ) (values levels : List ℕ) → Result R
  refused : R → Result R

-- what a call answers, and what it leaves in its two lent buffers
pub record Called (A : Type 0) : Type 0 where
  pub verdict : A
  pub assignment : List ℕ
  pub levels : List ℕ

abbrev pub called : {A : Type 0} → A → List ℕ → List ℕ → Called A
called v b l = record { verdict = v; assignment = b; levels = l }

-- ---- what is returned

unfoldable pub true_count : ℕ → List ℕ → ℕ
true_count n bs = sum n (λ a. cond (value_in bs a) 1 0)

abbrev pub level_byte : List ℕ → ℕ → ℕ
level_byte ls a = get_or ls (pred a) 0

-- ---- what is written

abbrev pub counters : Sizes → List ℕ → List ℕ
counters S bs = tab S.n (counter S (value_in bs))

abbrev pub assignment_after : {R : Type 0} → (R → Bool) → ℕ → Result R → List ℕ → List ℕ
assignment_after z v (Result.accepted c bs ls) b = bs ++ drop v b
assignment_after z v (Result.refused r) b = cond (z r) (overwritten v 0 b) b

abbrev pub levels_after : {R : Type 0} → ℕ → Result R → List ℕ → List ℕ
levels_after n (Result.accepted c bs ls) b = ls ++ drop n b
levels_after n (Result.refused r) b = b
