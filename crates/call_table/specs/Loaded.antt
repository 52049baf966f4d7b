-- What reading a program text gives a call.
--   table_after v p b    the table of the program p where the verdict v accepts, else the cells b as they were
--   Loaded x v b e       v is the verdict of the reader's answer x, and e the table after it
--   totals_read x        the totals of the program of the reader's answer x, or why it refuses
-- Assumes nothing.
use Rattle.std.specs.Prelude.{ℕ, ◌≡◌, List, Result, Ok, Err}
use Rattle.encoding.specs.Code.{code_of}
use Rattle.program.specs.declared.Program.{Program as Arrays}
use Rattle.program.specs.Arrays.{decoded}
use Rattle.refusals.specs.declared.TextRefusal.{TextRefusal}
use Rattle.clause_tables.specs.Tables.{totals_of, table_of}
use Rattle.clause_tables.specs.declared.Totals.{Totals}
use Rattle.reader.specs.Verdict.{ReadVerdict}
use Rattle.reader.specs.declared.ReadResult.{ReadResult}

abbrev pub table_after : ReadVerdict → Arrays → List ℕ → List ℕ
table_after (Ok u) p b = table_of (code_of (decoded p))
table_after (Err r) p b = b

pub record Loaded (x : ReadResult) (v : ReadVerdict) (b e : List ℕ) : Type 0 where
  pub verdict_is : v ≡ x.verdict
  pub table_is : e ≡ table_after x.verdict x.program b

abbrev pub totals_for : ReadVerdict → Arrays → Result Totals TextRefusal
totals_for (Ok u) p = Ok (totals_of (code_of (decoded p)))
totals_for (Err r) p = Err r

abbrev pub totals_read : ReadResult → Result Totals TextRefusal
totals_read x = totals_for x.verdict x.program
