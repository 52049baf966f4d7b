-- The verdicts of the two calls that write lines.
--   LineVerdict        the length of the line written, or why none is
--   RunVerdict         the run of lines written, or why none is
--   written_run m x    m lines are written, which are x bytes
-- Assumes nothing.
use Rattle.std.specs.Prelude.{ℕ, Result, Ok}
use Rattle.refusals.specs.declared.LineRefusal.{LineRefusal}
use Rattle.call_lines_rows.specs.declared.Run.{Run}

abbrev pub LineVerdict : Type 0
LineVerdict = Result ℕ LineRefusal

abbrev pub RunVerdict : Type 0
RunVerdict = Result Run LineRefusal

abbrev pub written_run : ℕ → ℕ → RunVerdict
written_run m x = Ok (record { lines = m; bytes = x })
