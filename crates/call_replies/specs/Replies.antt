-- The reply for a verdict: a refusal's number and spot by document 01's table ("Verdicts"), both 0 for acceptance, and the numbers of an accepted call, a, b
-- and c, 0 where there is none; d is 0.
--   accepted_reply a b c, refused_reply r s  the two kinds of reply
--   of_totals, of_length, of_lines, of_model, of_set  the reply for what an accepted call gives: V and C; a line's length; lines and bytes; true atoms and
--                             highest level, twice, and for a model how many variables were left out
--   of_verdict f number spot v  the reply for the verdict v: by f for what is given, else with the refusal's number and spot
--   totals_reply P            V and C of the program P
--   of_reading v P            the reply for the reader's verdict, where P is the program
--   of_line, of_run, of_check, of_fill  the reply for a verdict of each call
-- Assumes nothing.
use Rattle.std.specs.Prelude.{ℕ, Result, Ok, Err}
use Rattle.meaning.specs.Program.{Program}
use Rattle.refusals.specs.Numbers.{text_number, text_spot}
use Rattle.clause_runs.specs.Lines.{clause_total}
use Rattle.refusals.specs.Numbers.{line_number, line_spot}
use Rattle.call_results.specs.Results.{var_total}
use Rattle.refusals.specs.Numbers.{check_number, check_spot}
use Rattle.refusals.specs.Numbers.{fill_number, fill_spot}
use Rattle.clause_tables.specs.declared.Totals.{Totals}
use Rattle.call_lines_rows.specs.declared.Run.{Run}
use Rattle.call_lines_rows.specs.Verdicts.{LineVerdict, RunVerdict}
use Rattle.call_check_rows.specs.declared.Shown.{Shown}
use Rattle.call_check_rows.specs.Verdict.{CheckVerdict}
use Rattle.call_fill_rows.specs.declared.Filled.{Filled}
use Rattle.call_fill_rows.specs.Verdict.{FillVerdict}
use Rattle.call_replies.specs.declared.Reply.{Reply}
use Rattle.reader.specs.Verdict.{ReadVerdict}

abbrev pub accepted_reply : ℕ → ℕ → ℕ → Reply
accepted_reply a b c = record { number = 0; spot = 0; a = a; b = b; c = c; d = 0 }

abbrev pub refused_reply : ℕ → ℕ → Reply
refused_reply r s = record { number = r; spot = s; a = 0; b = 0; c = 0; d = 0 }

abbrev pub of_totals : Totals → Reply
of_totals t = accepted_reply t.vars t.clauses 0

abbrev pub of_length : ℕ → Reply
of_length n = accepted_reply n 0 0

abbrev pub of_lines : Run → Reply
of_lines x = accepted_reply x.lines x.bytes 0

abbrev pub of_model : Shown → Reply
of_model x = accepted_reply x.atoms x.highest x.assumed

abbrev pub of_set : Filled → Reply
of_set x = accepted_reply x.atoms x.highest 0

-- ---- from a verdict

abbrev pub of_verdict : {A R : Type 0} → (A → Reply) → (R → ℕ) → (R → ℕ) → Result A R → Reply
of_verdict f number spot (Ok x) = f x
of_verdict f number spot (Err r) = refused_reply (number r) (spot r)

abbrev pub totals_reply : Program → Reply
totals_reply P = accepted_reply (var_total P) (clause_total P) 0

abbrev pub of_reading : ReadVerdict → Program → Reply
of_reading v P = of_verdict (λ u. totals_reply P) text_number text_spot v

abbrev pub of_line : LineVerdict → Reply
of_line = of_verdict of_length line_number line_spot

abbrev pub of_run : RunVerdict → Reply
of_run = of_verdict of_lines line_number line_spot

abbrev pub of_check : CheckVerdict → Reply
of_check = of_verdict of_model check_number check_spot

abbrev pub of_fill : FillVerdict → Reply
of_fill = of_verdict of_set fill_number fill_spot
