-- The call that gives a line of a text's clause file, and the call for a run of them (document 01, "Clauses, in order").
--   line_answer t j k n  the answer for line j of text t, into n bytes from place k on
--   line_bytes t j k b   the buffer b afterwards
--   run_answer t j n     the answer for the lines of text t from line j on, into n bytes: how many lines, and their bytes
--   run_bytes t j b      the buffer b afterwards
--   Answered A           what such a call answers, an A, and what it leaves in its lent buffer
--   line_call t j k b, run_call t j b  the two together, for the buffer b
-- Assumes nothing.
use Rattle.std.specs.Prelude.{ℕ, ◌+◌, ◌-◌, cond, List, ◌++◌, ltb, length, take, drop, Result, Ok, Err}
use Rattle.lists.specs.Lists.{joined}
use Rattle.encoding.specs.Code.{Code, code_of, clause_total_of}
use Rattle.reader.specs.Verdict.{read_of}
use Rattle.program.specs.Arrays.{decoded}
use Rattle.clause_runs.specs.Lines.{code_lines, code_line, fitting, code_run, code_run_bytes}
use Rattle.refusals.specs.declared.LineRefusal.{LineRefusal}
use Rattle.refusals.specs.declared.LineRefusal.TheVariants.{Text, NoSuchClause, ShortBuffer}
use Rattle.reader.specs.Verdict.{ReadVerdict}
use Rattle.call_lines_rows.specs.Verdicts.{LineVerdict, RunVerdict}

pub record Answered (A : Type 0) : Type 0 where
  pub verdict : A
  pub buffer : List ℕ

abbrev pub answered : {A : Type 0} → A → List ℕ → Answered A
answered v b = record { verdict = v; buffer = b }

-- ---- one line

-- x, where the code has line j and `room` bytes take it
abbrev pub answer_of : {A : Type 0} → Code → ℕ → ℕ → A → Result A LineRefusal
answer_of G j room x =
    cond (ltb (clause_total_of G) j) (Err (NoSuchClause (clause_total_of G)))
    (cond (ltb room (length (code_line G j))) (Err (ShortBuffer (length (code_line G j)))) (Ok x))

-- of a code, into `room` bytes
abbrev pub answer_in : Code → ℕ → ℕ → LineVerdict
answer_in G j room = answer_of G j room (length (code_line G j))

abbrev pub line_bytes_in : Code → ℕ → ℕ → List ℕ → List ℕ
line_bytes_in G j k b =
    cond (ltb (clause_total_of G) j) b
    (cond (ltb (length b - k) (length (code_line G j))) b (take k b ++ (code_line G j ++ drop (k + length (code_line G j)) b)))

abbrev pub after_text : ReadVerdict → LineVerdict → LineVerdict
after_text (Ok u) x = x
after_text (Err r) x = Err (Text r)

abbrev pub kept_bytes : ReadVerdict → List ℕ → List ℕ → List ℕ
kept_bytes (Ok u) x b = x
kept_bytes (Err r) x b = b

-- a place at or past the end leaves no bytes: n - k is 0 there
unfoldable pub line_answer : List ℕ → ℕ → ℕ → ℕ → LineVerdict
line_answer t j k n = after_text (read_of t).verdict (answer_in (code_of (decoded (read_of t).program)) j (n - k))

unfoldable pub line_bytes : List ℕ → ℕ → ℕ → List ℕ → List ℕ
line_bytes t j k b = kept_bytes (read_of t).verdict (line_bytes_in (code_of (decoded (read_of t).program)) j k b) b

abbrev pub line_call : List ℕ → ℕ → ℕ → List ℕ → Answered LineVerdict
line_call t j k b = answered (line_answer t j k (length b)) (line_bytes t j k b)

-- ---- a run of lines

abbrev pub run_answer_in : Code → ℕ → ℕ → RunVerdict
run_answer_in G j n = answer_of G j n (record { lines = fitting n (drop j (code_lines G)); bytes = length (joined (code_run G j n)) })

abbrev pub after_text_run : ReadVerdict → RunVerdict → RunVerdict
after_text_run (Ok u) x = x
after_text_run (Err r) x = Err (Text r)

unfoldable pub run_answer : List ℕ → ℕ → ℕ → RunVerdict
run_answer t j n = after_text_run (read_of t).verdict (run_answer_in (code_of (decoded (read_of t).program)) j n)

unfoldable pub run_bytes : List ℕ → ℕ → List ℕ → List ℕ
run_bytes t j b = kept_bytes (read_of t).verdict (code_run_bytes (code_of (decoded (read_of t).program)) j b) b

abbrev pub run_call : List ℕ → ℕ → List ℕ → Answered RunVerdict
run_call t j b = answered (run_answer t j (length b)) (run_bytes t j b)
