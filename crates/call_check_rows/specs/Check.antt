-- The check of a solver answer against a program (document 01, "Check and filling out" and "Verdicts"; document 02, Q-3): what it answers, and what each
-- lent buffer holds afterwards. V is the number of variables of the code G, n that of its atoms; t is the answer, of k bytes.
--   zeroes r                 refusals 13, 14 and 16 zero the assignment
--   values_judged G c bs     row 16, for the values bs, c of which are assumed
--   completed_result G bs    the same, for the values bs, completed: a variable that has none has 2
--   read_judged G v bs       rows 13 and 14, by how the literals were assigned, v, then row 16, for the values bs
--   after_assigning o x      rows 13 and 14, by the outcome o of assigning, then x
--   assigned_result G t e    the same, for the literals of t from position e on, then these for their values, completed
--   form_result G t f        rows 11 and 12, by the form f of t, then these
--   answer_result G t k      row 10, then these
--   check_result G t k a l   row 8, for buffers of a and l bytes, then these
--   check_of t u a l         the rows of the program text t, then these, for the answer u
--   check_answer, check_assignment, check_levels  the call's answer and the two buffers afterwards
--   check_call t u b l       the three together, for the buffers b and l
-- Assumes nothing.
use Rattle.std.specs.Prelude.{ℕ, ◌≡◌, Bool, true, false, cond, List, ltb, length, replicate}
use Rattle.lists.specs.Lists.{highest}
use Rattle.encoding.specs.Code.{Code, code_of, code_sizes, variables_of}
use Rattle.text.specs.Limits.{max_text}
use Rattle.reader.specs.Verdict.{read_of}
use Rattle.answer_reader.specs.declared.AnswerFault.TheVariants.{NoModel, Malformed}
use Rattle.answer_reader.specs.Results.{Formed, form_of}
use Rattle.answer_bytes.specs.Bytes.{Outcome, unset_count, completed}
use Rattle.answer_bytes.specs.Refusals.{refusal_of}
use Rattle.answer_values.specs.Assign.{literals_from, assigned_of, assigned_bytes, ValuesRead}
use Rattle.truth_clauses.specs.Truth.{code_first_false}
use Rattle.call_results.specs.Results.{Called, called, Result, true_count, level_byte, counters, assignment_after, levels_after, var_total, program_read}
use Rattle.refusals.specs.declared.CheckRefusal.{CheckRefusal}
use Rattle.refusals.specs.declared.CheckRefusal.TheVariants.{Text, ShortBuffer, OverlongAnswer, MalformedAnswer, NoModelOffered, StrayVariable, RepeatedVariable, FalseClause}
use Rattle.reader.specs.Verdict.{ReadVerdict}
use Rattle.reader.specs.declared.ReadResult.{ReadResult}
use Rattle.std.specs.Prelude.{Err, Ok}
use Rattle.call_check_rows.specs.Verdict.{CheckVerdict, model_shown}

-- ---- refusals

abbrev pub zeroes : CheckRefusal → Bool
zeroes (Text r) = false
zeroes (ShortBuffer s) = false
zeroes (OverlongAnswer s) = false
zeroes (MalformedAnswer s) = false
zeroes NoModelOffered = false
zeroes (StrayVariable s) = true
zeroes (RepeatedVariable s) = true
zeroes (FalseClause j) = true

-- ---- the rows, last to first

abbrev pub check_refused : CheckRefusal → Result CheckRefusal
check_refused r = Result.refused r

unfoldable pub values_judged : Code → ℕ → List ℕ → Result CheckRefusal
values_judged G c bs =
    cond (ltb 0 (code_first_false G bs)) (check_refused (FalseClause (code_first_false G bs))) (Result.accepted c bs (counters (code_sizes G) bs))

abbrev pub completed_result : Code → List ℕ → Result CheckRefusal
completed_result G bs = values_judged G (unset_count (variables_of G) bs) (completed bs)

abbrev pub read_judged : Code → ValuesRead → List ℕ → Result CheckRefusal
read_judged G (Ok c) bs = values_judged G c bs
read_judged G (Err f) bs = check_refused (refusal_of f)

abbrev pub after_assigning : Outcome → Result CheckRefusal → Result CheckRefusal
after_assigning Outcome.done x = x
after_assigning (Outcome.stray s) x = check_refused (StrayVariable s)
after_assigning (Outcome.repeated s) x = check_refused (RepeatedVariable s)

-- v variables without values
abbrev pub no_values : ℕ → List ℕ
no_values v = replicate v 2

abbrev pub assigned_result : Code → List ℕ → ℕ → Result CheckRefusal
assigned_result G t e =
    after_assigning (assigned_of (variables_of G) (literals_from t e) (no_values (variables_of G)))
    (completed_result G (assigned_bytes (variables_of G) (literals_from t e) (no_values (variables_of G))))

abbrev pub form_result : Code → List ℕ → Formed → Result CheckRefusal
form_result G t (Err (Malformed s)) = check_refused (MalformedAnswer s)
form_result G t (Err NoModel) = check_refused NoModelOffered
form_result G t (Ok e) = assigned_result G t e

abbrev pub answer_result : Code → List ℕ → ℕ → Result CheckRefusal
answer_result G t k = cond (ltb max_text k) (check_refused (OverlongAnswer k)) (form_result G t (form_of t))

abbrev pub check_result : Code → List ℕ → ℕ → ℕ → ℕ → Result CheckRefusal
check_result G t k a l =
    cond (ltb a (variables_of G)) (check_refused (ShortBuffer (variables_of G)))
    (cond (ltb l G.n) (check_refused (ShortBuffer G.n)) (answer_result G t k))

-- ---- the call

abbrev pub check_after_reading : ReadVerdict → Result CheckRefusal → Result CheckRefusal
check_after_reading (Ok u) x = x
check_after_reading (Err r) x = check_refused (Text r)

abbrev pub check_verdict_of : ℕ → Result CheckRefusal → CheckVerdict
check_verdict_of n (Result.accepted c bs ls) = model_shown (true_count n bs) (highest n (level_byte ls)) c
check_verdict_of n (Result.refused r) = Err r

-- of code G, the result x is answered by r and leaves the buffers b and l as c and m
abbrev pub CheckGives : Code → Result CheckRefusal → CheckVerdict → List ℕ → List ℕ → List ℕ → List ℕ → Type 0
CheckGives G x r b c l m = (r ≡ check_verdict_of G.n x) × (c ≡ assignment_after zeroes (variables_of G) x b) × (m ≡ levels_after G.n x l)

abbrev pub call_result : ReadResult → List ℕ → ℕ → ℕ → ℕ → Result CheckRefusal
call_result r t k a l = check_after_reading r.verdict (check_result (code_of (program_read r)) t k a l)

unfoldable pub check_of : List ℕ → List ℕ → ℕ → ℕ → Result CheckRefusal
check_of t u a l = call_result (read_of t) u (length u) a l

unfoldable pub check_answer : List ℕ → List ℕ → ℕ → ℕ → CheckVerdict
check_answer t u a l = check_verdict_of (program_read (read_of t)).atoms (check_of t u a l)

unfoldable pub check_assignment : List ℕ → List ℕ → List ℕ → ℕ → List ℕ
check_assignment t u b l = assignment_after zeroes (var_total (program_read (read_of t))) (check_of t u (length b) l) b

unfoldable pub check_levels : List ℕ → List ℕ → ℕ → List ℕ → List ℕ
check_levels t u a b = levels_after (program_read (read_of t)).atoms (check_of t u a (length b)) b

abbrev pub check_call : List ℕ → List ℕ → List ℕ → List ℕ → Called CheckVerdict
check_call t u b l = called (check_answer t u (length b) (length l)) (check_assignment t u b (length l)) (check_levels t u (length b) l)
