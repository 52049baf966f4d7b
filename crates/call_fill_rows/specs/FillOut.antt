-- Filling out a set of atoms (document 01, "Check and filling out" and "Verdicts"): what the call answers, and what each lent buffer holds afterwards.
-- s is the set, one byte for each atom.
--   first_bad s             the first byte of s above 1, counted from 1; 0 if there is none
--   bad_place s             the place of that byte, counted from 0, if there is one
--   founded_result G M      row 18, for the set M of atoms, and what an accepted set gives; no variable is left out
--   set_result G s          row 17, then these
--   fill_result G s a l     row 8, for buffers of a and l bytes, then these
--   fill_of t s a l         the rows of the program text t, then these
--   fill_answer, fill_assignment, fill_levels  the call's answer and the two buffers afterwards
--   fill_call t s b l       the three together, for the buffers b and l
-- Assumes nothing.
use Rattle.std.specs.Prelude.{ℕ, pred, Option, ◌-◌, ◌≡◌, Bool, false, not, cond, List, eqb, ltb, length, get_or}
use Rattle.std.specs.List.{position}
use Rattle.lists.specs.Lists.{tab, first, highest}
use Rattle.meaning.specs.Program.{Atoms}
use Rattle.meaning.specs.Stage.{differ}
use Rattle.encoding.specs.Code.{Code, code_of, program_of, level_of, variables_of, code_fill}
use Rattle.reader.specs.Verdict.{read_of}
use Rattle.answer_offers.specs.Offered.{value_bytes}
use Rattle.level_lists.specs.Bytes.{set_in}
use Rattle.call_results.specs.Results.{Called, called, Result, true_count, level_byte, assignment_after, levels_after, var_total, program_read}
use Rattle.refusals.specs.declared.FillRefusal.{FillRefusal}
use Rattle.refusals.specs.declared.FillRefusal.TheVariants.{Text, ShortBuffer, BadSet, Unfounded}
use Rattle.reader.specs.Verdict.{ReadVerdict}
use Rattle.std.specs.Prelude.{Err, Ok}
use Rattle.call_fill_rows.specs.Verdict.{FillVerdict, filled_out}

-- ---- the rows, last to first

abbrev pub fill_refused : FillRefusal → Result FillRefusal
fill_refused r = Result.refused r

unfoldable pub first_bad : List ℕ → ℕ
first_bad s = first (length s) (λ i. ltb 1 (get_or s (pred i) 0))

abbrev pub bad_place : List ℕ → Option ℕ
bad_place s = position (λ x. ltb 1 x) s

unfoldable pub founded_result : Code → Atoms → Result FillRefusal
founded_result G M =
    cond (ltb 0 (differ (program_of G) M)) (fill_refused (Unfounded (differ (program_of G) M)))
    (Result.accepted 0 (value_bytes (code_fill G M)) (tab G.n (level_of G M)))

abbrev pub set_result : Code → List ℕ → Result FillRefusal
set_result G s =
    cond (not (eqb (length s) G.n)) (fill_refused (BadSet G.n))
    (cond (ltb 0 (first_bad s)) (fill_refused (BadSet (first_bad s - 1))) (founded_result G (set_in G.n s)))

abbrev pub fill_result : Code → List ℕ → ℕ → ℕ → Result FillRefusal
fill_result G s a l =
    cond (ltb a (variables_of G)) (fill_refused (ShortBuffer (variables_of G)))
    (cond (ltb l G.n) (fill_refused (ShortBuffer G.n)) (set_result G s))

-- ---- the call

abbrev pub fill_after_reading : ReadVerdict → Result FillRefusal → Result FillRefusal
fill_after_reading (Ok u) x = x
fill_after_reading (Err r) x = fill_refused (Text r)

abbrev pub fill_verdict_of : ℕ → Result FillRefusal → FillVerdict
fill_verdict_of n (Result.accepted c bs ls) = filled_out (true_count n bs) (highest n (level_byte ls))
fill_verdict_of n (Result.refused r) = Err r

-- no refusal writes
abbrev pub fill_zeroes : FillRefusal → Bool
fill_zeroes r = false

-- of code G, the result x is answered by r and leaves the buffers b and l as c and m
abbrev pub FillGives : Code → Result FillRefusal → FillVerdict → List ℕ → List ℕ → List ℕ → List ℕ → Type 0
FillGives G x r b c l m = (r ≡ fill_verdict_of G.n x) × (c ≡ assignment_after fill_zeroes (variables_of G) x b) × (m ≡ levels_after G.n x l)

unfoldable pub fill_of : List ℕ → List ℕ → ℕ → ℕ → Result FillRefusal
fill_of t s a l = fill_after_reading (read_of t).verdict (fill_result (code_of (program_read (read_of t))) s a l)

unfoldable pub fill_answer : List ℕ → List ℕ → ℕ → ℕ → FillVerdict
fill_answer t s a l = fill_verdict_of (program_read (read_of t)).atoms (fill_of t s a l)

unfoldable pub fill_assignment : List ℕ → List ℕ → List ℕ → ℕ → List ℕ
fill_assignment t s b l = assignment_after fill_zeroes (var_total (program_read (read_of t))) (fill_of t s (length b) l) b

unfoldable pub fill_levels : List ℕ → List ℕ → ℕ → List ℕ → List ℕ
fill_levels t s a b = levels_after (program_read (read_of t)).atoms (fill_of t s a (length b)) b

abbrev pub fill_call : List ℕ → List ℕ → List ℕ → List ℕ → Called FillVerdict
fill_call t s b l = called (fill_answer t s (length b) (length l)) (fill_assignment t s b (length l)) (fill_levels t s (length b) l)
