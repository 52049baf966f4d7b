-- A reply's number is 0 exactly if the call accepts: no row of document 01's table has the number 0.
-- Assumes nothing.
use Prim.Native.Nat.{ℕ}
use native.Mathlib.Omega.{arith}
use mathlib.Core.Path.{◌≡◌, refl, ap}
use mathlib.Core.Logic.{◌↔◌}
use mathlib.Core.List.{List}
use Rattle.refusals.specs.declared.TextRefusal.{TextRefusal}
use Rattle.refusals.specs.declared.TextRefusal.TheVariants.{Overlong, Malformed, TooManyAtoms, UnknownAtom, Unordered, TooManyRules, BodiesFull}
use Rattle.reader.specs.Verdict.{read_of}
use Rattle.refusals.specs.Numbers.{text_number}
use Rattle.meaning.specs.Program.{Program}
use Rattle.program.specs.Arrays.{decoded}
use Rattle.refusals.specs.declared.LineRefusal.{LineRefusal}
use Rattle.refusals.specs.declared.LineRefusal.TheVariants.{Text, NoSuchClause, ShortBuffer}
use Rattle.refusals.specs.Numbers.{line_number}
use Rattle.call_lines_rows.specs.Lines.{line_answer, run_answer}
use Rattle.refusals.specs.declared.CheckRefusal.{CheckRefusal}
use Rattle.refusals.specs.declared.CheckRefusal.TheVariants.{Text as CheckText, ShortBuffer as CheckShort, OverlongAnswer, MalformedAnswer, NoModelOffered, StrayVariable, RepeatedVariable, FalseClause}
use Rattle.refusals.specs.Numbers.{check_number}
use Rattle.call_check_rows.specs.Check.{check_answer}
use Rattle.call_check_rows.specs.Rows.{Accepts}
use Rattle.refusals.specs.declared.FillRefusal.{FillRefusal}
use Rattle.refusals.specs.declared.FillRefusal.TheVariants.{Text as FillText, ShortBuffer as FillShort, BadSet, Unfounded}
use Rattle.refusals.specs.Numbers.{fill_number}
use Rattle.call_fill_rows.specs.FillOut.{fill_answer}
use Rattle.call_replies.specs.Replies.{of_reading, of_line, of_run, of_check, of_fill}
use Rattle.exports.specs.Replies.{read_reply, line_reply, run_reply, check_reply, fill_reply}
use Rattle.reader.specs.Verdict.{ReadVerdict}
use Rattle.std.specs.Prelude.{Err, Ok}
use Rattle.call_lines_rows.specs.Verdicts.{LineVerdict, RunVerdict, written_run}
use Rattle.call_check_rows.specs.Verdict.{CheckVerdict, model_shown}
use Rattle.call_fill_rows.specs.Verdict.{FillVerdict, filled_out}

-- ---- no row has the number 0

text_some : (r : TextRefusal) → text_number r ≡ 0 → ⊥
text_some (Overlong s) e = omega (arith, e)
text_some (Malformed s) e = omega (arith, e)
text_some (TooManyAtoms s) e = omega (arith, e)
text_some (UnknownAtom s) e = omega (arith, e)
text_some (Unordered s) e = omega (arith, e)
text_some (TooManyRules s) e = omega (arith, e)
text_some (BodiesFull s) e = omega (arith, e)

line_some : (r : LineRefusal) → line_number r ≡ 0 → ⊥
line_some (Text r) e = text_some r e
line_some (ShortBuffer s) e = omega (arith, e)
line_some (NoSuchClause s) e = omega (arith, e)

check_some : (r : CheckRefusal) → check_number r ≡ 0 → ⊥
check_some (CheckText r) e = text_some r e
check_some (CheckShort s) e = omega (arith, e)
check_some (OverlongAnswer s) e = omega (arith, e)
check_some (MalformedAnswer s) e = omega (arith, e)
check_some NoModelOffered e = omega (arith, e)
check_some (StrayVariable s) e = omega (arith, e)
check_some (RepeatedVariable s) e = omega (arith, e)
check_some (FalseClause j) e = omega (arith, e)

fill_some : (r : FillRefusal) → fill_number r ≡ 0 → ⊥
fill_some (FillText r) e = text_some r e
fill_some (FillShort s) e = omega (arith, e)
fill_some (BadSet s) e = omega (arith, e)
fill_some (Unfounded a) e = omega (arith, e)

-- ---- by the verdict

of_reading_lem : (P : Program) (v : ReadVerdict) → (of_reading v P).number ≡ 0 → v ≡ Ok tt
of_reading_lem P (Ok u) e = refl
of_reading_lem P (Err r) e = absurd (text_some r e)

of_line_lem : (v : LineVerdict) → (of_line v).number ≡ 0 → (n : ℕ) × (v ≡ Ok n)
of_line_lem (Ok n) e = (n, refl)
of_line_lem (Err r) e = absurd (line_some r e)

of_run_lem : (v : RunVerdict) → (of_run v).number ≡ 0 → (m : ℕ) × (n : ℕ) × (v ≡ written_run m n)
of_run_lem (Ok x) e = (x.lines, x.bytes, refl)
of_run_lem (Err r) e = absurd (line_some r e)

of_check_lem : (v : CheckVerdict) → (of_check v).number ≡ 0 → (k : ℕ) × (h : ℕ) × (c : ℕ) × (v ≡ model_shown k h c)
of_check_lem (Ok x) e = (x.atoms, x.highest, x.assumed, refl)
of_check_lem (Err r) e = absurd (check_some r e)

of_fill_lem : (v : FillVerdict) → (of_fill v).number ≡ 0 → (k : ℕ) × (h : ℕ) × (v ≡ filled_out k h)
of_fill_lem (Ok x) e = (x.atoms, x.highest, refl)
of_fill_lem (Err r) e = absurd (fill_some r e)

-- ---- of the calls

pub read_zero : (t : List ℕ) → ((read_reply t).number ≡ 0) ↔ ((read_of t).verdict ≡ Ok tt)
unfolding read_reply
read_zero t =
    (of_reading_lem (decoded (read_of t).program) (read_of t).verdict, λ e. ap (λ (v : ReadVerdict). (of_reading v (decoded (read_of t).program)).number) e)

pub line_zero : (t : List ℕ) (j k n : ℕ) → ((line_reply t j k n).number ≡ 0) ↔ ((m : ℕ) × (line_answer t j k n ≡ Ok m))
unfolding line_reply
line_zero t j k n = (of_line_lem (line_answer t j k n), λ e. ap (λ (v : LineVerdict). (of_line v).number) e.1)

pub run_zero : (t : List ℕ) (j n : ℕ) → ((run_reply t j n).number ≡ 0) ↔ ((m : ℕ) × (x : ℕ) × (run_answer t j n ≡ written_run m x))
unfolding run_reply
run_zero t j n = (of_run_lem (run_answer t j n), λ e. ap (λ (v : RunVerdict). (of_run v).number) e.2)

pub check_zero : (t u : List ℕ) (a l : ℕ) → ((check_reply t u a l).number ≡ 0) ↔ Accepts t u a l
unfolding check_reply
check_zero t u a l = (of_check_lem (check_answer t u a l), λ e. ap (λ (v : CheckVerdict). (of_check v).number) e.3)

pub fill_zero : (t s : List ℕ) (a l : ℕ) → ((fill_reply t s a l).number ≡ 0) ↔ ((k : ℕ) × (h : ℕ) × (fill_answer t s a l ≡ filled_out k h))
unfolding fill_reply
fill_zero t s a l = (of_fill_lem (fill_answer t s a l), λ e. ap (λ (v : FillVerdict). (of_fill v).number) e.2)
