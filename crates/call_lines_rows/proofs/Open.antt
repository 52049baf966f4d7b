-- The calls for lines, by the tests that they make on what the reader answers; and that one equation about a call fixes its answer and its buffer.
-- Assumes nothing.
use Prim.Native.Nat.{ℕ, ◌-◌}
use mathlib.Core.Path.{◌≡◌, sym, ◌∙◌, ap, ap₂}
use mathlib.Core.List.{List}
use lib.ListN.{length}
use Rattle.encoding.specs.Code.{Code, code_of}
use Rattle.refusals.specs.declared.TextRefusal.{TextRefusal}
use Rattle.reader.specs.Verdict.{read_of}
use Rattle.program.specs.Arrays.{decoded}
use Rattle.refusals.specs.declared.LineRefusal.TheVariants.{Text}
use Rattle.clause_runs.specs.Lines.{code_run_bytes}
use Rattle.call_lines_rows.specs.Lines.{answer_in, line_bytes_in, after_text, kept_bytes, line_answer, line_bytes, run_answer_in, after_text_run, run_answer, run_bytes, Answered, answered, line_call, run_call}
use Rattle.reader.specs.Verdict.{ReadVerdict}
use Rattle.std.specs.Prelude.{Err, Ok}
use Rattle.call_lines_rows.specs.Verdicts.{LineVerdict, RunVerdict}

pub answered_fixes : {A : Type 0} {v w : A} {b c : List ℕ} → answered v b ≡ answered w c → (v ≡ w) × (b ≡ c)
answered_fixes {A} e = (ap (λ (x : Answered A). x.verdict) e, ap (λ (x : Answered A). x.buffer) e)

-- what a call gives by the code of the text's program is what its definition says
module _ (t : List ℕ) {v : ReadVerdict} (e : v ≡ (read_of t).verdict) where
  abbrev G : Code
  G = code_of (decoded (read_of t).program)

  module _ (j k : ℕ) (b : List ℕ) where
    abbrev line_by : ReadVerdict → Answered LineVerdict
    line_by y = answered (after_text y (answer_in G j (length b - k))) (kept_bytes y (line_bytes_in G j k b) b)

    line_is : {w : ReadVerdict} → v ≡ w → line_by w ≡ line_call t j k b
    unfolding line_answer line_bytes
    line_is a = ap line_by (sym a ∙ e)

    pub line_accepted : v ≡ Ok tt → {H : Code} → H ≡ G → {x : LineVerdict} {c : List ℕ}
        → (x ≡ answer_in H j (length b - k)) × (c ≡ line_bytes_in H j k b) → answered x c ≡ line_call t j k b
    line_accepted a h u = ap₂ answered (u.0 ∙ ap (λ (H : Code). answer_in H j (length b - k)) h) (u.1 ∙ ap (λ (H : Code). line_bytes_in H j k b) h) ∙ line_is a

    pub line_refused : {q : TextRefusal} → v ≡ Err q → answered (Err (Text q)) b ≡ line_call t j k b
    line_refused a = line_is a

  module _ (j : ℕ) (b : List ℕ) where
    abbrev run_by : ReadVerdict → Answered RunVerdict
    run_by y = answered (after_text_run y (run_answer_in G j (length b))) (kept_bytes y (code_run_bytes G j b) b)

    run_is : {w : ReadVerdict} → v ≡ w → run_by w ≡ run_call t j b
    unfolding run_answer run_bytes
    run_is a = ap run_by (sym a ∙ e)

    pub run_accepted : v ≡ Ok tt → {H : Code} → H ≡ G → {x : RunVerdict} {c : List ℕ}
        → (x ≡ run_answer_in H j (length b)) × (c ≡ code_run_bytes H j b) → answered x c ≡ run_call t j b
    run_accepted a h u = ap₂ answered (u.0 ∙ ap (λ (H : Code). run_answer_in H j (length b)) h) (u.1 ∙ ap (λ (H : Code). code_run_bytes H j b) h) ∙ run_is a

    pub run_refused : {q : TextRefusal} → v ≡ Err q → answered (Err (Text q)) b ≡ run_call t j b
    run_refused a = run_is a
