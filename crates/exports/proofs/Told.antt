-- The reply of a call, from what the calls below gave: with its buffers; to a text, by its totals.
-- Assumes nothing.
use Prim.Native.Nat.{ℕ}
use mathlib.Core.Path.{◌≡◌, refl, ◌∙◌, ap}
use mathlib.Core.List.{List}
use Rattle.refusals.specs.Numbers.{text_number, text_spot}
use Rattle.program.specs.Arrays.{decoded}
use Rattle.clause_tables.specs.Tables.{totals_of}
use Rattle.call_table.specs.Loaded.{totals_for, totals_read}
use Rattle.call_lines_rows.specs.Lines.{Answered, answered}
use Rattle.call_results.specs.Results.{Called, called}
use Rattle.call_replies.specs.declared.Reply.{Reply}
use Rattle.call_replies.specs.Replies.{of_totals, of_verdict, of_reading}
use Rattle.reader.specs.Verdict.{ReadVerdict}
use Rattle.reader.specs.declared.ReadResult.{ReadResult}
use Rattle.std.specs.Prelude.{Err, Ok}

-- the reply for a verdict, with the buffers as the call leaves them
pub replied_lines : {A : Type 0} (f : A → Reply) {v : A} {b : List ℕ} {x : Answered A} {r : Reply} → r ≡ f v → answered v b ≡ x → answered r b ≡ answered (f x.verdict) x.buffer
replied_lines {A} f {v} {b} q e = ap (λ (y : Reply). answered y b) q ∙ ap (λ (y : Answered A). answered (f y.verdict) y.buffer) e

pub replied : {A : Type 0} (f : A → Reply) {v : A} {b l : List ℕ} {x : Called A} {r : Reply} → r ≡ f v → called v b l ≡ x → called r b l ≡ called (f x.verdict) x.assignment x.levels
replied {A} f {v} {b} {l} q e = ap (λ (y : Reply). called y b l) q ∙ ap (λ (y : Called A). called (f y.verdict) y.assignment y.levels) e

-- the reply to a text, from its totals
pub read_told : (x : ReadResult) → of_verdict of_totals text_number text_spot (totals_read x) ≡ of_reading x.verdict (decoded x.program)
unfolding totals_of
read_told x = by x.verdict
  where
    by : (v : ReadVerdict) → of_verdict of_totals text_number text_spot (totals_for v x.program) ≡ of_reading v (decoded x.program)
    by (Ok u) = refl
    by (Err r) = refl
