-- What the writer hands over, by the reader's answer.
--   accepted_output, refused_output   for a text of which the front and the length are known
--   front_output                      the first 65,537 bytes and the length are enough
--   writer_lists, writer_refuses      for any text: the clause file of the program that it admits, or the line of the row that is answered
-- Assumes nothing.
use Prim.Native.Nat.{ℕ}
use mathlib.Core.Path.{◌≡◌, sym, ◌∙◌, ap, ap₂}
use mathlib.Core.List.{List}
use lib.ListN.{length, take}
use Rattle.refusals.specs.declared.TextRefusal.{TextRefusal}
use Rattle.meaning.specs.Program.{Program}
use Rattle.text.specs.Limits.{Admitted}
use Rattle.program.specs.Arrays.{decoded}
use Rattle.program.proofs.Decode.{decoded_kept}
use Rattle.reader.specs.Verdict.{read_of}
use Rattle.reader.specs.Counted.{counted_of}
use Rattle.reader.proofs.Counted.{counted_whole}
use Rattle.reader_laws.specs.Row.{Answers}
use Rattle.reader_laws.proofs.Contents.{admitted_answer}
use Rattle.fixed_lines.specs.Lines.{refused_text}
use Rattle.refusals.specs.Numbers.{text_number, text_spot}
use Rattle.writer_output.specs.Output.{clause_file, writer_refusal_line, writer_verdict_text, writer_output_of, writer_output, writer_text}
use Rattle.reader.specs.Verdict.{ReadVerdict}
use Rattle.std.specs.Prelude.{Err, Ok}

module _ (f : List ℕ) (k : ℕ) {v : ReadVerdict} (e : v ≡ (counted_of f k).verdict) where
  by_verdict : {w : ReadVerdict} → v ≡ w → writer_verdict_text w (clause_file (decoded (counted_of f k).program)) ≡ writer_output f k
  unfolding writer_output writer_output_of
  by_verdict h = ap (λ (w : ReadVerdict). writer_verdict_text w (clause_file (decoded (counted_of f k).program))) (sym h ∙ e)

  pub accepted_output : v ≡ Ok tt → clause_file (decoded (counted_of f k).program) ≡ writer_output f k
  accepted_output h = by_verdict h

  pub refused_output : {x : TextRefusal} → v ≡ Err x → writer_refusal_line v ≡ writer_output f k
  refused_output h = ap writer_refusal_line h ∙ by_verdict h

pub front_output : (t : List ℕ) → writer_output (take 65537 t) (length t) ≡ writer_text t
unfolding writer_output writer_text
front_output t = ap writer_output_of (counted_whole t)

pub writer_lists : (t : List ℕ) (P : Program) → Admitted t P → writer_text t ≡ clause_file P
unfolding writer_text writer_output_of
writer_lists t P a = ap writer_output_of (admitted_answer t P a) ∙ ap clause_file (decoded_kept P)

pub writer_refuses : (t : List ℕ) (r s : ℕ) → Answers t r s → writer_text t ≡ refused_text r s
unfolding writer_text writer_output_of
writer_refuses t r s a =
    ap (λ (v : ReadVerdict). writer_verdict_text v (clause_file (decoded (read_of t).program))) a.verdict_is ∙ ap₂ refused_text a.row_is a.spot_is
