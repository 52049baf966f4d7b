-- The writer's output (document 01, "Programs").
--   clause_file P          all lines of the clause file of P, joined
--   file_before P j        those before line j
--   writer_refusal_line v  the line of a refusal, nothing for an accepted text
--   writer_output_of r     the output for what the reader gave, r
--   writer_output t k      the output for the program text of k bytes, of which t is all or the front
--   writer_text t          the output for the program text t
--   Stands G c n           the output stands at place c, before a line or at the end, and n bytes of the clause file have been handed over
--   PartPut G c n b q l    where the output stands at c with n bytes, the part q put into the buffer b, which leaves l, brings it to the place after q
-- Assumes nothing.
use Rattle.std.specs.Prelude.{ℕ, suc, ◌+◌, ◌*◌, ◌≤◌, ◌<◌, ◌≡◌, List, [], length, take}
use Rattle.lists.specs.Lists.{joined}
use Rattle.meaning.specs.Program.{Program}
use Rattle.encoding.specs.Code.{Code, clause_total_of}
use Rattle.program.specs.Arrays.{decoded}
use Rattle.refusals.specs.Numbers.{text_number, text_spot}
use Rattle.reader.specs.Verdict.{read_of}
use Rattle.reader.specs.Counted.{counted_of}
use Rattle.fixed_lines.specs.Lines.{refused_text}
use Rattle.clause_places.specs.declared.Place.{Place}
use Rattle.clause_places.specs.Places.{place_at}
use Rattle.io.specs.Counts.{IsPrefixLen}
use Rattle.clause_runs.specs.declared.RunPart.{RunPart}
use Rattle.clause_runs.specs.Lines.{lines_of, code_lines, code_part, code_run_bytes}
use Rattle.reader.specs.Verdict.{ReadVerdict}
use Rattle.reader.specs.declared.ReadResult.{ReadResult}
use Rattle.std.specs.Prelude.{Err, Ok}

abbrev pub clause_file : Program → List ℕ
clause_file P = joined (lines_of P)

abbrev pub file_before : Program → ℕ → List ℕ
file_before P j = joined (take j (lines_of P))

abbrev pub writer_refusal_line : ReadVerdict → List ℕ
writer_refusal_line (Ok u) = []
writer_refusal_line (Err r) = refused_text (text_number r) (text_spot r)

abbrev pub writer_verdict_text : ReadVerdict → List ℕ → List ℕ
writer_verdict_text (Ok u) file = file
writer_verdict_text (Err r) file = writer_refusal_line (Err r)

unfoldable pub writer_output_of : ReadResult → List ℕ
writer_output_of r = writer_verdict_text r.verdict (clause_file (decoded r.program))

unfoldable pub writer_output : List ℕ → ℕ → List ℕ
writer_output t k = writer_output_of (counted_of t k)

unfoldable pub writer_text : List ℕ → List ℕ
writer_text t = writer_output_of (read_of t)

pub record Stands (G : Code) (c : Place) (n : ℕ) : Type 0 where
  pub placed : c ≡ place_at G c.number
  pub within : c.number ≤ suc (clause_total_of G)
  pub handed : n ≡ length (joined (take c.number (code_lines G)))
  -- a part has at most 65,536 bytes and at least one line
  pub bounded : n ≤ 65536 * c.number

pub record PartPut (G : Code) (c : Place) (n : ℕ) (b : List ℕ) (q : RunPart) (l : List ℕ) : Type 0 where
  -- the lines from place c on that fit the buffer, at its front
  pub part_is : q ≡ code_part G c.number (length b)
  pub bytes_are : l ≡ code_run_bytes G c.number b
  pub counts : IsPrefixLen q.bytes l
  -- there is at least one, and with their bytes the output stands after them
  pub onward : c.number < q.place.number
  pub stands : Stands G q.place (n + q.bytes)
