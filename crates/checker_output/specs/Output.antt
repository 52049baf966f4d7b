-- The checker's output (document 01, "Programs"; document 02, Q-3).
--   checker_refusal_line v          the line of a refusal, nothing for a model
--   checker_verdict_text n v bs ls  the lines of the verdict v, for n atoms and the values bs and levels ls that the check has left in its buffers: those of a
--                                  model, with the number of variables that were assumed; or the line of a refusal
--   result_text G x                the lines of the result x, for the code G and buffers of zeros, 9,890 and 126 of them
--   checked_text G u j             the lines for the code G and the answer of j bytes; of one that is not overlong, u is all
--   checker_output_of r u j        the lines for what the reader gave, r, and the answer of j bytes; of one that is not overlong, u is all
--   checker_output t k u j         the lines for the program text of k bytes, of which t is all or the front, and the answer likewise
--   checker_text t u               the lines for the program text t and the answer u
--   PrintsModel t u c              they are the line of c, unless c is 0, and the line of the true atoms of the answer's values, completed, ascending, with
--                                  their level numbers, in step; these atoms are a stable model of t's program
-- Assumes nothing.
use Rattle.std.specs.Prelude.{ℕ, ◌≡◌, List, [], ◌++◌, map, length, replicate}
use Rattle.lists.specs.Lists.{select}
use Rattle.meaning.specs.Program.{Program, Atoms}
use Rattle.meaning.specs.Stage.{Stable, level}
use Rattle.encoding.specs.Fill.{true_atoms}
use Rattle.encoding.specs.Code.{Code, code_of, variables_of}
use Rattle.reader.specs.Verdict.{read_of}
use Rattle.text.specs.Limits.{Admitted}
use Rattle.fixed_lines.specs.Lines.{refused_text}
use Rattle.reader.specs.Counted.{counted_of}
use Rattle.answer_form.specs.Pieces.{Spotted}
use Rattle.answer_offers.specs.Offered.{values_of}
use Rattle.call_results.specs.Results.{Result, assignment_after, levels_after, var_total, program_read}
use Rattle.refusals.specs.declared.CheckRefusal.{CheckRefusal}
use Rattle.refusals.specs.Numbers.{check_number, check_spot}
use Rattle.call_check_rows.specs.Check.{zeroes, check_verdict_of, check_result, call_result}
use Rattle.call_check_rows.specs.Rows.{Offers}
use Rattle.checker_model.specs.Model.{model_line, model_text, assumed_text}
use Rattle.reader.specs.declared.ReadResult.{ReadResult}
use Rattle.call_check_rows.specs.Verdict.{CheckVerdict}
use Rattle.std.specs.Prelude.{Err, Ok}

abbrev pub checker_refusal_line : CheckVerdict → List ℕ
checker_refusal_line (Ok x) = []
checker_refusal_line (Err r) = refused_text (check_number r) (check_spot r)

abbrev pub checker_verdict_text : ℕ → CheckVerdict → List ℕ → List ℕ → List ℕ
checker_verdict_text n (Ok x) bs ls = assumed_text x.assumed ++ model_text n bs ls
checker_verdict_text n (Err r) bs ls = refused_text (check_number r) (check_spot r)

abbrev pub result_text : Code → Result CheckRefusal → List ℕ
result_text G x =
    checker_verdict_text G.n (check_verdict_of G.n x) (assignment_after zeroes (variables_of G) x (replicate 9890 0)) (levels_after G.n x (replicate 126 0))

unfoldable pub checked_text : Code → List ℕ → ℕ → List ℕ
checked_text G u j = result_text G (check_result G u j 9890 126)

unfoldable pub checker_output_of : ReadResult → List ℕ → ℕ → List ℕ
checker_output_of r u j = result_text (code_of (program_read r)) (call_result r u j 9890 126)

unfoldable pub checker_output : List ℕ → ℕ → List ℕ → ℕ → List ℕ
checker_output t k u j = checker_output_of (counted_of t k) u j

unfoldable pub checker_text : List ℕ → List ℕ → List ℕ
checker_text t u = checker_output_of (read_of t) u (length u)

pub record PrintsModel (t u : List ℕ) (c : ℕ) : Type 0 where
  pub program : Program
  pub admitted : Admitted t program
  pub literals : List Spotted
  pub offers : Offers u literals
  pub model : Atoms
  pub its_atoms : model ≡ true_atoms program (values_of (var_total program) literals)
  pub stable : Stable program model
  pub lines_are : checker_text t u ≡ assumed_text c ++ model_line (select program.atoms model) (map (level program model) (select program.atoms model))
