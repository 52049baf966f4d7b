-- The contracts of the functions that are open to others. Each function meets the contract that stands at it in src/; `statement` is what the toolchain makes
-- of that contract, for any resources M of its logic. The other public functions are not restated: the gate proves each of them against its contract in src/.
--   contracts   the reader, the lines, the check, filling out, the numbers and spots of refusals, what the two programs read and print, the calls for
--               other languages
--   working     working material: what ties definitions that the code alone uses to those of specs/Promised.antt. No promise speaks of them.
-- What `files` reads and `writer_output` hands over goes through the C library, whose contracts are axioms of the kit (specs/Promised.antt).
use Prim.Native.Nat.{ℕ, zero, pred, ◌-◌, ◌≤◌, ◌<◌}
use mathlib.Core.Path.{◌≡◌, refl, ◌∙◌}
use mathlib.Core.Logic.{◌↔◌}
use mathlib.Core.Bool.{Bool}
use mathlib.Core.List.{List, []}
use lib.ListN.{length, get_or, take, replicate}
use Rattle.meaning.specs.Program.{Program, Atoms}
use Rattle.meaning.specs.Stage.{reduct}
use Rattle.encoding.specs.Width.{width}
use Rattle.encoding.specs.Clauses.{clauses, variables}
use Rattle.encoding.specs.Fill.{fill}
use Rattle.encoding.specs.Code.{whole, code_of, reduct_of, clauses_of, variables_of, code_fill}
use Rattle.theory.proofs.Whole.{reduct_whole, clauses_whole, variables_whole, fill_whole}
use Rattle.theory.proofs.Widths.{width_some}
use Rattle.text.specs.Limits.{Limits}
use Rattle.refusals.proofs as refusals
use Rattle.reader.proofs as reader
use Rattle.clause_walk.specs.Walk.{walked}
use Rattle.clause_walk.proofs.Walked.{walked_clauses}
use Rattle.clause_places.specs.Places.{place_at, clause_in}
use Rattle.clause_runs.specs.Lines.{clause_total}
use Rattle.truth_items.proofs as truth-items
use Rattle.truth_clauses.proofs as truth-clauses
use Rattle.call_lines.proofs as call-lines
use Rattle.call_lines_rows.proofs.File as File
use Rattle.answer_form.specs.Answer.{Status, AnswerMalformed, OfStatus}
use Rattle.answer_form.specs.Pieces.{OffersModel}
use Rattle.answer_reader.specs.declared.AnswerFault.TheVariants.{NoModel, Malformed as LeftForm}
use Rattle.std.specs.Prelude.{Ok, Err}
use Rattle.answer_reader.specs.Results.{form_of}
use Rattle.answer_reader.proofs.Promised as Form
use Rattle.answer_bytes.specs.Bytes.{Outcome, unset_count, completed, overwritten}
use Rattle.answer_values.specs.Assign.{literals_from, literal_at, variable_at, Unnamed, unnamed_count, assigned_of, assigned_bytes, literal_value}
use Rattle.answer_values.specs.Rows.{AllFit, StrayAt, RepeatedAt}
use Rattle.answer_values.proofs.Rows as Assigned
use Rattle.answer_offers.specs.Offered.{value_bytes, values_of, Completes}
use Rattle.answer_offers.proofs.Values.{values_complete, values_alone, values_unique}
use Rattle.call_lines_rows.specs.Lines.{answered}
use Rattle.call_lines_rows.proofs.Open.{answered_fixes}
use Rattle.call_results.specs.Results.{called}
use Rattle.call_results.proofs.Fixed.{called_fixes}
use Rattle.call_check_rows.specs.Check.{call_result}
use Rattle.call_check.proofs as call-check
use Rattle.call_fill.proofs as call-fill
use Rattle.files.proofs as files
use Rattle.writer_output.proofs as writer_output_lem
use Rattle.checker_output.proofs as checker_output_lem
use Rattle.exports.proofs as exports
use Rattle.reader.specs.declared.ReadResult.{ReadResult}

-- ---- the open calls

pub record Contracts (M : Type 1) : Type 2 where
  -- the reader: its answer to any bytes is `read_of`
  pub read : reader.read.Statement.statement M
  -- the same from the front of a text and its length: `counted_of`
  pub read_counted : reader.read_counted.Statement.statement M
  -- line j of any text's clause file: answer and buffer are `line_call`, that is `line_answer` and `line_bytes`
  pub line : call-lines.line.Statement.statement M
  -- a run of lines: `run_call`, that is `run_answer` and `run_bytes`
  pub run : call-lines.run.Statement.statement M
  -- the check of any answer against any text: `check_call`, that is `check_answer`, `check_assignment` and `check_levels`
  pub check : call-check.check.Statement.statement M
  -- the test of clause j of a program's table under the bytes of an assignment: `code_true`; that of all clauses of an item: `item_true`
  pub clause_true_lem : truth-clauses.clause_true.Statement.statement M
  pub item_holds : truth-items.item_holds.Statement.statement M
  -- filling out any set for any text: `fill_call`, that is `fill_answer`, `fill_assignment` and `fill_levels`
  pub fill_out : call-fill.fill_out.Statement.statement M
  -- the number and the spot of a refusal of a text, `text_number` and `text_spot`
  pub text_number_lem : refusals.TextRefusalRefusal.number.Statement.statement M
  pub text_spot_lem : refusals.TextRefusalRefusal.spot.Statement.statement M
  -- of a call that writes lines, `line_number` and `line_spot`
  pub line_number_lem : refusals.LineRefusalRefusal.number.Statement.statement M
  pub line_spot_lem : refusals.LineRefusalRefusal.spot.Statement.statement M
  -- of the check, `check_number` and `check_spot`
  pub check_number_lem : refusals.CheckRefusalRefusal.number.Statement.statement M
  pub check_spot_lem : refusals.CheckRefusalRefusal.spot.Statement.statement M
  -- of filling out, `fill_number` and `fill_spot`
  pub fill_number_lem : refusals.FillRefusalRefusal.number.Statement.statement M
  pub fill_spot_lem : refusals.FillRefusalRefusal.spot.Statement.statement M
  -- what the checker prints, at the front of a buffer: `checker_output`; the bytes after it stay
  pub put_output : checker_output_lem.put_output.Statement.statement M
  -- the writer hands its output over part after part, and returns how many bytes that is: the length of `writer_output`
  pub say_output : writer_output_lem.say_output.Statement.statement M
  -- what is counted of an input after one read more: `read_on`
  pub read_on_lem : files.read_on.Statement.statement M
  -- what is kept and counted of an open file, and of one by its name: by `read_on` for some reads, the last of which met the end
  pub read_open : files.read_open.Statement.statement M
  pub read_file : files.read_file.Statement.statement M
  -- the calls for other languages: their replies are `read_reply`, `line_reply`, `run_reply`, `check_reply` and `fill_reply`, and their buffers are those of the
  -- calls above
  pub qs_read : exports.qs_read.Statement.statement M
  pub qs_line : exports.qs_line.Statement.statement M
  pub qs_run : exports.qs_run.Statement.statement M
  pub qs_check : exports.qs_check.Statement.statement M
  pub qs_fill : exports.qs_fill.Statement.statement M

pub contracts : (M : Type 1) → Contracts M
contracts M =
    record {
      read = reader.read.Met.met;
      read_counted = reader.read_counted.Met.met;
      line = call-lines.line.Met.met;
      run = call-lines.run.Met.met;
      check = call-check.check.Met.met;
      clause_true_lem = truth-clauses.clause_true.Met.met;
      item_holds = truth-items.item_holds.Met.met;
      fill_out = call-fill.fill_out.Met.met;
      text_number_lem = refusals.TextRefusalRefusal.number.Met.met;
      text_spot_lem = refusals.TextRefusalRefusal.spot.Met.met;
      line_number_lem = refusals.LineRefusalRefusal.number.Met.met;
      line_spot_lem = refusals.LineRefusalRefusal.spot.Met.met;
      check_number_lem = refusals.CheckRefusalRefusal.number.Met.met;
      check_spot_lem = refusals.CheckRefusalRefusal.spot.Met.met;
      fill_number_lem = refusals.FillRefusalRefusal.number.Met.met;
      fill_spot_lem = refusals.FillRefusalRefusal.spot.Met.met;
      put_output = checker_output_lem.put_output.Met.met;
      say_output = writer_output_lem.say_output.Met.met;
      read_on_lem = files.read_on.Met.met;
      read_open = files.read_open.Met.met;
      read_file = files.read_file.Met.met;
      qs_read = exports.qs_read.Met.met;
      qs_line = exports.qs_line.Met.met;
      qs_run = exports.qs_run.Met.met;
      qs_check = exports.qs_check.Met.met;
      qs_fill = exports.qs_fill.Met.met;
    }

-- ---- working material

-- the definitions with open atoms and pairs inside components, over which the theory is proved, are document 01's where there is no open atom and every pair is
-- inside
pub record General (P : Program) (w : ℕ) : Type 0 where
  pub same_clauses : clauses_of (whole P w) ≡ clauses P w
  pub same_variables : variables_of (whole P w) ≡ variables P w
  pub same_reduct : (M : Atoms) → reduct_of (whole P w) M ≡ reduct P M
  pub same_fill : (M : Atoms) → code_fill (whole P w) M ≡ fill P w M

-- the form of an answer, as the check finds it
pub record AnswerForm (t : List ℕ) : Type 0 where
  -- malformed at s exactly if it is so
  pub malformed : (s : ℕ) → (form_of t ≡ Err (LeftForm s)) ↔ AnswerMalformed t s
  -- a model exactly if t prints a proper answer with the status SATISFIABLE, whose literals are read one by one from the end e of its status line on
  pub a_model : (e : ℕ) → (form_of t ≡ Ok e) ↔ OffersModel t e
  -- no model exactly if it prints one with another status
  pub no_model_lem : (form_of t ≡ Err NoModel) ↔ ((s : Status) × OfStatus t s)

-- the literals of an answer from position p on, assigned one after the other to n variables without values
pub record Assigning (t : List ℕ) (p n : ℕ) (b : List ℕ) : Type 0 where
  -- the outcome is stray at s exactly if the first literal that is above n or names a variable once more is above n, and its first byte is at s
  pub stray : (s : ℕ) → (assigned_of n (literals_from t p) (overwritten n 2 b) ≡ Outcome.stray s) ↔ StrayAt n (literals_from t p) s
  -- it is repeated at s exactly if that literal names a variable once more
  pub repeated : (s : ℕ) → (assigned_of n (literals_from t p) (overwritten n 2 b) ≡ Outcome.repeated s) ↔ RepeatedAt n (literals_from t p) s
  -- it is done exactly if each literal is of a variable from 1 to n and none is named twice
  pub done : (assigned_of n (literals_from t p) (overwritten n 2 b) ≡ Outcome.done) ↔ AllFit n (literals_from t p)
  -- then the byte of a variable that a literal names is 1 if the literal is positive, 0 if it is negative
  pub values : AllFit n (literals_from t p) → (k : ℕ) → k < length (literals_from t p)
      → get_or (assigned_bytes n (literals_from t p) (overwritten n 2 b)) (variable_at (literals_from t p) k - 1) 0 ≡ literal_value (literal_at (literals_from t p) k)
  -- and that of a variable that none names stays 2
  pub unnamed : (v : ℕ) → zero < v → v ≤ n → Unnamed (literals_from t p) v → get_or (assigned_bytes n (literals_from t p) (overwritten n 2 b)) (v - 1) 0 ≡ 2
  -- as many stay 2 as variables from 1 to n that no literal names
  pub counted : AllFit n (literals_from t p) → unset_count n (assigned_bytes n (literals_from t p) (overwritten n 2 b)) ≡ unnamed_count n (literals_from t p)

-- literals from position p on that give no variable twice and none above n
pub record Completing (t : List ℕ) (p n : ℕ) : Type 0 where
  -- their values, a variable that none names read as false, are a completed assignment, and the only one
  pub completes : Completes n (literals_from t p) (values_of n (literals_from t p))
  pub one_completion : (bs : List Bool) → Completes n (literals_from t p) bs → bs ≡ values_of n (literals_from t p)
  -- these are the bytes that the reader leaves, each 2 read as 0
  pub bytes : completed (assigned_bytes n (literals_from t p) (replicate n 2)) ≡ value_bytes (values_of n (literals_from t p))

pub record Working : Type 1 where
  -- the walk by which code yields the clauses, by group, item, block, clause and slot, gives the clause list
  pub walk : (P : Program) → walked (code_of P) ≡ clauses P (width P.atoms)
  -- code finds clause j at place j of the walk
  pub placed : (P : Program) → Limits P → (j : ℕ) → zero < j → j ≤ clause_total P
      → clause_in (code_of P) (place_at (code_of P) j).coordinates ≡ get_or (clauses P (width P.atoms)) (pred j) []
  -- the general definitions, which the theorem and the code are proved over, are document 01's
  pub general : (P : Program) (w : ℕ) → General P w
  -- an answer is read by its form, then literal by literal into a buffer of bytes, and completed
  pub answer_form : (t : List ℕ) → AnswerForm t
  pub assigning : (t : List ℕ) (p n : ℕ) (b : List ℕ) → Assigning t p n b
  pub completing : (t : List ℕ) (p n : ℕ) → AllFit n (literals_from t p) → Completing t p n
  -- the one equation of a call that lends buffers fixes its answer and every byte of each of them
  pub called_fixes : {A : Type 0} {v w : A} {b c l m : List ℕ} → called v b l ≡ called w c m → (v ≡ w) × (b ≡ c) × (l ≡ m)
  pub answered_fixes : {A : Type 0} {v w : A} {b c : List ℕ} → answered v b ≡ answered w c → (v ≡ w) × (b ≡ c)
  -- the first 65,537 bytes of an answer and its length give the result of the whole answer
  pub counted_answer : (x : ReadResult) (u : List ℕ) (a l : ℕ) → call_result x (take 65537 u) (length u) a l ≡ call_result x u (length u) a l

general : (P : Program) (w : ℕ) → General P w
general P w = record { same_clauses = clauses_whole P w; same_variables = variables_whole P w; same_reduct = reduct_whole P w; same_fill = fill_whole P w }

answer_form : (t : List ℕ) → AnswerForm t
answer_form t =
    record {
      malformed = λ s. (Form.form_malformed t s, Form.malformed_form t s);
      a_model = λ e. (Form.form_model t e, Form.model_form t e);
      no_model_lem = (Form.form_none t, λ w. Form.none_form t w.0 w.1);
    }

module _ (t : List ℕ) (p n : ℕ) where
  assigning : (b : List ℕ) → Assigning t p n b
  assigning b =
      let named = Assigned.literals_named t p in
      record {
        stray = λ s. (Assigned.assigned_stray n (literals_from t p) b named s, Assigned.stray_assigned n (literals_from t p) b named s);
        repeated = λ s. (Assigned.assigned_repeated n (literals_from t p) b named s, Assigned.repeated_assigned n (literals_from t p) b named s);
        done = (Assigned.assigned_done n (literals_from t p) b named, Assigned.done_assigned n (literals_from t p) b named);
        values = Assigned.named_value n (literals_from t p) b named;
        unnamed = Assigned.unnamed_value n (literals_from t p) b named;
        counted = λ f. Assigned.unset_unnamed n (literals_from t p) named f b;
      }

  completing : AllFit n (literals_from t p) → Completing t p n
  completing f =
      let named = Assigned.literals_named t p in
      record {
        completes = values_complete n (literals_from t p) named f;
        one_completion = values_unique n (literals_from t p) named f;
        bytes = values_alone n (literals_from t p) named f;
      }

pub working : Working
working =
    record {
      walk = λ P. walked_clauses (code_of P) (width_some P.atoms) (λ a. refl) ∙ clauses_whole P (width P.atoms);
      placed = File.placed;
      general = general;
      answer_form = answer_form;
      assigning = assigning;
      completing = completing;
      called_fixes = called_fixes;
      answered_fixes = answered_fixes;
      counted_answer = checker_output_lem.Shown.answer_whole;
    }
