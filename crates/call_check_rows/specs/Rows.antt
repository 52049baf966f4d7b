-- Rows 8, 10 to 14 and 16 of document 01's table ("Verdicts") beside the reader's, for a check of the answer u against the program text t with buffers of a
-- bytes for the assignment and l bytes for the levels. A row met has its place in document 01's order: the reader's ranks 0 to 2, then 3 and 4 for the two
-- buffers of row 8, 5 for row 10, 6 for 11, 7 for 12, 8 for 13 and 14, and 9 for 16. Row 15 does not occur (document 02, Q-3).
--   Offers u xs                 u is the text of a proper answer with the status SATISFIABLE, whose literals with the indices of their first bytes are xs
--   values_in P xs              the values that the literals xs give the variables of P; a variable that none names is false
--   assumed_number P xs         how many variables of P no literal of xs names
--   true_number P xs, levels_of P xs  how many atoms are true under them, and the counter of each atom
--   clause_of P j, clause_number P  clause j of P; C
--   CheckRow t u a l p r s      row r is met, with spot s, at place p
--   FirstCheckRow t u a l r s   of the rows met it is the first in the order
--   CheckAnswers t u a l r s    the check refuses with row r and spot s
--   Accepts t u a l             the check accepts, with three numbers
--   EachTrue P xs               each clause of P is true under the values of the literals xs
--   Shows t u a l P xs          t is admitted, with program P; u offers the literals xs, which name no variable above V and none twice, and
--                               whose values make each clause true; there is room
--   ModelWritten t u b l P xs k h c   the values of the V variables as bytes, the levels of the n atoms, and the three numbers k, h and c; after them the
--                               buffers stay
-- Assumes nothing.
use Rattle.std.specs.Prelude.{ℕ, pred, ◌≤◌, ◌<◌, ◌≡◌, false, cond, List, [], ◌++◌, length, get_or, drop}
use Rattle.std.proofs.Math.Bool.{So}
use Rattle.lists.specs.Lists.{tab, sum, highest}
use Rattle.meaning.specs.Program.{Program}
use Rattle.encoding.specs.Width.{width}
use Rattle.encoding.specs.Literal.{Literal, Clause, Assignment, value_of, clause_true}
use Rattle.encoding.specs.Fill.{counter}
use Rattle.encoding.specs.Clauses.{sizes, clauses}
use Rattle.reader_laws.specs.Row.{Row, rank}
use Rattle.text.specs.Limits.{max_text, Admitted}
use Rattle.answer_form.specs.Answer.{Comment, Line, Status, Answer, proper, answer_text, OfStatus, AnswerMalformed}
use Rattle.answer_form.specs.Pieces.{Spotted, spots_of}
use Rattle.answer_values.specs.Assign.{variable_at, spot_at, unnamed_count}
use Rattle.answer_values.specs.Rows.{AllFit}
use Rattle.answer_offers.specs.Offered.{value_bytes, values_of}
use Rattle.call_results.specs.Results.{var_total}
use Rattle.call_results.specs.Order.{First}
use Rattle.refusals.specs.declared.CheckRefusal.{CheckRefusal}
use Rattle.refusals.specs.Numbers.{check_number, check_spot}
use Rattle.call_check_rows.specs.Check.{check_answer, check_assignment, check_levels}
use Rattle.call_check_rows.specs.Verdict.{model_shown}
use Rattle.std.specs.Prelude.{Err}

pub record Offers (u : List ℕ) (xs : List Spotted) : Type 0 where
  pub before : List Comment
  pub lines : List Line
  pub last : List Literal
  pub after : List Comment
  pub is_proper : So (proper (Answer.model before lines last after))
  pub its_text : u ≡ answer_text (Answer.model before lines last after)
  pub literals_are : xs ≡ spots_of (Answer.model before lines last after)

abbrev pub values_in : Program → List Spotted → Assignment
values_in P xs = value_of (values_of (var_total P) xs)

-- how many variables are left out
abbrev pub assumed_number : Program → List Spotted → ℕ
assumed_number P xs = unnamed_count (var_total P) xs

-- how many atoms are true under them
abbrev pub true_number : Program → List Spotted → ℕ
true_number P xs = sum P.atoms (λ a. cond (values_in P xs a) 1 0)

-- the counter of each atom under them
abbrev pub levels_of : Program → List Spotted → ℕ → ℕ
levels_of P xs = counter (sizes P (width P.atoms)) (values_in P xs)

abbrev pub clause_of : Program → ℕ → Clause
clause_of P j = get_or (clauses P (width P.atoms)) (pred j) []

abbrev pub clause_number : Program → ℕ
clause_number P = length (clauses P (width P.atoms))

pub data CheckRow (t u : List ℕ) (a l : ℕ) : (place row spot : ℕ) → Type 0 where
  of_text : {r s : ℕ} → Row t r s → CheckRow t u a l (rank r) r s
  short_assignment : (P : Program) → Admitted t P → a < var_total P → CheckRow t u a l 3 8 (var_total P)
  short_levels : (P : Program) → Admitted t P → l < P.atoms → CheckRow t u a l 4 8 P.atoms
  overlong_answer : max_text < length u → CheckRow t u a l 5 10 (length u)
  malformed_answer : {s : ℕ} → AnswerMalformed u s → CheckRow t u a l 6 11 s
  no_model_offered : {x : Status} → OfStatus u x → CheckRow t u a l 7 12 0
  stray_variable : (P : Program) → Admitted t P → (xs : List Spotted) → Offers u xs → (i : ℕ) → i < length xs → var_total P < variable_at xs i
      → CheckRow t u a l 8 13 (spot_at xs i)
  repeated_variable : (P : Program) → Admitted t P → (xs : List Spotted) → Offers u xs → (i j : ℕ) → i < length xs → j < i → variable_at xs j ≡ variable_at xs i
      → CheckRow t u a l 8 14 (spot_at xs i)
  false_clause : (P : Program) → Admitted t P → (xs : List Spotted) → Offers u xs → (j : ℕ) → 0 < j → j ≤ clause_number P
      → clause_true (values_in P xs) (clause_of P j) ≡ false → CheckRow t u a l 9 16 j

abbrev pub FirstCheckRow : List ℕ → List ℕ → ℕ → ℕ → ℕ → ℕ → Type 0
FirstCheckRow t u a l r s = First (CheckRow t u a l) r s

pub record CheckAnswers (t u : List ℕ) (a l r s : ℕ) : Type 0 where
  pub refusal : CheckRefusal
  pub answer_is : check_answer t u a l ≡ Err refusal
  pub row_is : check_number refusal ≡ r
  pub spot_is : check_spot refusal ≡ s

-- ---- accepted answers

abbrev pub Accepts : List ℕ → List ℕ → ℕ → ℕ → Type 0
Accepts t u a l = (k : ℕ) × (h : ℕ) × (c : ℕ) × (check_answer t u a l ≡ model_shown k h c)

-- each clause is true under the values of the literals
abbrev pub EachTrue : Program → List Spotted → Type 0
EachTrue P xs = (j : ℕ) → 0 < j → j ≤ clause_number P → So (clause_true (values_in P xs) (clause_of P j))

pub record Shows (t u : List ℕ) (a l : ℕ) (P : Program) (xs : List Spotted) : Type 0 where
  pub admitted : Admitted t P
  pub offers : Offers u xs
  pub fit : AllFit (var_total P) xs
  pub each_true_lem : EachTrue P xs
  pub room : var_total P ≤ a
  pub levels_room : P.atoms ≤ l
  pub not_overlong : length u ≤ max_text

pub record ModelWritten (t u b l : List ℕ) (P : Program) (xs : List Spotted) (k h c : ℕ) : Type 0 where
  pub count_is : k ≡ true_number P xs
  pub highest_is : h ≡ highest P.atoms (levels_of P xs)
  pub assumed_is : c ≡ assumed_number P xs
  pub assignment_is : check_assignment t u b (length l) ≡ value_bytes (values_of (var_total P) xs) ++ drop (var_total P) b
  pub levels_are : check_levels t u (length b) l ≡ tab P.atoms (levels_of P xs) ++ drop P.atoms l
