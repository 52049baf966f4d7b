-- What is promised: statements alone, with a plain sentence above each. The last record, `Promised`, lists them all, and its one term, `proved` in
-- proofs/Proved.antt, proves them.
--   1  Meaning: least models, stable models and level numbers (document 01, "Meaning"; document 001)
--   2  Encoding: width, variables and clauses (document 01, "Variables" and "Clauses, in order")
--   3  Demand 3 for assignments: stable models and satisfying assignments correspond, one to one
--   4  Demand 1 for program texts: what the reader answers to any bytes (document 01, "Program text" and rows 1 to 7)
--   5  The clause file: its lines, what the line call and the call for a run of lines answer and write (rows 8 and 9), and what the writer hands over
--   6  Solver answers: the form, where a text leaves it, and the literals (document 01, "Solver answer")
--   7  The check: what it answers and writes (rows 8, 10 to 14 and 16), and what the checker prints
--   8  Filling out: what it answers and writes (rows 8, 17 and 18)
--   9  Demand 3, over texts, answers and bytes: stable models, accepted assignments and filled-out sets correspond
--   10 The requests of document 02 (Q-2: literals tested where they arise; Q-3: solvers that leave variables out; Q-6: levels without gaps)
--   11 The calls for other languages: what the number of a reply says
-- What a statement names is found in the specs/ folders of the crates that the `use` lines give. Of the code it names only the calls' own definitions, as
-- `read_of`, `line_answer`, `check_answer` and `fill_answer` with the bytes that they leave; that the code meets them is said in proofs/Contracts.antt.
-- Examples are in proofs/Examples.antt.
-- Letters: P is a program, n the number of its atoms, w a width, V and C the numbers of variables and clauses, M a set of atoms, a an atom, t a program text,
-- u an answer, xs literals with the indices of their first bytes, s a spot or a set as bytes, b and l lent buffers, j a line's number, r a row of document
-- 01's table.
-- Nothing is assumed. The hypotheses of sections 1 to 3 and of `of_model` are met by every well-formed program, those of `clause_file_lem`, `writer_parts`,
-- `clause_tests` and section 9 by the program of every accepted text; the other statements hold for any bytes and for the literals of any answer. Only the
-- two programs read files and write to an output, through the C library's functions (open, read, write, close), whose contracts are axioms of the kit. What a
-- file holds, and what becomes of the bytes that are handed over, is in no statement: those about the programs are about the bytes that they make of what they
-- have read, `writer_text` and `checker_text`.
use Rattle.std.specs.Prelude.{ℕ, zero, suc, pred, ◌+◌, ◌-◌, ◌^◌, ◌%◌, ◌≤◌, ◌<◌, ◌≡◌, ◌↔◌, ◌⊎◌, Bool, true, false, not, cond}
use Rattle.std.specs.Prelude.{List, [], ◌∷◌, ◌++◌, eqb, ltb, length, get_or, take, drop, replicate}
use Rattle.std.proofs.Math.Bool.{So}
use Rattle.std.specs.Int.Count.{count_leading_zeros}
use Rattle.lists.specs.Lists.{all, tab, joined, sum, highest}
use Rattle.meaning.specs.Program.{Program, Atoms, rule_at, is_atom, well_formed, body_true}
use Rattle.meaning.specs.Stage.{Definite, reduct, InUnion, Stable, FirstStage, least_model, level, differ}
use Rattle.meaning.specs.Numbering.{IsModel, LevelNumbering}
use Rattle.meaning.specs.Gaps.{WithoutGaps}
use Rattle.encoding.specs.Width.{IsWidth, width, table_width}
use Rattle.encoding.specs.Literal.{Assignment, value_of, clause_true, all_true, within, occurs}
use Rattle.encoding.specs.Counter.{value, chain, successor}
use Rattle.encoding.specs.Variables.{body_var, founds_var, next_var}
use Rattle.encoding.specs.Clauses.{sizes, pairs, pair_at, pair_count, pairs_before, group1, group2, group3, group4, group5, group6, group7}
use Rattle.encoding.specs.Clauses.{clauses, variables, clause_count}
use Rattle.encoding.specs.Code.{code_of}
use Rattle.encoding.specs.Fill.{fill, true_atoms, counter}
use Rattle.theory.specs.GroupMeaning.{SomeRule, ComparesPair, FoundsRule}
use Rattle.text.specs.Text.{text_of, HasForm, Viable, Malformed}
use Rattle.text.specs.Limits.{Limits, Admitted}
use Rattle.program.specs.Arrays.{decoded, kept, empty_program}
use Rattle.refusals.specs.declared.TextRefusal.{TextRefusal}
use Rattle.refusals.specs.declared.LineRefusal.{LineRefusal}
use Rattle.refusals.specs.declared.FillRefusal.{FillRefusal}
use Rattle.reader.specs.Verdict.{read_of}
use Rattle.reader.specs.Counted.{counted_of}
use Rattle.reader_laws.specs.Breach.{Breach}
use Rattle.reader_laws.specs.FirstBytes.{BreachAt}
use Rattle.reader_laws.specs.Row.{Row, FirstRow, Answers}
use Rattle.digits.specs.Bytes.{line_text}
use Rattle.fixed_lines.specs.Lines.{header_text, refused_text}
use Rattle.clause_walk.specs.Walk.{group_count, item_count}
use Rattle.truth_literals.specs.Items.{item_true}
use Rattle.truth_clauses.specs.Truth.{value_in, InItem, code_true}
use Rattle.clause_runs.specs.Lines.{clause_total, lines_of, line_of, fitting, run_in}
use Rattle.call_lines_rows.specs.Lines.{line_answer, line_bytes, run_answer, run_bytes}
use Rattle.call_lines_rows.specs.Parts.{parts_of}
use Rattle.call_lines_rows.specs.Rows.{LineRow, FirstLineRow, LineAnswers, RunWritten}
use Rattle.answer_form.specs.Answer.{Answer, Status, proper, answer_text, HasAnswerForm, OfStatus, AnswerViable, AnswerMalformed}
use Rattle.answer_form.specs.Pieces.{Spotted, LiteralAt}
use Rattle.answer_values.specs.Rows.{AllFit}
use Rattle.answer_offers.specs.Offered.{values_of, Completes, offered_text}
use Rattle.call_results.specs.Results.{level_byte, var_total}
use Rattle.call_check_rows.specs.Check.{check_answer, check_assignment, check_levels}
use Rattle.call_check_rows.specs.Rows.{Offers, clause_of, CheckRow, FirstCheckRow, CheckAnswers, Accepts, Shows, ModelWritten}
use Rattle.level_lists.specs.Bytes.{set_in}
use Rattle.call_fill_rows.specs.FillOut.{fill_answer, fill_assignment, fill_levels}
use Rattle.call_fill_rows.specs.Rows.{FillRow, FirstFillRow, FillAnswers, FillAccepts, Fills}
use Rattle.correspondence.specs.Accepted.{AcceptedAssignment, Room, CheckWrites, set_bytes, SetOf}
use Rattle.files.specs.Count.{most_counted, counted, first_read, read_all, bytes_in}
use Rattle.writer_output.specs.Output.{clause_file, file_before, writer_output, writer_text}
use Rattle.checker_output.specs.Output.{checker_output, checker_text, PrintsModel}
use Rattle.exports.specs.Replies.{read_reply, line_reply, run_reply, check_reply, fill_reply}
use Rattle.std.specs.Prelude.{Err, Ok}
use Rattle.call_lines_rows.specs.Verdicts.{written_run}
use Rattle.call_check_rows.specs.Verdict.{model_shown}
use Rattle.call_fill_rows.specs.Verdict.{filled_out}

-- ---- 1 Meaning

pub record LeastModel (D : List Definite) : Type 1 where
  -- the union of the stages is a model of the rules
  pub model : IsModel D (InUnion D)
  -- and is contained in every model of them
  pub least : (X : ℕ → Type 0) → IsModel D X → (a : ℕ) → InUnion D a → X a

pub record Stability (P : Program) (M : Atoms) : Type 0 where
  -- n stages suffice: an atom is in the computed least model exactly if it is in the union of the stages
  pub computed_in_n : (a : ℕ) → So (least_model P M a) ↔ InUnion (reduct P M) a
  -- a set of atoms is stable exactly if no atom tells it from the least model
  pub decided : ((a : ℕ) → So (M a) → So (is_atom P.atoms a)) → (differ P M ≡ 0) ↔ Stable P M
  -- where one does, `differ`, the spot of verdict 18, is the smallest such atom
  pub an_atom : differ P M ≤ P.atoms
  pub differs : zero < differ P M → M (differ P M) ≡ least_model P M (differ P M) → ⊥
  pub agrees_before : (a : ℕ) → suc a < differ P M → M (suc a) ≡ least_model P M (suc a)
  -- a stable model holds atoms alone
  pub atoms_alone : Stable P M → (a : ℕ) → So (M a) → So (is_atom P.atoms a)
  -- an atom that heads no rule is false
  pub headless : Stable P M → (a : ℕ) → So (all (λ r. not (eqb r.head a)) P.rules) → M a ≡ false

pub record LevelNumbers (P : Program) (M : Atoms) : Type 0 where
  -- the level number of an atom of M is the first stage that holds it, document 001's #a
  pub first_stage : (a : ℕ) → So (M a) → FirstStage (reduct P M) a (level P M a)
  -- no other stage is the first
  pub only_first : (a i : ℕ) → So (M a) → FirstStage (reduct P M) a i → i ≡ level P M a
  -- any other number has level 0
  pub others : (a : ℕ) → M a ≡ false → level P M a ≡ 0
  -- a level is at most n
  pub at_most : (a : ℕ) → level P M a ≤ P.atoms
  -- the level numbers are a level numbering in document 001's sense
  pub numbering : LevelNumbering P M (level P M)
  -- and the only one
  pub only : (ℓ : ℕ → ℕ) → LevelNumbering P M ℓ → (a : ℕ) → So (M a) → ℓ a ≡ level P M a

-- `highest`, of the levels of the atoms 1 to n, as the check and filling out return it
pub record HighestLevel (n : ℕ) (ℓ : ℕ → ℕ) : Type 0 where
  -- no atom has a higher level
  pub no_higher : (a : ℕ) → So (is_atom n a) → ℓ a ≤ highest n ℓ
  -- and if it is not 0, it is the level of some atom
  pub reached : zero < highest n ℓ → (a : ℕ) × So (is_atom n a) × (ℓ a ≡ highest n ℓ)

-- ---- 2 Encoding

pub record Width (n : ℕ) : Type 0 where
  -- the width is the smallest w with 2^w at least n + 2, and no other number is
  pub smallest : IsWidth n (width n)
  pub no_other : (w : ℕ) → IsWidth n w → w ≡ width n
  -- for up to 126 atoms it is the table's
  pub by_table : n ≤ 126 → width n ≡ table_width n
  -- and it is what the leading zeros of n + 1 leave of b bits
  pub by_zeros : (b : ℕ) → n + 1 < 2 ^ b → width n ≡ b - count_leading_zeros b (n + 1)

pub record ClauseList (P : Program) (w : ℕ) : Type 0 where
  -- document 01's formula is the number of clauses
  pub counted : length (clauses P w) ≡ clause_count P w
  -- no clause names a variable that is 0 or above V
  pub no_other_variable : So (within (variables P w) (clauses P w))
  -- and every variable from 1 to V occurs
  pub every_variable : (v : ℕ) → zero < v → v ≤ variables P w → So (occurs v (clauses P w))

-- what each group of clauses says under an assignment A, with counters of w bits
pub record GroupMeanings (P : Program) (w : ℕ) (A : Assignment) : Type 0 where
  -- 1: t(r) is the truth of the body of rule r
  pub bodies : So (all_true A (group1 P w))
      ↔ ((r : ℕ) → zero < r → r ≤ length P.rules → A (body_var (sizes P w) r) ≡ body_true A (rule_at P.rules r))
  -- 2: an atom is true exactly if t(r) is for one of its rules r
  pub supported : So (all_true A (group2 P w)) ↔ ((a : ℕ) → So (is_atom P.atoms a) → So (A a) ↔ SomeRule P (λ r. A (body_var (sizes P w) r)) a)
  -- 3: a false atom has counter 0
  pub zeros : So (all_true A (group3 P w)) ↔ ((a : ℕ) → So (is_atom P.atoms a) → A a ≡ false → counter (sizes P w) A a ≡ 0)
  -- 4: the next of an atom is its counter plus 1, modulo 2^w
  pub nexts : So (all_true A (group4 P w))
      ↔ ((a : ℕ) → So (is_atom P.atoms a) → value (λ i. A (next_var (sizes P w) a i)) w ≡ (counter (sizes P w) A a + 1) % 2 ^ w)
  -- 5: p(k,i) and q(k,i) compare the lowest i bits of the level of the body atom, and of its next, with those of the level of the head
  pub compared : So (all_true A (group5 P w)) ↔ ((k : ℕ) → zero < k → k ≤ pair_count P → (i : ℕ) → zero < i → i ≤ w → ComparesPair P w A k i)
  -- 6: s(r) is true exactly if t(r) is and each p(k,w); with t(r) true the head's counter is 1 if B is empty, else some q(k,w) is false
  pub founds : zero < w → So (all_true A (group6 P w)) ↔ ((r : ℕ) → zero < r → r ≤ length P.rules → FoundsRule P w A r)
  -- 7: for a true atom s(r) is true for one of its rules r
  pub founded : So (all_true A (group7 P w)) ↔ ((a : ℕ) → So (is_atom P.atoms a) → So (A a) → SomeRule P (λ r. A (founds_var (sizes P w) r)) a)
  -- the clause list is these groups, one after the other
  pub in_order : clauses P w ≡ joined (group1 P w ∷ group2 P w ∷ group3 P w ∷ group4 P w ∷ group5 P w ∷ group6 P w ∷ group7 P w ∷ [])

-- the pairs, in text order
pub record PairList (P : Program) : Type 0 where
  -- those of rule r follow those of the rules before it, and are its positive body atoms, each with its head
  pub of_rule : (r : ℕ) → zero < r → r ≤ length P.rules → (j : ℕ) → j < length (rule_at P.rules r).positive
      → pair_at (pairs P) (pairs_before P r + suc j) ≡ record { body = get_or (rule_at P.rules r).positive j 0; head = (rule_at P.rules r).head }
  -- there are K, as many as positive body atoms
  pub counted : pair_count P ≡ sum (length P.rules) (λ r. length (rule_at P.rules r).positive)

-- ---- 3 Demand 3, for assignments: lists of V values

pub record Demand3 (P : Program) (w : ℕ) : Type 0 where
  -- a list of V values makes every clause true exactly if its true atoms are a stable model and it is the filled-out list of that model
  pub exactly : (bs : List Bool) → length bs ≡ variables P w
      → So (all_true (value_of bs) (clauses P w)) ↔ (Stable P (true_atoms P bs) × (bs ≡ fill P w (true_atoms P bs)))
  -- then the counter of each atom is its level number, 0 for a false atom
  pub counters : (bs : List Bool) → So (all_true (value_of bs) (clauses P w))
      → (a : ℕ) → So (is_atom P.atoms a) → counter (sizes P w) (value_of bs) a ≡ level P (true_atoms P bs) a
  -- every stable model has its list: the filled-out one has V values, makes every clause true, and its true atoms are the model
  pub filled : (M : Atoms) → Stable P M
      → (length (fill P w M) ≡ variables P w) × So (all_true (value_of (fill P w M)) (clauses P w)) × (true_atoms P (fill P w M) ≡ M)
  -- two lists that make every clause true and have the same true atoms are equal
  pub one_each : (bs cs : List Bool) → length bs ≡ variables P w → length cs ≡ variables P w
      → So (all_true (value_of bs) (clauses P w)) → So (all_true (value_of cs) (clauses P w)) → true_atoms P bs ≡ true_atoms P cs → bs ≡ cs

-- ---- 4 Demand 1, for program texts: the bytes t are any

pub record ProgramText (t : List ℕ) : Type 0 where
  -- a text has the form, `HasForm`, if it is what `text_of` prints for some number of atoms and some rules over arbitrary numbers; no two programs have
  -- one text
  pub one_program : (P Q : Program) → t ≡ text_of P → t ≡ text_of Q → P ≡ Q
  -- a text that does not have the form is malformed at one spot, and a text of the form at none
  pub malformed_somewhere : (HasForm t → ⊥) → (s : ℕ) × Malformed t s
  pub one_spot : (s u : ℕ) → Malformed t s → Malformed t u → s ≡ u
  pub form_at_none : HasForm t → (s : ℕ) → Malformed t s → ⊥
  -- an ending is a list of bytes: where some numbers end a text to its form, some bytes do
  pub byte_ending : (u : List ℕ) → HasForm (t ++ u) → Viable t
  -- the reader answers row k with spot s exactly if k is the first row met in document 01's order, and s its spot
  pub refused : (k s : ℕ) → Answers t k s ↔ FirstRow t k s
  -- no two rows or spots are first
  pub one_row : (k s l u : ℕ) → FirstRow t k s → FirstRow t l u → (k ≡ l) × (s ≡ u)
  -- when 2 is answered with spot s, some ending of the first s bytes gives the form
  pub viable_before : (s : ℕ) → Answers t 2 s → Viable (take s t)
  -- and if s is below the length, no ending of the first s + 1 bytes does
  pub dead_after : (s : ℕ) → Answers t 2 s → s < length t → Viable (take (s + 1) t) → ⊥
  -- what is answered to a short text of the form is a breach of rows 3 to 7, with the smallest spot and, on a tie, the smaller number
  pub smallest_breach : (P : Program) → length t ≤ 65536 → t ≡ text_of P → (k s : ℕ) → Answers t k s
      → Breach P k s × ((l u : ℕ) → Breach P l u → (s < u) ⊎ ((s ≡ u) × (k ≤ l)))
  -- and what the row names stands at that spot in the text: the number, or rule 501, from its first byte on
  pub breach_at : (P : Program) → t ≡ text_of P → (k s : ℕ) → Breach P k s → BreachAt P k s
  -- the reader accepts exactly if no row is met
  pub accepted : ((read_of t).verdict ≡ Ok tt) ↔ ((k s : ℕ) → Row t k s → ⊥)
  -- and exactly if the text is at most 65,536 bytes long, of the form and within the limits
  pub admitted : ((read_of t).verdict ≡ Ok tt) ↔ ((P : Program) × Admitted t P)
  -- then it keeps the printed program: its atoms, rules, lists and order
  pub kept_whole : (P : Program) → Admitted t P → (read_of t).program ≡ kept P
  -- and the arrays hold that program
  pub decoded_whole : (P : Program) → Admitted t P → decoded (read_of t).program ≡ P
  -- of a refused text it keeps nothing
  pub kept_nothing : (r : TextRefusal) → (read_of t).verdict ≡ Err r → (read_of t).program ≡ empty_program

-- ---- 5 The clause file: the bytes t are any, j is any number, k any place and b any buffer

pub record ClauseFile (P : Program) : Type 0 where
  -- line 0 is "p cnf V C"
  pub header : line_of P 0 ≡ header_text (variables P (width P.atoms)) (clause_total P)
  -- line j, from 1 to C, is the print of clause j: each literal followed by one space, then 0 and byte 10
  pub clause_line : (j : ℕ) → zero < j → j ≤ clause_total P → line_of P j ≡ line_text (get_or (clauses P (width P.atoms)) (pred j) [])
  -- there are no other lines
  pub all_lines : lines_of P ≡ tab (suc (clause_total P)) (λ i. line_of P (pred i))
  -- V and C are document 01's: C is the number of clauses, and its formula
  pub variable_total : var_total P ≡ variables P (width P.atoms)
  pub clause_total_lem : clause_total P ≡ length (clauses P (width P.atoms))
  pub clause_formula : clause_total P ≡ clause_count P (width P.atoms)
  -- at most 9,890 variables and 53,690 clauses, and no line passes 3,008 bytes
  pub few_variables : variables P (width P.atoms) ≤ 9890
  pub few_clauses : clause_total P ≤ 53690
  pub short_lines : (j : ℕ) → j ≤ clause_total P → length (line_of P j) ≤ 3008

pub record LineCall (t : List ℕ) (j k : ℕ) (b : List ℕ) : Type 0 where
  -- the call answers row r with spot s exactly if r is the first row met, in the order: the reader's, then 9, then 8
  pub refused : (r s : ℕ) → LineAnswers t j k (length b) r s ↔ FirstLineRow t j k (length b) r s
  -- no two rows or spots are first
  pub one_row : (r s l u : ℕ) → FirstLineRow t j k (length b) r s → FirstLineRow t j k (length b) l u → (r ≡ l) × (s ≡ u)
  -- it accepts exactly if no row is met
  pub accepted : ((x : ℕ) × (line_answer t j k (length b) ≡ Ok x)) ↔ ((r s : ℕ) → LineRow t j k (length b) r s → ⊥)
  -- then it returns the length of line j, which it has written from place k on; the other bytes stay
  pub written : (x : ℕ) → line_answer t j k (length b) ≡ Ok x → (P : Program) → Admitted t P
      → (x ≡ length (line_of P j)) × (line_bytes t j k b ≡ take k b ++ (line_of P j ++ drop (k + x) b))
  -- refused, it writes nothing
  pub stays : (r : LineRefusal) → line_answer t j k (length b) ≡ Err r → line_bytes t j k b ≡ b

pub record RunCall (t : List ℕ) (j : ℕ) (b : List ℕ) : Type 0 where
  -- a run is refused exactly as its first line is at place 0
  pub refused : (r : LineRefusal) → (run_answer t j (length b) ≡ Err r) ↔ (line_answer t j 0 (length b) ≡ Err r)
  -- then it writes nothing
  pub stays : (r : LineRefusal) → run_answer t j (length b) ≡ Err r → run_bytes t j b ≡ b
  -- accepted, it writes m lines, those that the line call writes for j, j + 1, .., one after the other, and as many as fit; the other bytes stay
  pub written : (m x : ℕ) → run_answer t j (length b) ≡ written_run m x → (P : Program) → Admitted t P → RunWritten P j b m x (run_bytes t j b)

-- `writer_text t` is all that the writer program has to hand to its output for the program text t. Of the code three things are proved: what is put into its
-- buffer is each time the next part (`WriterParts`) or the refusal's line, the loop ends with the last part, and the bytes that it counts as handed over are
-- as many as `writer_text t` has (proofs/Contracts.antt, `say_output`). That it hands over each part that it counts is no statement: it is read off the loop.
pub record WriterOutput (t : List ℕ) : Type 0 where
  -- where the reader refuses with row r and spot s, "(refused r s)"
  pub refused : (r s : ℕ) → Answers t r s → writer_text t ≡ refused_text r s
  -- where it accepts, the whole clause file: all lines of its program, from line 0 on
  pub written : (P : Program) → Admitted t P → writer_text t ≡ clause_file P
  -- the first 65,537 bytes of the text and its length give the same
  pub front : writer_output (take 65537 t) (length t) ≡ writer_text t

-- the parts in which it hands over a clause file, each as many whole lines as fit 65,536 bytes; `file_before P j` are the lines before line j, joined
pub record WriterParts (P : Program) : Type 0 where
  -- the parts, each from where the last one ended, joined, are the clause file; one for each line is enough
  pub all_parts : joined (parts_of 65536 (suc (clause_total P)) (lines_of P)) ≡ clause_file P
  -- at first nothing has been handed over
  pub at_first : file_before P 0 ≡ []
  -- where the lines before line j have been, the part of the lines from j on that fit is next, and then the lines before the one after them have been
  pub next_part : (j : ℕ) → file_before P j ++ joined (run_in P j 65536) ≡ file_before P (j + fitting 65536 (drop j (lines_of P)))
  -- a part has at least one line
  pub some_line : (j : ℕ) → j ≤ clause_total P → zero < fitting 65536 (drop j (lines_of P))
  -- past line C all of the clause file has been handed over
  pub at_last : (j : ℕ) → clause_total P < j → file_before P j ≡ clause_file P

-- ---- 6 Solver answers: the bytes u are any

pub record AnswerText (u : List ℕ) : Type 0 where
  -- a text has the form, `HasAnswerForm`, if it is what `answer_text` prints for some proper answer; no two proper answers have one text
  pub one_answer : (a b : Answer) → So (proper a) → So (proper b) → u ≡ answer_text a → u ≡ answer_text b → a ≡ b
  -- a text that does not have the form is malformed at one spot, and a text of the form at none
  pub malformed_somewhere : (HasAnswerForm u → ⊥) → (s : ℕ) × AnswerMalformed u s
  pub one_spot : (s v : ℕ) → AnswerMalformed u s → AnswerMalformed u v → s ≡ v
  pub form_at_none : HasAnswerForm u → (s : ℕ) → AnswerMalformed u s → ⊥
  -- an ending is a list of bytes: where some numbers end a text to its form, some bytes do
  pub byte_ending : (v : List ℕ) → HasAnswerForm (u ++ v) → AnswerViable u
  -- a text of the form has the status SATISFIABLE and offers literals, or has another status
  pub of_form : HasAnswerForm u → ((xs : List Spotted) × Offers u xs) ⊎ ((x : Status) × OfStatus u x)
  -- and never both
  pub one_status : (xs : List Spotted) (x : Status) → Offers u xs → OfStatus u x → ⊥
  -- it offers one list of literals alone
  pub one_list : (xs ys : List Spotted) → Offers u xs → Offers u ys → xs ≡ ys
  -- and has each of them at its index, from its first byte on
  pub literals_at_lem : (xs : List Spotted) → Offers u xs → (d : Spotted) (j : ℕ) → j < length xs → LiteralAt u (get_or xs j d)

-- ---- 7 The check: the program text t, the answer u, the buffers b for the assignment and l for the levels are any

pub record CheckCall (t u b l : List ℕ) : Type 0 where
  -- the call answers row r with spot s exactly if r is the first row met, in the order: the reader's, 8 for the assignment, 8 for the levels, 10, 11, 12,
  -- the smaller spot of 13 and 14, 16
  pub refused : (r s : ℕ) → CheckAnswers t u (length b) (length l) r s ↔ FirstCheckRow t u (length b) (length l) r s
  -- no two rows or spots are first
  pub one_row : (r s q v : ℕ) → FirstCheckRow t u (length b) (length l) r s → FirstCheckRow t u (length b) (length l) q v → (r ≡ q) × (s ≡ v)
  -- it accepts exactly if no row is met
  pub accepted : Accepts t u (length b) (length l) ↔ ((p r s : ℕ) → CheckRow t u (length b) (length l) p r s → ⊥)
  -- then the text is admitted, the answer names no variable above V and none twice, its values, completed, make every clause true, there is room; it returns
  -- how many atoms are true, the highest level and how many variables no literal names, and writes the values and the levels; the bytes after them stay
  pub written : (k h c : ℕ) → check_answer t u (length b) (length l) ≡ model_shown k h c
      → (P : Program) × (xs : List Spotted) × Shows t u (length b) (length l) P xs × ModelWritten t u b l P xs k h c
  -- refusals 13, 14 and 16 zero the assignment's first V bytes; row 15 does not occur (section 10, `LeftOut.never_15`)
  pub zeroed : (r s : ℕ) → CheckAnswers t u (length b) (length l) r s → 13 ≤ r
      → (P : Program) × Admitted t P × (check_assignment t u b (length l) ≡ replicate (var_total P) 0 ++ drop (var_total P) b)
  -- the others leave it, and each leaves the levels
  pub stays : (r s : ℕ) → CheckAnswers t u (length b) (length l) r s → r < 13 → check_assignment t u b (length l) ≡ b
  pub levels_stay : (r s : ℕ) → CheckAnswers t u (length b) (length l) r s → check_levels t u (length b) l ≡ l

-- all that the checker program prints, for the program text t and the answer u
pub record CheckerOutput (t u : List ℕ) : Type 0 where
  -- where the check refuses with row r and spot s, "(refused r s)"
  pub refused : (r s : ℕ) → CheckAnswers t u 9890 126 r s → checker_text t u ≡ refused_text r s
  -- where it accepts, "(assumed c)" on a line unless c is 0, then "(model (atoms) (levels))" with the true atoms of the answer, ascending, which are a stable
  -- model, and their level numbers
  pub shown : (k h c : ℕ) → check_answer t u 9890 126 ≡ model_shown k h c → PrintsModel t u c
  -- the first 65,537 bytes of each and its length give the same
  pub front : checker_output (take 65537 t) (length t) (take 65537 u) (length u) ≡ checker_text t u

-- ---- 8 Filling out: the program text t, the set s, the buffers b for the assignment and l for the levels are any

pub record FillCall (t s b l : List ℕ) : Type 0 where
  -- the call answers row r with spot u exactly if r is the first row met, in the order: the reader's, 8 for the assignment, 8 for the levels, 17, 18
  pub refused : (r u : ℕ) → FillAnswers t s (length b) (length l) r u ↔ FirstFillRow t s (length b) (length l) r u
  -- no two rows or spots are first
  pub one_row : (r u q v : ℕ) → FirstFillRow t s (length b) (length l) r u → FirstFillRow t s (length b) (length l) q v → (r ≡ q) × (u ≡ v)
  -- it accepts exactly if no row is met
  pub accepted : FillAccepts t s (length b) (length l) ↔ ((k r u : ℕ) → FillRow t s (length b) (length l) k r u → ⊥)
  -- then the text is admitted, the set has n bytes, each 0 or 1, and is a stable model; it returns how many atoms are true and the highest of their level
  -- numbers, and writes the filled-out list and the level numbers; the bytes after them stay
  pub written : (k h : ℕ) → fill_answer t s (length b) (length l) ≡ filled_out k h → (P : Program) × Fills t s b l k h P
  -- refused, it writes nothing
  pub stays : (r : FillRefusal) → fill_answer t s (length b) (length l) ≡ Err r
      → (fill_assignment t s b (length l) ≡ b) × (fill_levels t s (length b) l ≡ l)
  -- with room, a set of n bytes, each 0 or 1, is accepted exactly if it is a stable model: the least model of its own reduct
  pub exactly : (P : Program) → Admitted t P → Room P b l → length s ≡ P.atoms → ((i : ℕ) → i < length s → get_or s i 0 ≤ 1)
      → FillAccepts t s (length b) (length l) ↔ Stable P (set_in P.atoms s)

-- ---- 9 Demand 3, over texts, answers and bytes: t is any text that document 01 admits, P its program

pub record TextDemand3 (t : List ℕ) (P : Program) : Type 0 where
  -- an answer of at most 65,536 bytes, of the form, SATISFIABLE, whose literals give no variable twice and none above V, is accepted exactly if for every j
  -- from 1 to C clause j is true under its assignment, completed (document 02, Q-3), whatever the buffers, if they have room
  pub checked : (u : List ℕ) (xs : List Spotted) → Offers u xs → length u ≤ 65536 → AllFit (var_total P) xs → (b l : List ℕ) → Room P b l
      → Accepts t u (length b) (length l)
      ↔ ((j : ℕ) → zero < j → j ≤ clause_total P → So (clause_true (value_of (values_of (var_total P) xs)) (clause_of P j)))
  -- and the bytes that the line call writes for j are the print of that clause
  pub printed : (j : ℕ) → zero < j → j ≤ clause_total P → (k : ℕ) (b : List ℕ) → length (line_text (clause_of P j)) ≤ length b - k
      → line_bytes t j k b ≡ take k b ++ (line_text (clause_of P j) ++ drop (k + length (line_text (clause_of P j))) b)
  -- the true atoms of every accepted assignment are a stable model
  pub sound : (bs : List Bool) → AcceptedAssignment t P bs → Stable P (true_atoms P bs)
  -- for each atom the counter, the level byte that the check writes and the level number are equal
  pub levels : (bs : List Bool) (X : AcceptedAssignment t P bs) (b l : List ℕ) → Room P b l → (a : ℕ) → So (is_atom P.atoms a)
      → (counter (sizes P (width P.atoms)) (value_of bs) a ≡ level P (true_atoms P bs) a)
      × (level_byte (check_levels t X.answer (length b) l) a ≡ level P (true_atoms P bs) a)
  -- 0 for a false atom
  pub false_zero : (bs : List Bool) → AcceptedAssignment t P bs → (a : ℕ) → true_atoms P bs a ≡ false → level P (true_atoms P bs) a ≡ 0
  -- for every stable model there is an accepted assignment with it as its true atoms: the answer that prints the filled-out list has it
  pub complete : (M : Atoms) → Stable P M → AcceptedAssignment t P (fill P (width P.atoms) M)
  pub its_atoms : (M : Atoms) → Stable P M → true_atoms P (fill P (width P.atoms) M) ≡ M
  pub exhibited : (M : Atoms) (σ : Stable P M) → (complete M σ).answer ≡ offered_text (fill P (width P.atoms) M)
  pub short_enough : (M : Atoms) (σ : Stable P M) → length (complete M σ).answer ≤ 65536
  -- every other with the same true atoms equals it
  pub unique : (bs cs : List Bool) → AcceptedAssignment t P bs → AcceptedAssignment t P cs → true_atoms P bs ≡ true_atoms P cs → bs ≡ cs
  -- for all buffers with room the check of an answer that has it returns the number of true atoms, the stages' highest level and how many variables the answer
  -- leaves out, and writes it and the level numbers
  pub check_gives : (bs : List Bool) (X : AcceptedAssignment t P bs) (b l : List ℕ) → Room P b l → CheckWrites t P bs X b l
  -- filling out the set of its true atoms returns the first two of these numbers and writes the same bytes into both buffers
  pub fill_gives : (bs : List Bool) (X : AcceptedAssignment t P bs) (s b l : List ℕ) → SetOf P.atoms s (true_atoms P bs) → Room P b l
      → (fill_answer t s (length b) (length l)
      ≡ filled_out (sum P.atoms (λ a. cond (true_atoms P bs a) 1 0)) (highest P.atoms (level P (true_atoms P bs))))
      × (fill_assignment t s b (length l) ≡ check_assignment t X.answer b (length l))
      × (fill_levels t s (length b) l ≡ check_levels t X.answer (length b) l)
  -- and each stable model is such a set
  pub set_of_lem : (M : Atoms) → Stable P M → SetOf P.atoms (set_bytes P.atoms M) M

-- ---- 10 The requests of document 02

-- Q-2, literals tested where they arise: bs are the bytes of an assignment, and a variable is true in it if its byte is not 0. `code_true (code_of P) bs j` is
-- what the test of clause j answers. The check tests the clauses of one rule, atom or pair in a clause group together, as an item of that group:
-- `item_true (code_of P) (value_in bs) g a` is what the test of item a of group g answers, and `InItem (code_of P) g a i j` says that clause j is its clause i.
pub record ClauseTests (P : Program) : Type 0 where
  -- the test of clause j says true exactly if written clause j is true
  pub of_clause : (bs : List ℕ) (j : ℕ) → zero < j → j ≤ clause_total P → So (code_true (code_of P) bs j) ↔ So (clause_true (value_in bs) (clause_of P j))
  -- the one whose print is line j
  pub its_line : (j : ℕ) → zero < j → j ≤ clause_total P → line_of P j ≡ line_text (clause_of P j)
  -- the test of an item says true exactly if each of its clauses is true
  pub of_item_lem : (bs : List ℕ) (g a : ℕ) → zero < g → g ≤ group_count → zero < a → a ≤ item_count (code_of P) g
      → So (item_true (code_of P) (value_in bs) g a) ↔ ((i j : ℕ) → InItem (code_of P) g a i j → So (code_true (code_of P) bs j))
  -- and each clause is one of an item
  pub in_item : (j : ℕ) → zero < j → j ≤ clause_total P → (g : ℕ) × (a : ℕ) × (i : ℕ) × InItem (code_of P) g a i j

-- Q-3, solvers that leave variables out: u is an answer that offers the literals xs, n any number of variables. Demand 3 for such answers is section 9.
pub record LeftOut : Type 0 where
  -- literals that give no variable twice and none above n have a completed assignment, n values: each literal is true, and a variable that none names is false
  pub completes : (u : List ℕ) (xs : List Spotted) → Offers u xs → (n : ℕ) → AllFit n xs → Completes n xs (values_of n xs)
  -- and one alone
  pub one_completion : (u : List ℕ) (xs : List Spotted) → Offers u xs → (n : ℕ) → AllFit n xs → (bs : List Bool) → Completes n xs bs → bs ≡ values_of n xs
  -- the count c that an accepting check returns is V less the number of literals of the answer
  pub of_check_lem : (t u b l : List ℕ) (k h c : ℕ) → check_answer t u (length b) (length l) ≡ model_shown k h c
      → (P : Program) × (xs : List Spotted) × Admitted t P × Offers u xs × (c + length xs ≡ var_total P)
  -- no check refuses with row 15
  pub never_15 : (t u : List ℕ) (a l s : ℕ) → CheckAnswers t u a l 15 s → ⊥

-- Q-6, levels without gaps: `WithoutGaps M ℓ k h` says that each number from 1 to h is the level ℓ a of some atom a of M, and that h is at most k
pub record LevelsWithoutGaps : Type 0 where
  -- in every stable model M: its level numbers up to the highest of them, which is at most the number of atoms of M
  pub of_model : (P : Program) → So (well_formed P) → (M : Atoms) → Stable P M
      → WithoutGaps M (level P M) (sum P.atoms (λ a. cond (M a) 1 0)) (highest P.atoms (level P M))
  -- in the bytes that every accepting check writes, with the number k of true atoms and the highest level h that it returns: the true atoms are those of 1 to
  -- n whose byte of the assignment is not 0, and their levels are their level bytes
  pub of_check_lem : (t u b l : List ℕ) (k h c : ℕ) → check_answer t u (length b) (length l) ≡ model_shown k h c
      → (P : Program) × Admitted t P × WithoutGaps (set_in P.atoms (check_assignment t u b (length l))) (level_byte (check_levels t u (length b) l)) k h
  -- in the bytes that every accepting filling out writes
  pub of_fill_lem : (t s b l : List ℕ) (k h : ℕ) → fill_answer t s (length b) (length l) ≡ filled_out k h
      → (P : Program) × Admitted t P × WithoutGaps (set_in P.atoms (fill_assignment t s b (length l))) (level_byte (fill_levels t s (length b) l)) k h

-- ---- 11 The calls for other languages: a reply's number is 0 exactly if the call accepts

pub record ZeroAccepts : Type 0 where
  -- the reader
  pub of_read : (t : List ℕ) → ((read_reply t).number ≡ 0) ↔ ((read_of t).verdict ≡ Ok tt)
  -- the line call, the call for a run of lines
  pub of_line_lem : (t : List ℕ) (j k n : ℕ) → ((line_reply t j k n).number ≡ 0) ↔ ((m : ℕ) × (line_answer t j k n ≡ Ok m))
  pub of_run_lem : (t : List ℕ) (j n : ℕ) → ((run_reply t j n).number ≡ 0) ↔ ((m : ℕ) × (x : ℕ) × (run_answer t j n ≡ written_run m x))
  -- the check, filling out
  pub of_check_lem : (t u : List ℕ) (a l : ℕ) → ((check_reply t u a l).number ≡ 0) ↔ Accepts t u a l
  pub of_fill_lem : (t s : List ℕ) (a l : ℕ) → ((fill_reply t s a l).number ≡ 0) ↔ ((k : ℕ) × (h : ℕ) × (fill_answer t s a l ≡ filled_out k h))

-- ---- all of it

pub record Promised : Type 1 where
  -- 1: the union of the stages of definite rules is their least model
  pub least_model_lem : (D : List Definite) → LeastModel D
  -- 1: what a stable model is can be computed
  pub stability : (P : Program) → So (well_formed P) → (M : Atoms) → Stability P M
  -- 1: the level numbers of a stable model are document 001's
  pub level_numbers : (P : Program) → So (well_formed P) → (M : Atoms) → Stable P M → LevelNumbers P M
  -- 1: a set with a level numbering in document 001's sense is a stable model
  pub numbered : (P : Program) → So (well_formed P) → (M : Atoms) (ℓ : ℕ → ℕ) → LevelNumbering P M ℓ → Stable P M
  -- 1: the highest level is one of the levels, and none is higher
  pub highest_level : (n : ℕ) (ℓ : ℕ → ℕ) → HighestLevel n ℓ
  -- 2: the width for n atoms
  pub widths : (n : ℕ) → Width n
  -- 2: the successor of group 4, over any width: its clauses are true exactly if u is v + 1 modulo 2^w
  pub successors : (A : Assignment) (w : ℕ) (u v : ℕ → ℕ)
      → So (all_true A (successor w u v)) ↔ (value (λ j. A (u j)) w ≡ (value (λ j. A (v j)) w + 1) % 2 ^ w)
  -- 2: a chain of group 5, over any width: its clauses are true exactly if each z i compares the lowest i bits of x and y
  pub chains : (A : Assignment) (w : ℕ) (z x y : ℕ → ℕ)
      → So (all_true A (chain w z x y)) ↔ ((i : ℕ) → i < w → A (z (suc i)) ≡ ltb (value (λ j. A (x j)) (suc i)) (value (λ j. A (y j)) (suc i)))
  -- 2: what each group says, for every program, every width and every assignment
  pub group_meanings : (P : Program) (w : ℕ) (A : Assignment) → GroupMeanings P w A
  -- 2: the pairs of every program
  pub pair_list_lem : (P : Program) → PairList P
  -- 2: the clause list of every well-formed program, for every width with room for n + 2 values
  pub clause_list_at : (P : Program) (w : ℕ) → So (well_formed P) → P.atoms + 2 ≤ 2 ^ w → ClauseList P w
  -- 2: and so for document 01's width
  pub clause_list : (P : Program) → So (well_formed P) → ClauseList P (width P.atoms)
  -- 3: stable models and satisfying assignments of every well-formed program correspond, for every width with room for n + 2 values
  pub demand3_at : (P : Program) (w : ℕ) → So (well_formed P) → P.atoms + 2 ≤ 2 ^ w → Demand3 P w
  -- 3: and so for document 01's width
  pub demand3 : (P : Program) → So (well_formed P) → Demand3 P (width P.atoms)
  -- 4: the reader's answer to any bytes
  pub program_text : (t : List ℕ) → ProgramText t
  -- 4: the first 65,537 bytes of a text and its length give the reader's answer to the whole text
  pub counted_input : (t : List ℕ) → counted_of (take 65537 t) (length t) ≡ read_of t
  -- 4: an input of which a first read gives k bytes, further ones ns bytes, none of them 0, and then one none, is counted as k bytes and those of ns
  pub counted_reads : (k : ℕ) (ns : List ℕ) → So (all (λ m. ltb 0 m) ns) → k + bytes_in ns ≤ most_counted
      → read_all (first_read k) (ns ++ (0 ∷ [])) ≡ counted k (k + bytes_in ns) true
  -- 5: the lines of the clause file of every program within the limits
  pub clause_file_lem : (P : Program) → Limits P → ClauseFile P
  -- 5: the line call, for any bytes
  pub line_call_lem : (t : List ℕ) (j k : ℕ) (b : List ℕ) → LineCall t j k b
  -- 5: the call for a run of lines, for any bytes
  pub run_call_lem : (t : List ℕ) (j : ℕ) (b : List ℕ) → RunCall t j b
  -- 5: all that the writer hands to its output, for any bytes
  pub writer_output_lem : (t : List ℕ) → WriterOutput t
  -- 5: the parts in which it hands over the clause file of every program within the limits
  pub writer_parts : (P : Program) → Limits P → WriterParts P
  -- 6: solver answers, for any bytes
  pub answer_text_lem : (u : List ℕ) → AnswerText u
  -- 7: the check, for any bytes
  pub check_call_lem : (t u b l : List ℕ) → CheckCall t u b l
  -- 7: all that the checker prints, for any bytes
  pub checker_output_lem : (t u : List ℕ) → CheckerOutput t u
  -- 8: filling out, for any bytes
  pub fill_call_lem : (t s b l : List ℕ) → FillCall t s b l
  -- 9: stable models, accepted assignments and filled-out sets of every admitted text correspond
  pub text_demand3 : (t : List ℕ) (P : Program) → Admitted t P → TextDemand3 t P
  -- 9: and so of every text that the reader accepts
  pub accepted_demand3 : (t : List ℕ) → (read_of t).verdict ≡ Ok tt → (P : Program) × Admitted t P × TextDemand3 t P
  -- 10: the tests of clauses and of items of clauses, for every program within the limits
  pub clause_tests : (P : Program) → Limits P → ClauseTests P
  -- 10: solvers that leave variables out
  pub left_out : LeftOut
  -- 10: levels without gaps
  pub levels_without_gaps : LevelsWithoutGaps
  -- 11: the number of a reply
  pub zero_accepts : ZeroAccepts
