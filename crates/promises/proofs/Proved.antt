-- What is promised is proved: `proved` is the one term of the record `Promised` (specs/Promised.antt). Where a field takes more than the name of a law of
-- another crate, its proof stands above it, section by section.
use Prim.Native.Nat.{ℕ, suc, pred, ◌+◌, ◌^◌, ◌≤◌, ◌<◌}
use native.Mathlib.Omega.{arith}
use mathlib.Core.Path.{◌≡◌, refl, sym, ◌∙◌, ap, subst}
use mathlib.Core.Logic.{◌⊎◌, inl, inr}
use mathlib.Core.Bool.{Bool, true, false, So, false≢true}
use mathlib.Core.List.{List, []}
use lib.ListN.{length, get_or, take, drop}
use lib.Seq.{ext_get_or, take-add, take_all}
use Rattle.lists.specs.Lists.{tab, joined}
use Rattle.lists.proofs.Tables.{length_tab, get_or_tab}
use Rattle.meaning.specs.Program.{Program, Atoms, well_formed}
use Rattle.meaning.specs.Stage.{Definite, reduct, Stable, level}
use Rattle.encoding.specs.Width.{width}
use Rattle.encoding.specs.Literal.{Assignment, Clause, clause_true}
use Rattle.encoding.specs.Clauses.{clauses}
use Rattle.encoding.specs.Code.{code_of}
use Rattle.theory.proofs.LeastModel.{union_model, union_least, first_stage_unique}
use Rattle.theory.proofs.Decided as Decided
use Rattle.theory.proofs.LevelNumberings.{stable_level_numbering, level_numbering_stable, level_numbering_unique}
use Rattle.theory.proofs.Gaps as Gaps
use Rattle.theory.proofs.Counters.{chain_iff, successor_iff}
use Rattle.theory.proofs.GroupMeanings.{group1_iff, group2_iff, group3_iff, group4_iff, group5_iff, group6_iff, group7_iff, pairs_are, pairs_counted}
use Rattle.theory.proofs.Widths.{width_is, width_unique, width_table, width_zeros, width_enough}
use Rattle.theory.proofs.Counts.{count_whole}
use Rattle.theory.proofs.Whole.{clauses_whole, variables_whole}
use Rattle.theory.proofs.Base as Base
use Rattle.text.specs.Limits.{Limits, Admitted}
use Rattle.program.specs.Arrays.{decoded}
use Rattle.program.proofs.Decode.{decoded_kept}
use Rattle.reader.specs.Verdict.{read_of}
use Rattle.reader.proofs.Counted.{counted_whole}
use Rattle.reader_laws.proofs.FirstBytes.{breach_at}
use Rattle.reader_laws.proofs.Spot as TextSpot
use Rattle.reader_laws.proofs.Unique.{text_unique}
use Rattle.reader_laws.proofs.Rows.{first_unique, answers_first, first_answers, accepted_none, none_accepted, answers_malformed, answers_breach}
use Rattle.reader_laws.proofs.Contents.{accepted_admitted, admitted_answer, refused_empty}
use Rattle.clause_table_laws.proofs.Elements.{program_limited}
use Rattle.clause_table_laws.proofs.Bounds.{variables_fit, clauses_fit}
use Rattle.clause_runs.specs.Lines.{clause_total, lines_of, line_of, fitting, run_in}
use Rattle.clause_runs.proofs.Runs.{joined_append}
use Rattle.call_lines_rows.proofs.File as File
use Rattle.call_lines_rows.proofs.Parts.{lines_many, file_parts, some_line}
use Rattle.call_lines_rows.proofs.Rows.{answers_line_first, first_line_answers, first_line_unique, written_none, none_written}
use Rattle.call_lines_rows.proofs.Calls.{line_stays, line_writes, run_refused_as, run_stays, run_writes}
use Rattle.answer_form.specs.Answer.{Answer, proper, answer_text, Status, OfStatus}
use Rattle.answer_form.specs.Pieces.{Spotted, spots_of}
use Rattle.answer_form.proofs.Spot as AnswerSpot
use Rattle.answer_form.proofs.Unique.{answer_unique}
use Rattle.answer_form.proofs.FirstBytes.{literals_at_lem}
use Rattle.answer_bytes.specs.Bytes.{overwritten}
use Rattle.answer_offers.proofs.Values.{values_complete, values_unique}
use Rattle.call_check_rows.specs.Rows.{Offers}
use Rattle.call_check_rows.proofs.Spots.{offers_unique, offers_named}
use Rattle.call_check_rows.proofs.Verdicts.{answers_check_first, first_check_answers, first_check_unique, model_none, none_model}
use Rattle.call_check_rows.proofs.Buffers.{model_writes, assumed_rest, refused_zeroes, refused_keeps, refused_levels, never_15}
use Rattle.truth_clauses.specs.Truth.{value_in}
use Rattle.truth_clauses.proofs.Numbered.{program_tested, program_in_item}
use Rattle.call_fill_rows.proofs.FirstRows.{fill_answers_first, first_fill_answers, first_fill_one, fill_accepts_none, none_fill_accepts}
use Rattle.call_fill_rows.proofs.Written.{fill_accepted, fill_kept}
use Rattle.correspondence.proofs.Correspond as Correspond
use Rattle.correspondence.proofs.Gaps.{check_gaps, fill_gaps}
use Rattle.correspondence.proofs.Texts.{checked_exactly, line_prints, level_bytes_lem, level_of_false, fills_exactly}
use Rattle.files.proofs.Count.{all_counted}
use Rattle.writer_output.proofs.Outputs.{front_output, writer_lists, writer_refuses}
use Rattle.checker_output.proofs.Shown.{output_whole}
use Rattle.checker_output.proofs.Printed.{checker_refuses, checker_shows}
use Rattle.exports.proofs.Zero as Zero
use Rattle.promises.specs.Promised.{LeastModel, Stability, LevelNumbers, HighestLevel, Width, GroupMeanings, ClauseList, Demand3, ProgramText, ClauseFile}
use Rattle.promises.specs.Promised.{LineCall, RunCall, WriterOutput, WriterParts, AnswerText, CheckCall, CheckerOutput, FillCall, TextDemand3, ClauseTests, LeftOut}
use Rattle.promises.specs.Promised.{LevelsWithoutGaps, ZeroAccepts, Promised}
use Rattle.reader.specs.declared.ReadResult.{ReadResult}
use Rattle.std.specs.Prelude.{Ok}

-- ---- 1 Meaning

least_model_lem : (D : List Definite) → LeastModel D
least_model_lem D = record { model = union_model D; least = union_least D }

stability : (P : Program) → So (well_formed P) → (M : Atoms) → Stability P M
stability P form M =
    record {
      computed_in_n = Decided.least_model_iff P form M;
      decided = Decided.decided P form M;
      an_atom = Decided.differ_le P form M;
      differs = Decided.differ_at P form M;
      agrees_before = Decided.differ_before P form M;
      atoms_alone = Decided.stable_atom P form M;
      headless = Decided.headless_false P form M;
    }

level_numbers : (P : Program) → So (well_formed P) → (M : Atoms) → Stable P M → LevelNumbers P M
level_numbers P form M s =
    record {
      first_stage = Base.level_number P form M s;
      only_first = λ a i t f. first_stage_unique (reduct P M) a i (level P M a) f (Base.level_number P form M s a t);
      others = Base.level_false P form M s;
      at_most = Base.level_at_most P form M s;
      numbering = stable_level_numbering P form M s;
      only = level_numbering_unique P form M;
    }

highest_level : (n : ℕ) (ℓ : ℕ → ℕ) → HighestLevel n ℓ
highest_level n ℓ = record { no_higher = Gaps.no_higher n ℓ; reached = Gaps.highest_reached n ℓ }

-- ---- 2 Encoding

widths : (n : ℕ) → Width n
widths n =
    record {
      smallest = width_is n;
      no_other = λ w i. width_unique n w (width n) i (width_is n);
      by_table = width_table n;
      by_zeros = λ b. width_zeros b n;
    }

group_meanings : (P : Program) (w : ℕ) (A : Assignment) → GroupMeanings P w A
unfolding clauses
group_meanings P w A =
    record {
      bodies = group1_iff P w A;
      supported = group2_iff P w A;
      zeros = group3_iff P w A;
      nexts = group4_iff P w A;
      compared = group5_iff P w A;
      founds = group6_iff P w A;
      founded = group7_iff P w A;
      in_order = refl;
    }

clause_list_at : (P : Program) (w : ℕ) → So (well_formed P) → P.atoms + 2 ≤ 2 ^ w → ClauseList P w
clause_list_at P w form wide =
    record {
      counted = count_whole P w form wide;
      no_other_variable = Base.clauses_within P w form wide;
      every_variable = Base.each_occurs P w form wide;
    }

-- ---- 3 Demand 3, for assignments

demand3_at : (P : Program) (w : ℕ) → So (well_formed P) → P.atoms + 2 ≤ 2 ^ w → Demand3 P w
demand3_at P w form wide =
    record {
      exactly = Base.exactly P w form wide;
      counters = Base.counter_is_level P w form wide;
      filled = λ M s. (Base.fill_length P w form wide M, Base.fill_true P w form wide M s, Base.fill_has P w form wide M s);
      one_each = Base.one_list P w form wide;
    }

-- ---- 4 Demand 1, for program texts

program_text : (t : List ℕ) → ProgramText t
program_text t =
    record {
      one_program = λ P Q p q. text_unique P Q (sym p ∙ q);
      malformed_somewhere = TextSpot.formless_malformed t;
      one_spot = TextSpot.spot_unique t;
      form_at_none = λ f s. TextSpot.form_not_malformed t s f;
      byte_ending = TextSpot.viable_part t;
      refused = λ k s. (answers_first t k s, first_answers t k s);
      one_row = first_unique t;
      viable_before = λ s a. (answers_malformed t s a).before;
      dead_after = λ s a. (answers_malformed t s a).dead;
      smallest_breach = answers_breach t;
      breach_at = λ P e. breach_at P;
      accepted = (accepted_none t, none_accepted t);
      admitted = (accepted_admitted t, λ a. ap (λ (x : ReadResult). x.verdict) (admitted_answer t a.0 a.1));
      kept_whole = λ P a. ap (λ (x : ReadResult). x.program) (admitted_answer t P a);
      decoded_whole = λ P a. ap (λ (x : ReadResult). decoded x.program) (admitted_answer t P a) ∙ decoded_kept P;
      kept_nothing = refused_empty t;
    }

-- ---- 5 The clause file

all_lines : (P : Program) → Limits P → lines_of P ≡ tab (suc (clause_total P)) (λ i. line_of P (pred i))
all_lines P L =
    ext_get_or [] (lines_of P) (tab lines line) (lines_many P L ∙ sym (length_tab lines line))
    (λ i h. sym (get_or_tab lines line [] i (subst (λ (k : ℕ). i < k) (lines_many P L) h)))
  where
    lines : ℕ
    lines = suc (clause_total P)

    line : ℕ → List ℕ
    line i = line_of P (pred i)

clause_file_lem : (P : Program) → Limits P → ClauseFile P
clause_file_lem P L =
    record {
      header = File.header_line P;
      clause_line = File.clause_line P L;
      all_lines = all_lines P L;
      variable_total = variables_whole P (width P.atoms);
      clause_total_lem = File.clause_total_lem P L;
      clause_formula = File.clause_total_lem P L ∙ count_whole P (width P.atoms) L.all_atoms (width_enough P.atoms);
      few_variables = subst (λ (v : ℕ). v ≤ 9890) (variables_whole P (width P.atoms)) (variables_fit (code_of P) (program_limited P L));
      few_clauses = clauses_fit (code_of P) (program_limited P L);
      short_lines = File.short_lines P L;
    }

line_call_lem : (t : List ℕ) (j k : ℕ) (b : List ℕ) → LineCall t j k b
line_call_lem t j k b =
    record {
      refused = λ r s. (answers_line_first t j k (length b) r s, first_line_answers t j k (length b) r s);
      one_row = first_line_unique t j k (length b);
      accepted = (λ a. written_none t j k (length b) a.0 a.1, none_written t j k (length b));
      written = line_writes t j k b;
      stays = line_stays t j k b;
    }

run_call_lem : (t : List ℕ) (j : ℕ) (b : List ℕ) → RunCall t j b
run_call_lem t j b = record { refused = run_refused_as t j (length b); stays = run_stays t j b; written = run_writes t j b }

writer_output_lem : (t : List ℕ) → WriterOutput t
writer_output_lem t = record { refused = writer_refuses t; written = writer_lists t; front = front_output t }

writer_parts : (P : Program) → Limits P → WriterParts P
writer_parts P L =
    record {
      all_parts = file_parts P L 65536 (omega arith);
      at_first = refl;
      next_part = λ j.
          sym
          (ap joined (take-add j (fitting 65536 (drop j (lines_of P))) (lines_of P))
          ∙ joined_append (take j (lines_of P)) (run_in P j 65536));
      some_line = some_line P L 65536 (omega arith);
      at_last = λ j h. ap joined (take_all j (lines_of P) (omega (arith, h, lines_many P L)));
    }

-- ---- 6 Solver answers

-- what an answer of the form says
said : (u : List ℕ) (a : Answer) → So (proper a) → u ≡ answer_text a → ((xs : List Spotted) × Offers u xs) ⊎ ((x : Status) × OfStatus u x)
said u (Answer.model before lines last after) p e =
    inl (
      spots_of (Answer.model before lines last after),
      record { before = before; lines = lines; last = last; after = after; is_proper = p; its_text = e; literals_are = refl },
    )
said u (Answer.no_model before status rest) p e = inr (status, record { before = before; rest = rest; is_proper = p; its_text = e })

abbrev offers_model : Answer → Bool
offers_model (Answer.model before lines last after) = true
offers_model (Answer.no_model before status rest) = false

one_status : (u : List ℕ) (xs : List Spotted) (x : Status) → Offers u xs → OfStatus u x → ⊥
one_status u xs x o w =
    false≢true
    (sym
    (ap offers_model
    (answer_unique (Answer.model o.before o.lines o.last o.after) (Answer.no_model w.before x w.rest) o.is_proper w.is_proper
    (sym o.its_text ∙ w.its_text))))

answer_text_lem : (u : List ℕ) → AnswerText u
answer_text_lem u =
    record {
      one_answer = λ a b p q e f. answer_unique a b p q (sym e ∙ f);
      malformed_somewhere = AnswerSpot.formless_malformed u;
      one_spot = AnswerSpot.spot_unique u;
      form_at_none = λ f s. AnswerSpot.form_not_malformed u s f;
      byte_ending = AnswerSpot.viable_part u;
      of_form = λ f. said u f.answer f.is_proper f.its_text;
      one_status = one_status u;
      one_list = λ xs ys o w. offers_unique o w;
      literals_at_lem = λ xs o. literals_at_lem u xs (Answer.model o.before o.lines o.last o.after) o.its_text o.literals_are;
    }

-- ---- 7 The check

check_call_lem : (t u b l : List ℕ) → CheckCall t u b l
unfolding overwritten
check_call_lem t u b l =
    record {
      refused = λ r s. (answers_check_first t u (length b) (length l) r s, first_check_answers t u (length b) (length l) r s);
      one_row = first_check_unique t u (length b) (length l);
      accepted = (λ e. model_none t u (length b) (length l) e.0 e.1 e.2 e.3, none_model t u (length b) (length l));
      written = model_writes t u b l;
      zeroed = refused_zeroes t u b l;
      stays = refused_keeps t u b l;
      levels_stay = refused_levels t u b l;
    }

checker_output_lem : (t u : List ℕ) → CheckerOutput t u
checker_output_lem t u = record { refused = checker_refuses t u; shown = checker_shows t u; front = output_whole t u }

-- ---- 8 Filling out

fill_call_lem : (t s b l : List ℕ) → FillCall t s b l
fill_call_lem t s b l =
    record {
      refused = λ r u. (fill_answers_first t s (length b) (length l) r u, first_fill_answers t s (length b) (length l) r u);
      one_row = first_fill_one t s (length b) (length l);
      accepted = (fill_accepts_none t s (length b) (length l), none_fill_accepts t s (length b) (length l));
      written = fill_accepted t s b l;
      stays = fill_kept t s b l;
      exactly = λ P A. fills_exactly t P A s b l;
    }

-- ---- 9 Demand 3, over texts, answers and bytes

text_demand3 : (t : List ℕ) (P : Program) → Admitted t P → TextDemand3 t P
text_demand3 t P A =
    record {
      checked = checked_exactly t P A;
      printed = line_prints t P A;
      sound = λ bs X. (Correspond.accepted_stable t P A bs X).0;
      levels = level_bytes_lem t P A;
      false_zero = level_of_false t P A;
      complete = Correspond.stable_accepted t P A;
      its_atoms = Correspond.stable_atoms t P A;
      exhibited = Correspond.exhibited t P A;
      short_enough = Correspond.exhibited_fits t P A;
      unique = Correspond.one_accepted t P A;
      check_gives = Correspond.check_writes t P A;
      fill_gives = Correspond.fill_agrees t P A;
      set_of_lem = Correspond.bytes_set t P A;
    }

accepted_demand3 : (t : List ℕ) → (read_of t).verdict ≡ Ok tt → (P : Program) × Admitted t P × TextDemand3 t P
accepted_demand3 t e = let a = accepted_admitted t e in (a.0, a.1, text_demand3 t a.0 a.1)

-- ---- 10 The requests of document 02

clause_tests : (P : Program) → Limits P → ClauseTests P
clause_tests P L =
    record {
      of_clause = λ bs j p h.
          let e = ap (λ (cs : List Clause). clause_true (value_in bs) (get_or cs (pred j) [])) (clauses_whole P (width P.atoms)) in
          (λ s. sym e ∙ s, λ s. e ∙ s);
      its_line = File.clause_line P L;
      of_item_lem = program_tested P L;
      in_item = program_in_item P L;
    }

left_out : LeftOut
left_out =
    record {
      completes = λ u xs o n. values_complete n xs (offers_named o);
      one_completion = λ u xs o n. values_unique n xs (offers_named o);
      of_check_lem = assumed_rest;
      never_15 = never_15;
    }

levels_without_gaps : LevelsWithoutGaps
levels_without_gaps = record { of_model = Base.level_gaps; of_check_lem = check_gaps; of_fill_lem = fill_gaps }

-- ---- 11 The calls for other languages

zero_accepts : ZeroAccepts
zero_accepts = record { of_read = Zero.read_zero; of_line_lem = Zero.line_zero; of_run_lem = Zero.run_zero; of_check_lem = Zero.check_zero; of_fill_lem = Zero.fill_zero }

-- ---- all of it

pub proved : Promised
proved =
    record {
      least_model_lem = least_model_lem;
      stability = stability;
      level_numbers = level_numbers;
      numbered = level_numbering_stable;
      highest_level = highest_level;
      widths = widths;
      successors = successor_iff;
      chains = chain_iff;
      group_meanings = group_meanings;
      pair_list_lem = λ P. record { of_rule = pairs_are P; counted = pairs_counted P };
      clause_list_at = clause_list_at;
      clause_list = λ P form. clause_list_at P (width P.atoms) form (width_enough P.atoms);
      demand3_at = demand3_at;
      demand3 = λ P form. demand3_at P (width P.atoms) form (width_enough P.atoms);
      program_text = program_text;
      counted_input = counted_whole;
      counted_reads = λ k ns. all_counted ns k k;
      clause_file_lem = clause_file_lem;
      line_call_lem = line_call_lem;
      run_call_lem = run_call_lem;
      writer_output_lem = writer_output_lem;
      writer_parts = writer_parts;
      answer_text_lem = answer_text_lem;
      check_call_lem = check_call_lem;
      checker_output_lem = checker_output_lem;
      fill_call_lem = fill_call_lem;
      text_demand3 = text_demand3;
      accepted_demand3 = accepted_demand3;
      clause_tests = clause_tests;
      left_out = left_out;
      levels_without_gaps = levels_without_gaps;
      zero_accepts = zero_accepts;
    }
