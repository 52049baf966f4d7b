-- The row that the check answers is the first one met, and it accepts exactly if none is.
--   CheckTold              the two cases: refused with the first row, or accepted with nothing but what the answer shows
--   answers_check_first, first_check_answers   refused with row r and spot s exactly if it is first
--   first_check_unique     there is one first row, with one spot
--   model_none, none_model    accepted exactly if no row is met
--   model_offers           and then the answer shows a model
--   shows_none, shows_result   an answer that shows a model meets no row, and is accepted with it
--   true_accepted, accepted_true   an answer that names no variable above V and none twice is accepted exactly if each clause is true
-- Assumes nothing.
use Prim.Native.Nat.{ℕ, ◌≤◌, ◌<◌}
use native.Mathlib.Nat.{le_refl, le_trans, lt_irrefl, eq-or-lt_of_le}
use native.Mathlib.Omega.{arith}
use mathlib.Core.Path.{◌≡◌, refl, sym, ◌∙◌, ap, ap₂, subst}
use mathlib.Core.Logic.{◌⊎◌, inl, inr}
use mathlib.Core.Bool.{Bool, true, false, cond, true≢false, false≢true}
use mathlib.Core.List.{List, []}
use lib.Dec.{eqb}
use lib.ListN.{length}
use borrow.Author.Tests.{lt-ltb, le-ltb}
use Rattle.lists.specs.Lists.{tab, highest}
use Rattle.lists.proofs.Tests.{le_or_lt}
use Rattle.encoding.specs.Code.{code_of}
use Rattle.meaning.specs.Program.{Program}
use Rattle.encoding.specs.Width.{width}
use Rattle.encoding.specs.Literal.{clause_true}
use Rattle.encoding.specs.Clauses.{sizes}
use Rattle.refusals.specs.declared.TextRefusal.{TextRefusal}
use Rattle.reader.specs.Verdict.{read_of}
use Rattle.refusals.specs.Numbers.{text_number, text_spot}
use Rattle.reader_laws.specs.Row.{rank, NoLaterBy, FirstRow}
use Rattle.text.specs.Limits.{Admitted}
use Rattle.call_laws.proofs.Texts.{one_admitted, refused_row, refused_admits_none}
use Rattle.reader_laws.proofs.Rows.{accepted_none}
use Rattle.reader_laws.proofs.Contents.{accepted_admitted, admitted_answer}
use Rattle.program.proofs.Decode.{decoded_kept}
use Rattle.answer_form.specs.Answer.{Status, OfStatus, AnswerMalformed}
use Rattle.answer_form.specs.Pieces.{Spotted, status_end}
use Rattle.answer_reader.specs.declared.AnswerFault.TheVariants.{NoModel, Malformed as FormMalformed}
use Rattle.answer_reader.specs.Results.{Formed, form_of}
use Rattle.answer_reader.proofs.Promised.{form_malformed, malformed_form, form_none, none_form}
use Rattle.answer_bytes.specs.Bytes.{Outcome, unset_count, completed}
use Rattle.answer_values.specs.Assign.{literals_from, variable_at, spot_at, assigned_of, assigned_bytes}
use Rattle.answer_values.specs.Rows.{Fit, AllFit, StrayAt, RepeatedAt}
use Rattle.answer_values.proofs.Rows.{filled_none, Meant, meant, unset_unnamed}
use Rattle.answer_offers.specs.Offered.{value_bytes, values_of}
use Rattle.answer_offers.proofs.Values.{values_alone}
use Rattle.truth_clauses.specs.Truth.{code_first_false}
use Rattle.call_results.specs.Results.{Result, var_total, program_read}
use Rattle.refusals.specs.declared.CheckRefusal.{CheckRefusal}
use Rattle.refusals.specs.declared.CheckRefusal.TheVariants.{Text, ShortBuffer, OverlongAnswer, MalformedAnswer, NoModelOffered, StrayVariable, RepeatedVariable, FalseClause}
use Rattle.refusals.specs.Numbers.{check_number, check_spot}
use Rattle.call_check_rows.specs.Check.{check_refused, values_judged, completed_result, no_values, after_assigning, assigned_result, form_result, check_result, check_after_reading, check_verdict_of, check_of, check_answer}
use Rattle.call_results.specs.Order.{NotAfter, earlier, nearer, smaller}
use Rattle.call_results.proofs.Order.{first_one}
use Rattle.call_check_rows.specs.Rows.{Offers, values_in, assumed_number, levels_of, true_number, clause_of, clause_number, CheckRow, of_text, short_assignment, short_levels, overlong_answer, malformed_answer, no_model_offered, stray_variable, repeated_variable, false_clause, FirstCheckRow, CheckAnswers, Accepts, EachTrue, Shows}
use Rattle.call_check_rows.proofs.Rows.{judged_16, judged_none}
use Rattle.call_check_rows.proofs.Spots.{offers_unique, spots_ascend, offers_named, offers_form, form_offers}
use Rattle.call_results.proofs.ValueBytes.{count_same, counters_same, levels_same}
use Rattle.call_check_rows.proofs.Valued.{FirstFalse, first_false}
use Rattle.reader.specs.Verdict.{ReadVerdict}
use Rattle.reader.specs.declared.ReadResult.{ReadResult}
use Rattle.std.specs.Prelude.{Err, Ok}
use Rattle.call_check_rows.specs.Verdict.{CheckVerdict, model_shown}

-- what is written of an accepted answer
abbrev pub shown_result : Program → List Spotted → Result CheckRefusal
shown_result P xs = Result.accepted (assumed_number P xs) (value_bytes (values_of (var_total P) xs)) (tab P.atoms (levels_of P xs))

pub data CheckTold (t u : List ℕ) (a l : ℕ) : Type 0 where
  at_row : (q : CheckRefusal) → FirstCheckRow t u a l (check_number q) (check_spot q) → check_of t u a l ≡ check_refused q → CheckTold t u a l
  shown : (P : Program) (xs : List Spotted) → Shows t u a l P xs → check_of t u a l ≡ shown_result P xs → CheckTold t u a l

-- ---- the tests, one after the other

module _ (P : Program) (u : List ℕ) (k a l : ℕ) where
  result_3 : a < var_total P → check_result (code_of P) u k a l ≡ check_refused (ShortBuffer (var_total P))
  result_3 h = rw (lt-ltb a (var_total P) h)

  result_4 : var_total P ≤ a → l < P.atoms → check_result (code_of P) u k a l ≡ check_refused (ShortBuffer P.atoms)
  result_4 h g = rw (le-ltb a (var_total P) h, lt-ltb l P.atoms g)

  result_5 : var_total P ≤ a → P.atoms ≤ l → 65536 < k → check_result (code_of P) u k a l ≡ check_refused (OverlongAnswer k)
  result_5 h g f = rw (le-ltb a (var_total P) h, le-ltb l P.atoms g, lt-ltb 65536 k f)

  result_form : var_total P ≤ a → P.atoms ≤ l → k ≤ 65536 → {x : Formed} → form_of u ≡ x → check_result (code_of P) u k a l ≡ form_result (code_of P) u x
  result_form h g f {x} e = tests ∙ ap (form_result (code_of P) u) e
    where
      tests : check_result (code_of P) u k a l ≡ form_result (code_of P) u (form_of u)
      tests = rw (le-ltb a (var_total P) h, le-ltb l P.atoms g, le-ltb 65536 k f)

-- ---- forms, told apart

form_kind : Formed → ℕ
form_kind (Err (FormMalformed s)) = 0
form_kind (Err NoModel) = 1
form_kind (Ok e) = 2

form_spot : Formed → ℕ
form_spot (Err (FormMalformed s)) = s
form_spot (Err NoModel) = 0
form_spot (Ok e) = e

-- ---- the reader's ranks

rank_low : (r : ℕ) → rank r < 3
rank_low r = go (eqb r 1) (eqb r 2)
  where
    go : (b c : Bool) → cond b 0 (cond c 1 2) < 3
    go true c = omega arith
    go false true = omega arith
    go false false = omega arith

-- ---- rows and places

module _ (t u : List ℕ) (a l : ℕ) where
  -- something that is so of each of rows 13, 14 and 16 that is met where P is the program and the answer offers the literals xs
  record OfLiterals (P : Program) (xs : List Spotted) (Z : ℕ → ℕ → ℕ → Type 0) : Type 0 where
    stray : (i : ℕ) → i < length xs → var_total P < variable_at xs i → Z 8 13 (spot_at xs i)
    repeated : (i j : ℕ) → i < length xs → j < i → variable_at xs j ≡ variable_at xs i → Z 8 14 (spot_at xs i)
    false_one : (j : ℕ) → 0 < j → j ≤ clause_number P → clause_true (values_in P xs) (clause_of P j) ≡ false → Z 9 16 j

  -- the same of each row that is met where P is the program
  record Each (P : Program) (Z : ℕ → ℕ → ℕ → Type 0) : Type 0 where
    assignment : a < var_total P → Z 3 8 (var_total P)
    levels : l < P.atoms → Z 4 8 P.atoms
    overlong : 65536 < length u → Z 5 10 (length u)
    malformed : (s : ℕ) → AnswerMalformed u s → Z 6 11 s
    no_model_lem : (x : Status) → OfStatus u x → Z 7 12 0
    offered : (xs : List Spotted) → Offers u xs → OfLiterals P xs Z

  -- rows 13, 14 and 16 come after places 0 to 7
  literals_later : (P : Program) (p r s : ℕ) → p < 8 → (xs : List Spotted) → OfLiterals P xs (NotAfter p r s)
  literals_later P p r s h xs =
      record {
        stray = λ i g f. earlier h;
        repeated = λ i j g f e. earlier h;
        false_one = λ j g f e. earlier (omega (arith, h));
      }

  module _ (P : Program) (A : Admitted t P) where
    verdict : (read_of t).verdict ≡ Ok tt
    verdict = ap (λ (r : ReadResult). r.verdict) (admitted_answer t P A)

    same : (Q : Program) → Admitted t Q → Q ≡ P
    same Q B = one_admitted A B

    pub program_is : program_read (read_of t) ≡ P
    program_is = ap (λ (r : ReadResult). program_read r) (admitted_answer t P A) ∙ decoded_kept P

    result_is : check_of t u a l ≡ check_result (code_of P) u (length u) a l
    unfolding check_of
    result_is = ap (λ (w : ReadVerdict). check_after_reading w (check_result (code_of (program_read (read_of t))) u (length u) a l)) verdict ∙ ap (λ (X : Program). check_result (code_of X) u (length u) a l) program_is

    each_row : (Z : ℕ → ℕ → ℕ → Type 0) → Each P Z → (p r s : ℕ) → CheckRow t u a l p r s → Z p r s
    each_row Z c p r s (of_text ρ) = absurd (accepted_none t verdict r s ρ)
    each_row Z c p r s (short_assignment Q B h) = subst (λ (X : Program). a < var_total X → Z 3 8 (var_total X)) (sym (same Q B)) c.assignment h
    each_row Z c p r s (short_levels Q B h) = subst (λ (X : Program). l < X.atoms → Z 4 8 X.atoms) (sym (same Q B)) c.levels h
    each_row Z c p r s (overlong_answer h) = c.overlong h
    each_row Z c p r s (malformed_answer m) = c.malformed s m
    each_row Z c p r s (no_model_offered {x = x} o) = c.no_model_lem x o
    each_row Z c p r s (stray_variable Q B xs o i h g) = (c.offered xs o).stray i h (subst (λ (X : Program). var_total X < variable_at xs i) (same Q B) g)
    each_row Z c p r s (repeated_variable Q B xs o i j h g e) = (c.offered xs o).repeated i j h g e
    each_row Z c p r s (false_clause Q B xs o j h g e) =
        (c.offered xs o).false_one j h (subst (λ (X : Program). j ≤ clause_number X) (same Q B) g)
        (subst (λ (X : Program). clause_true (values_in X xs) (clause_of X j) ≡ false) (same Q B) e)

    refused_at : (q : CheckRefusal) (p : ℕ) → CheckRow t u a l p (check_number q) (check_spot q) → Each P (NotAfter p (check_number q) (check_spot q))
        → check_result (code_of P) u (length u) a l ≡ check_refused q → CheckTold t u a l
    refused_at q p m c e = at_row q (record { place = p; met = m; first = each_row (NotAfter p (check_number q) (check_spot q)) c }) (result_is ∙ e)

    -- ---- row 8

    told_3 : a < var_total P → CheckTold t u a l
    told_3 h =
        refused_at (ShortBuffer (var_total P)) 3 (short_assignment P A h)
        (record {
          assignment = λ g. smaller refl refl (le_refl 8);
          levels = λ g. earlier (omega arith);
          overlong = λ g. earlier (omega arith);
          malformed = λ s m. earlier (omega arith);
          no_model_lem = λ x o. earlier (omega arith);
          offered = λ xs o. literals_later P 3 8 (var_total P) (omega arith) xs;
        })
        (result_3 P u (length u) a l h)

    module _ (room : var_total P ≤ a) where
      not_3 : a < var_total P → ⊥
      not_3 h = lt_irrefl a (le_trans h room)

      told_4 : l < P.atoms → CheckTold t u a l
      told_4 h =
          refused_at (ShortBuffer P.atoms) 4 (short_levels P A h)
          (record {
            assignment = λ g. absurd (not_3 g);
            levels = λ g. smaller refl refl (le_refl 8);
            overlong = λ g. earlier (omega arith);
            malformed = λ s m. earlier (omega arith);
            no_model_lem = λ x o. earlier (omega arith);
            offered = λ xs o. literals_later P 4 8 P.atoms (omega arith) xs;
          })
          (result_4 P u (length u) a l room h)

      module _ (levels_room : P.atoms ≤ l) where
        not_4 : l < P.atoms → ⊥
        not_4 h = lt_irrefl l (le_trans h levels_room)

        -- ---- row 10

        told_5 : 65536 < length u → CheckTold t u a l
        told_5 h =
            refused_at (OverlongAnswer (length u)) 5 (overlong_answer h)
            (record {
              assignment = λ g. absurd (not_3 g);
              levels = λ g. absurd (not_4 g);
              overlong = λ g. smaller refl refl (le_refl 10);
              malformed = λ s m. earlier (omega arith);
              no_model_lem = λ x o. earlier (omega arith);
              offered = λ xs o. literals_later P 5 10 (length u) (omega arith) xs;
            })
            (result_5 P u (length u) a l room levels_room h)

        module _ (fits : length u ≤ 65536) where
          not_5 : 65536 < length u → ⊥
          not_5 h = lt_irrefl 65536 (le_trans h fits)

          -- ---- rows 11 and 12

          told_6 : (s : ℕ) → form_of u ≡ Err (FormMalformed s) → CheckTold t u a l
          unfolding form_kind form_spot
          told_6 s f =
              refused_at (MalformedAnswer s) 6 (malformed_answer (form_malformed u s f))
              (record {
                assignment = λ g. absurd (not_3 g);
                levels = λ g. absurd (not_4 g);
                overlong = λ g. absurd (not_5 g);
                malformed = λ v m. smaller refl (ap form_spot (sym f ∙ malformed_form u v m)) (le_refl 11);
                no_model_lem = λ x o. earlier (omega arith);
                offered = λ xs o. literals_later P 6 11 s (omega arith) xs;
              })
              (result_form P u (length u) a l room levels_room fits f)

          told_7 : form_of u ≡ Err NoModel → CheckTold t u a l
          unfolding form_kind
          told_7 f =
              refused_at NoModelOffered 7 (no_model_offered (form_none u f).1)
              (record {
                assignment = λ g. absurd (not_3 g);
                levels = λ g. absurd (not_4 g);
                overlong = λ g. absurd (not_5 g);
                malformed = λ v m. absurd (omega (arith, ap form_kind (sym f ∙ malformed_form u v m)));
                no_model_lem = λ x o. smaller refl refl (le_refl 12);
                offered = λ xs o. literals_later P 7 12 0 (omega arith) xs;
              })
              (result_form P u (length u) a l room levels_room fits f)

          -- ---- a model

          module _ (e : ℕ) (f : form_of u ≡ Ok e) where
            abbrev vars : ℕ
            vars = var_total P

            abbrev xs : List Spotted
            xs = literals_from u e

            offer : Offers u xs
            offer = form_offers e f

            each_literal : (Z : ℕ → ℕ → ℕ → Type 0) → OfLiterals P xs Z → Each P Z
            unfolding form_kind
            each_literal Z c =
                record {
                  assignment = λ g. absurd (not_3 g);
                  levels = λ g. absurd (not_4 g);
                  overlong = λ g. absurd (not_5 g);
                  malformed = λ v m. absurd (omega (arith, ap form_kind (sym f ∙ malformed_form u v m)));
                  no_model_lem = λ x o. absurd (omega (arith, ap form_kind (sym f ∙ none_form u x o)));
                  offered = λ ys o. subst (λ (zs : List Spotted). OfLiterals P zs Z) (offers_unique offer o) c;
                }

            model_at : (q : CheckRefusal) (p : ℕ) → CheckRow t u a l p (check_number q) (check_spot q) → OfLiterals P xs (NotAfter p (check_number q) (check_spot q))
                → assigned_result (code_of P) u e ≡ check_refused q → CheckTold t u a l
            model_at q p m c w =
                refused_at q p m (each_literal (NotAfter p (check_number q) (check_spot q)) c) (result_form P u (length u) a l room levels_room fits f ∙ w)

            -- the values, from none on
            abbrev bytes : List ℕ
            bytes = assigned_bytes vars xs (no_values vars)

            by_outcome : {o : Outcome} → assigned_of vars xs (no_values vars) ≡ o → assigned_result (code_of P) u e ≡ after_assigning o (completed_result (code_of P) bytes)
            by_outcome w = ap (λ (o : Outcome). after_assigning o (completed_result (code_of P) bytes)) w

            -- ---- rows 13 and 14

            -- the first literal that is not fit, and another one
            unfit_order : (p i : ℕ) → ((j : ℕ) → j < p → Fit vars xs j) → (Fit vars xs i → ⊥) → i < length xs → (r k : ℕ) → (p ≡ i → r ≤ k)
                → NotAfter 8 r (spot_at xs p) 8 k (spot_at xs i)
            unfit_order p i before not h r k g = go (le_or_lt p i)
              where
                on : (p ≡ i) ⊎ (p < i) → NotAfter 8 r (spot_at xs p) 8 k (spot_at xs i)
                on (inl w) = smaller refl (ap (spot_at xs) w) (g w)
                on (inr w) = nearer refl (spots_ascend offer p i w h)

                go : (p ≤ i) ⊎ (i < p) → NotAfter 8 r (spot_at xs p) 8 k (spot_at xs i)
                go (inl w) = on (eq-or-lt_of_le w)
                go (inr w) = absurd (not (before i w))

            stray_unfit : (i : ℕ) → vars < variable_at xs i → Fit vars xs i → ⊥
            stray_unfit i h w = lt_irrefl vars (le_trans h w.0)

            repeated_unfit : (i j : ℕ) → j < i → variable_at xs j ≡ variable_at xs i → Fit vars xs i → ⊥
            repeated_unfit i j h q w = w.1 j h q

            told_13 : (s : ℕ) → assigned_of vars xs (no_values vars) ≡ Outcome.stray s → StrayAt vars xs s → CheckTold t u a l
            told_13 s w m =
                model_at (StrayVariable s) 8 (subst (CheckRow t u a l 8 13) (sym m.spot) (stray_variable P A xs offer m.place m.inside m.above))
                (subst (λ (z : ℕ). OfLiterals P xs (NotAfter 8 13 z)) (sym m.spot)
                (record {
                  stray = λ i h g. unfit_order m.place i m.before (stray_unfit i g) h 13 13 (λ q. le_refl 13);
                  repeated = λ i j h g q. unfit_order m.place i m.before (repeated_unfit i j g q) h 13 14 (λ q. omega arith);
                  false_one = λ j h g n. earlier (omega arith);
                }))
                (by_outcome w)

            told_14 : (s : ℕ) → assigned_of vars xs (no_values vars) ≡ Outcome.repeated s → RepeatedAt vars xs s → CheckTold t u a l
            told_14 s w m =
                model_at (RepeatedVariable s) 8
                (subst (CheckRow t u a l 8 14) (sym m.spot) (repeated_variable P A xs offer m.place m.again.0 m.inside m.again.1 m.again.2))
                (subst (λ (z : ℕ). OfLiterals P xs (NotAfter 8 14 z)) (sym m.spot)
                (record {
                  stray = λ i h g.
                      unfit_order m.place i m.before (stray_unfit i g) h 14 13
                      (λ q. absurd (lt_irrefl vars (le_trans (subst (λ (k : ℕ). vars < variable_at xs k) (sym q) g) m.within)));
                  repeated = λ i j h g q. unfit_order m.place i m.before (repeated_unfit i j g q) h 14 14 (λ q. le_refl 14);
                  false_one = λ j h g n. earlier (omega arith);
                }))
                (by_outcome w)

            module _ (done : assigned_of vars xs (no_values vars) ≡ Outcome.done) (fit : AllFit vars xs) where
              -- ---- row 16

              abbrev ys : List Bool
              ys = values_of vars xs

              bytes_are : completed bytes ≡ value_bytes ys
              bytes_are = values_alone vars xs (offers_named offer) fit

              unset_are : unset_count vars bytes ≡ assumed_number P xs
              unset_are =
                  subst (λ (b : List ℕ). unset_count vars (assigned_bytes vars xs b) ≡ assumed_number P xs) (filled_none vars 2)
                  (unset_unnamed vars xs (offers_named offer) fit [])

              judged_are : assigned_result (code_of P) u e ≡ values_judged (code_of P) (assumed_number P xs) (value_bytes ys)
              judged_are = by_outcome done ∙ ap₂ (values_judged (code_of P)) unset_are bytes_are

              falses : FirstFalse P (values_in P xs) (code_first_false (code_of P) (value_bytes ys))
              falses = first_false P ys

              told_16 : 0 < code_first_false (code_of P) (value_bytes ys) → CheckTold t u a l
              told_16 h =
                  model_at (FalseClause (code_first_false (code_of P) (value_bytes ys))) 9
                  (false_clause P A xs offer (code_first_false (code_of P) (value_bytes ys)) h falses.within (falses.is_false_lem h))
                  (record {
                    stray = λ i h g. absurd (stray_unfit i g (fit i h));
                    repeated = λ i j h g q. absurd (repeated_unfit i j g q (fit i h));
                    false_one = λ j h g n. order j h n (le_or_lt (code_first_false (code_of P) (value_bytes ys)) j);
                  })
                  (judged_are ∙ judged_16 (code_of P) (assumed_number P xs) (value_bytes ys) h)
                where
                  on : (j : ℕ) → (code_first_false (code_of P) (value_bytes ys) ≡ j) ⊎ (code_first_false (code_of P) (value_bytes ys) < j) → NotAfter 9 16 (code_first_false (code_of P) (value_bytes ys)) 9 16 j
                  on j (inl w) = smaller refl w (le_refl 16)
                  on j (inr w) = nearer refl w

                  order : (j : ℕ) → 0 < j → clause_true (values_in P xs) (clause_of P j) ≡ false → (code_first_false (code_of P) (value_bytes ys) ≤ j) ⊎ (j < code_first_false (code_of P) (value_bytes ys))
                      → NotAfter 9 16 (code_first_false (code_of P) (value_bytes ys)) 9 16 j
                  order j h n (inl w) = on j (eq-or-lt_of_le w)
                  order j h n (inr w) = absurd (false≢true (sym n ∙ falses.true_before j h w))

              told_shown : code_first_false (code_of P) (value_bytes ys) ≤ 0 → CheckTold t u a l
              told_shown h =
                  shown P xs
                  (record {
                    admitted = A;
                    offers = offer;
                    fit = fit;
                    each_true_lem = falses.all_true_lem h;
                    room = room;
                    levels_room = levels_room;
                    not_overlong = fits;
                  })
                  (result_is ∙ result_form P u (length u) a l room levels_room fits f ∙ judged_are ∙ judged_none (code_of P) (assumed_number P xs) (value_bytes ys) h
                  ∙ ap (Result.accepted (assumed_number P xs) (value_bytes ys)) (counters_same (sizes P (width P.atoms)) ys))

              told_done : CheckTold t u a l
              told_done = go (le_or_lt (code_first_false (code_of P) (value_bytes ys)) 0)
                where
                  go : (code_first_false (code_of P) (value_bytes ys) ≤ 0) ⊎ (0 < code_first_false (code_of P) (value_bytes ys)) → CheckTold t u a l
                  go (inl h) = told_shown h
                  go (inr h) = told_16 h

            told_model : CheckTold t u a l
            told_model =
                go (assigned_of vars xs (no_values vars)) refl
                (subst (λ (b : List ℕ). Meant vars xs (assigned_of vars xs b)) (filled_none vars 2) (meant vars xs [] (offers_named offer)))
              where
                go : (o : Outcome) → assigned_of vars xs (no_values vars) ≡ o → Meant vars xs o → CheckTold t u a l
                go o w (Meant.all_fit g) = told_done w g
                go o w (Meant.stray_at s m) = told_13 s w m
                go o w (Meant.repeated_at s m) = told_14 s w m

          told_form : CheckTold t u a l
          told_form = go (form_of u) refl
            where
              go : (x : Formed) → form_of u ≡ x → CheckTold t u a l
              go (Err (FormMalformed s)) f = told_6 s f
              go (Err NoModel) f = told_7 f
              go (Ok e) f = told_model e f

    told_admitted : CheckTold t u a l
    told_admitted = assignment_told (le_or_lt (var_total P) a)
      where
        length_told : (h : var_total P ≤ a) (g : P.atoms ≤ l) → (length u ≤ 65536) ⊎ (65536 < length u) → CheckTold t u a l
        length_told h g (inl f) = told_form h g f
        length_told h g (inr f) = told_5 h g f

        levels_told : (h : var_total P ≤ a) → (P.atoms ≤ l) ⊎ (l < P.atoms) → CheckTold t u a l
        levels_told h (inl g) = length_told h g (le_or_lt (length u) 65536)
        levels_told h (inr g) = told_4 h g

        assignment_told : (var_total P ≤ a) ⊎ (a < var_total P) → CheckTold t u a l
        assignment_told (inl h) = levels_told h (le_or_lt P.atoms l)
        assignment_told (inr h) = told_3 h

    -- an answer that shows a model meets no row
    pub shows_none : (xs : List Spotted) → Shows t u a l P xs → (p r s : ℕ) → CheckRow t u a l p r s → ⊥
    shows_none xs S = each_row (λ p r s. ⊥) (every (offers_form S.offers))
      where
        every : form_of u ≡ Ok (status_end S.offers.before) → Each P (λ p r s. ⊥)
        every f =
            each_literal S.room S.levels_room S.not_overlong (status_end S.offers.before) f (λ p r s. ⊥)
            (subst (λ (zs : List Spotted). OfLiterals P zs (λ p r s. ⊥)) (offers_unique S.offers (form_offers (status_end S.offers.before) f))
            (record {
              stray = λ i h g. lt_irrefl (var_total P) (le_trans g (S.fit i h).0);
              repeated = λ i j h g q. (S.fit i h).1 j g q;
              false_one = λ j h g n. false≢true (sym n ∙ S.each_true_lem j h g);
            }))

  -- ---- a refused text

  module _ (x : TextRefusal) (v : (read_of t).verdict ≡ Err x) where
    text_row : FirstRow t (text_number x) (text_spot x)
    text_row = refused_row t x v

    abbrev Z : ℕ → ℕ → ℕ → Type 0
    Z = NotAfter (rank (text_number x)) (text_number x) (text_spot x)

    low : rank (text_number x) < 3
    low = rank_low (text_number x)

    text_order : (k s : ℕ) → NoLaterBy rank (text_number x) (text_spot x) k s → Z (rank k) k s
    text_order k s (NoLaterBy.ranked h) = earlier h
    text_order k s (NoLaterBy.nearer e h) = nearer e h
    text_order k s (NoLaterBy.smaller e f h) = smaller e f h

    text_first : (p r s : ℕ) → CheckRow t u a l p r s → Z p r s
    text_first p r s (of_text ρ) = text_order r s (text_row.first r s ρ)
    text_first p r s (short_assignment P A h) = absurd (refused_admits_none t x v P A)
    text_first p r s (short_levels P A h) = absurd (refused_admits_none t x v P A)
    text_first p r s (overlong_answer h) = earlier (omega (arith, low))
    text_first p r s (malformed_answer m) = earlier (omega (arith, low))
    text_first p r s (no_model_offered o) = earlier (omega (arith, low))
    text_first p r s (stray_variable P A xs o i h g) = absurd (refused_admits_none t x v P A)
    text_first p r s (repeated_variable P A xs o i j h g e) = absurd (refused_admits_none t x v P A)
    text_first p r s (false_clause P A xs o j h g e) = absurd (refused_admits_none t x v P A)

    told_text : CheckTold t u a l
    unfolding check_of
    told_text =
        at_row (Text x) (record { place = rank (text_number x); met = of_text text_row.met; first = text_first })
        (ap (λ (w : ReadVerdict). check_after_reading w (check_result (code_of (program_read (read_of t))) u (length u) a l)) v)

  pub check_told : CheckTold t u a l
  check_told = go (read_of t).verdict refl
    where
      go : (x : ReadVerdict) → (read_of t).verdict ≡ x → CheckTold t u a l
      go (Ok u) e = let w = accepted_admitted t e in told_admitted w.0 w.1
      go (Err x) e = told_text x e

  -- ---- exactly

  pub first_check_unique : (r s k v : ℕ) → FirstCheckRow t u a l r s → FirstCheckRow t u a l k v → (r ≡ k) × (s ≡ v)
  first_check_unique = first_one (CheckRow t u a l)

  refused_answer : (q : CheckRefusal) → check_of t u a l ≡ check_refused q → check_answer t u a l ≡ Err q
  unfolding check_answer
  refused_answer q e = ap (check_verdict_of (program_read (read_of t)).atoms) e

  -- what a model is answered with
  pub shown_answer : (P : Program) (xs : List Spotted) → Admitted t P → check_of t u a l ≡ shown_result P xs
      → check_answer t u a l ≡ model_shown (true_number P xs) (highest P.atoms (levels_of P xs)) (assumed_number P xs)
  unfolding check_answer
  shown_answer P xs A e =
      ap₂ (λ (n : ℕ) (x : Result CheckRefusal). check_verdict_of n x) (ap (λ (X : Program). X.atoms) (program_is P A)) e
      ∙ ap₂ (λ (k h : ℕ). model_shown k h (assumed_number P xs)) (count_same P.atoms (values_of (var_total P) xs)) (levels_same P.atoms (levels_of P xs))

  -- an answer is a refusal or it is not
  verdicts : (q : CheckRefusal) (k h c : ℕ) → check_answer t u a l ≡ Err q → check_answer t u a l ≡ model_shown k h c → ⊥
  verdicts q k h c e f = true≢false (ap is_refused (sym e ∙ f))
    where
      is_refused : CheckVerdict → Bool
      is_refused (Err r) = true
      is_refused (Ok x) = false

  -- it has one refusal
  same_refusal : (q x : CheckRefusal) → check_of t u a l ≡ check_refused q → check_answer t u a l ≡ Err x → q ≡ x
  same_refusal q x e f = ap refusal_in (sym (refused_answer q e) ∙ f)
    where
      refusal_in : CheckVerdict → CheckRefusal
      refusal_in (Err r) = r
      refusal_in (Ok x) = NoModelOffered

  told_answers : (q : CheckRefusal) → check_of t u a l ≡ check_refused q → CheckAnswers t u a l (check_number q) (check_spot q)
  told_answers q e = record { refusal = q; answer_is = refused_answer q e; row_is = refl; spot_is = refl }

  pub answers_refusal : (r s : ℕ) (w : CheckAnswers t u a l r s) → check_of t u a l ≡ check_refused w.refusal
  answers_refusal r s w = go check_told
    where
      go : CheckTold t u a l → check_of t u a l ≡ check_refused w.refusal
      go (at_row q f e) = e ∙ ap check_refused (same_refusal q w.refusal e w.answer_is)
      go (shown P xs S e) = absurd (verdicts w.refusal _ _ _ w.answer_is (shown_answer P xs S.admitted e))

  pub answers_check_first : (r s : ℕ) → CheckAnswers t u a l r s → FirstCheckRow t u a l r s
  answers_check_first r s w = go check_told
    where
      go : CheckTold t u a l → FirstCheckRow t u a l r s
      go (at_row q f e) =
          let i = same_refusal q w.refusal e w.answer_is in
          subst (FirstCheckRow t u a l r) (ap check_spot i ∙ w.spot_is) (subst (λ (z : ℕ). FirstCheckRow t u a l z (check_spot q)) (ap check_number i ∙ w.row_is) f)
      go (shown P xs S e) = absurd (verdicts w.refusal _ _ _ w.answer_is (shown_answer P xs S.admitted e))

  pub first_check_answers : (r s : ℕ) → FirstCheckRow t u a l r s → CheckAnswers t u a l r s
  first_check_answers r s f = go check_told
    where
      go : CheckTold t u a l → CheckAnswers t u a l r s
      go (at_row q g e) =
          let w = first_check_unique (check_number q) (check_spot q) r s g f in
          subst (CheckAnswers t u a l r) w.1 (subst (λ (z : ℕ). CheckAnswers t u a l z (check_spot q)) w.0 (told_answers q e))
      go (shown P xs S e) = absurd (shows_none P S.admitted xs S f.place r s f.met)

  pub model_offers : (k h c : ℕ) → check_answer t u a l ≡ model_shown k h c → (P : Program) × (xs : List Spotted) × Shows t u a l P xs
  model_offers k h c w = go check_told
    where
      go : CheckTold t u a l → (P : Program) × (xs : List Spotted) × Shows t u a l P xs
      go (at_row q f e) = absurd (verdicts q k h c (refused_answer q e) w)
      go (shown P xs S e) = (P, xs, S)

  pub model_none : (k h c : ℕ) → check_answer t u a l ≡ model_shown k h c → (p r s : ℕ) → CheckRow t u a l p r s → ⊥
  model_none k h c w = let m = model_offers k h c w in shows_none m.0 m.2.admitted m.1 m.2

  -- an answer that shows a model is accepted, with it
  pub shows_result : (P : Program) (xs : List Spotted) → Shows t u a l P xs → check_of t u a l ≡ shown_result P xs
  shows_result P xs S = go check_told
    where
      go : CheckTold t u a l → check_of t u a l ≡ shown_result P xs
      go (at_row q f e) = absurd (shows_none P S.admitted xs S f.place (check_number q) (check_spot q) f.met)
      go (shown Q ys T e) = e ∙ ap₂ shown_result (same P S.admitted Q T.admitted) (offers_unique T.offers S.offers)

  pub none_model : ((p r s : ℕ) → CheckRow t u a l p r s → ⊥) → Accepts t u a l
  none_model none = go check_told
    where
      go : CheckTold t u a l → Accepts t u a l
      go (at_row q f e) = absurd (none f.place (check_number q) (check_spot q) f.met)
      go (shown P xs S e) = (true_number P xs, highest P.atoms (levels_of P xs), assumed_number P xs, shown_answer P xs S.admitted e)

  -- an answer that names no variable above V and none twice
  module _ (P : Program) (xs : List Spotted) (A : Admitted t P) (o : Offers u xs) (fits : length u ≤ 65536) (fit : AllFit (var_total P) xs) (room : var_total P ≤ a) (levels_room : P.atoms ≤ l) where
    pub true_accepted : EachTrue P xs → Accepts t u a l
    true_accepted f =
        none_model (shows_none P A xs (record { admitted = A; offers = o; fit = fit; each_true_lem = f; room = room; levels_room = levels_room; not_overlong = fits }))

    pub accepted_true : (k h c : ℕ) → check_answer t u a l ≡ model_shown k h c → EachTrue P xs
    accepted_true k h c w = go (model_offers k h c w)
      where
        go : ((Q : Program) × (ys : List Spotted) × Shows t u a l Q ys) → EachTrue P xs
        go (Q, ys, S) = subst (λ (X : Program). EachTrue X xs) (same P A Q S.admitted) (subst (EachTrue Q) (offers_unique S.offers o) S.each_true_lem)
