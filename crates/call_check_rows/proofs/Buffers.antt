-- What the check leaves in the two lent buffers b and l.
--   shows_writes         an answer that shows a model is accepted, and this is written
--   model_writes         whatever is accepted, this is written
--   assumed_rest         the number of variables that were assumed and that of the literals make up V
--   refused_zeroes       refused with row 13, 14 or 16: the values are zeros
--   refused_keeps        refused with another row: the assignment stays
--   refused_levels       refused: the levels stay
--   never_15             no check refuses with row 15
-- Assumes nothing.
use Prim.Native.Nat.{ℕ, ◌+◌, ◌≤◌, ◌<◌}
use native.Mathlib.Omega.{arith}
use mathlib.Core.Path.{◌≡◌, refl, sym, ◌∙◌, ap, ap₂, subst}
use mathlib.Core.Bool.{Bool, true, false, cond}
use mathlib.Core.List.{List, ◌++◌}
use lib.ListN.{length, drop}
use Rattle.lists.specs.Lists.{tab, highest}
use Rattle.meaning.specs.Program.{Program}
use Rattle.refusals.specs.declared.TextRefusal.{TextRefusal}
use Rattle.refusals.specs.declared.TextRefusal.TheVariants as Refusal
use Rattle.reader.specs.Verdict.{read_of}
use Rattle.refusals.specs.Numbers.{text_number}
use Rattle.text.specs.Limits.{Admitted}
use Rattle.reader_laws.proofs.Rows.{row_few}
use Rattle.answer_form.specs.Pieces.{Spotted}
use Rattle.answer_bytes.specs.Bytes.{overwritten}
use Rattle.answer_values.proofs.Rows.{unnamed_rest}
use Rattle.answer_offers.specs.Offered.{value_bytes, values_of}
use Rattle.call_results.specs.Results.{Result, assignment_after, levels_after, var_total, program_read}
use Rattle.refusals.specs.declared.CheckRefusal.{CheckRefusal}
use Rattle.refusals.specs.declared.CheckRefusal.TheVariants.{Text, ShortBuffer, OverlongAnswer, MalformedAnswer, NoModelOffered, StrayVariable, RepeatedVariable, FalseClause}
use Rattle.refusals.specs.Numbers.{check_number}
use Rattle.call_check_rows.specs.Check.{zeroes, check_refused, check_of, check_answer, check_assignment, check_levels}
use Rattle.call_check_rows.specs.Rows.{Offers, assumed_number, true_number, levels_of, CheckRow, of_text, short_assignment, short_levels, overlong_answer, malformed_answer, no_model_offered, stray_variable, repeated_variable, false_clause, CheckAnswers, Shows, ModelWritten}
use Rattle.call_check_rows.proofs.Spots.{offers_named}
use Rattle.call_check_rows.proofs.Verdicts.{shown_result, program_is, shown_answer, shows_result, model_offers, answers_refusal, answers_check_first}
use Rattle.call_check_rows.specs.Verdict.{CheckVerdict, model_shown}
use Rattle.std.specs.Prelude.{Err, Ok}

-- ---- which refusals leave zeros

-- the reader's rows
text_few : (q : TextRefusal) → text_number q ≤ 7
text_few (Refusal.Overlong s) = omega arith
text_few (Refusal.Malformed s) = omega arith
text_few (Refusal.TooManyAtoms s) = omega arith
text_few (Refusal.UnknownAtom s) = omega arith
text_few (Refusal.Unordered s) = omega arith
text_few (Refusal.TooManyRules s) = omega arith
text_few (Refusal.BodiesFull s) = omega arith

zeroes_from_13 : (q : CheckRefusal) → 13 ≤ check_number q → zeroes q ≡ true
zeroes_from_13 (Text x) h = absurd (omega (arith, h, text_few x))
zeroes_from_13 (ShortBuffer v) h = absurd (omega (arith, h))
zeroes_from_13 (OverlongAnswer v) h = absurd (omega (arith, h))
zeroes_from_13 (MalformedAnswer v) h = absurd (omega (arith, h))
zeroes_from_13 NoModelOffered h = absurd (omega (arith, h))
zeroes_from_13 (StrayVariable v) h = refl
zeroes_from_13 (RepeatedVariable v) h = refl
zeroes_from_13 (FalseClause v) h = refl

keeps_below_13 : (q : CheckRefusal) → check_number q < 13 → zeroes q ≡ false
keeps_below_13 (Text x) h = refl
keeps_below_13 (ShortBuffer v) h = refl
keeps_below_13 (OverlongAnswer v) h = refl
keeps_below_13 (MalformedAnswer v) h = refl
keeps_below_13 NoModelOffered h = refl
keeps_below_13 (StrayVariable v) h = absurd (omega (arith, h))
keeps_below_13 (RepeatedVariable v) h = absurd (omega (arith, h))
keeps_below_13 (FalseClause v) h = absurd (omega (arith, h))

not_15 : (q : CheckRefusal) → check_number q ≡ 15 → ⊥
not_15 (Text x) e = omega (arith, e, text_few x)
not_15 (ShortBuffer v) e = omega (arith, e)
not_15 (OverlongAnswer v) e = omega (arith, e)
not_15 (MalformedAnswer v) e = omega (arith, e)
not_15 NoModelOffered e = omega (arith, e)
not_15 (StrayVariable v) e = omega (arith, e)
not_15 (RepeatedVariable v) e = omega (arith, e)
not_15 (FalseClause v) e = omega (arith, e)

pub never_15 : (t u : List ℕ) (a l s : ℕ) → CheckAnswers t u a l 15 s → ⊥
never_15 t u a l s w = not_15 w.refusal w.row_is

-- the three numbers of an accepting verdict
abbrev pub count_in : CheckVerdict → ℕ
count_in (Ok x) = x.atoms
count_in (Err r) = 0

abbrev pub highest_in : CheckVerdict → ℕ
highest_in (Ok x) = x.highest
highest_in (Err r) = 0

abbrev pub assumed_in : CheckVerdict → ℕ
assumed_in (Ok x) = x.assumed
assumed_in (Err r) = 0

module _ (t u b l : List ℕ) where
  -- ---- accepted

  module _ (P : Program) (xs : List Spotted) (S : Shows t u (length b) (length l) P xs) where
    result : check_of t u (length b) (length l) ≡ shown_result P xs
    result = shows_result t u (length b) (length l) P xs S

    its_program : program_read (read_of t) ≡ P
    its_program = program_is t u (length b) (length l) P S.admitted

    answer : check_answer t u (length b) (length l) ≡ model_shown (true_number P xs) (highest P.atoms (levels_of P xs)) (assumed_number P xs)
    answer = shown_answer t u (length b) (length l) P xs S.admitted result

    assignment : check_assignment t u b (length l) ≡ value_bytes (values_of (var_total P) xs) ++ drop (var_total P) b
    unfolding check_assignment
    assignment = ap₂ (λ (X : Program) (x : Result CheckRefusal). assignment_after zeroes (var_total X) x b) its_program result

    levels : check_levels t u (length b) l ≡ tab P.atoms (levels_of P xs) ++ drop P.atoms l
    unfolding check_levels
    levels = ap₂ (λ (X : Program) (x : Result CheckRefusal). levels_after X.atoms x l) its_program result

    written : (k h c : ℕ) → check_answer t u (length b) (length l) ≡ model_shown k h c → ModelWritten t u b l P xs k h c
    written k h c w =
        record {
          count_is = ap count_in (sym w ∙ answer);
          highest_is = ap highest_in (sym w ∙ answer);
          assumed_is = ap assumed_in (sym w ∙ answer);
          assignment_is = assignment;
          levels_are = levels;
        }

    pub shows_writes : (k : ℕ) × (h : ℕ) × (c : ℕ) × (check_answer t u (length b) (length l) ≡ model_shown k h c) × ModelWritten t u b l P xs k h c
    shows_writes = (_, _, _, answer, written _ _ _ answer)

  pub model_writes : (k h c : ℕ) → check_answer t u (length b) (length l) ≡ model_shown k h c
      → (P : Program) × (xs : List Spotted) × Shows t u (length b) (length l) P xs × ModelWritten t u b l P xs k h c
  model_writes k h c w = go (model_offers t u (length b) (length l) k h c w)
    where
      go : ((P : Program) × (xs : List Spotted) × Shows t u (length b) (length l) P xs)
          → (P : Program) × (xs : List Spotted) × Shows t u (length b) (length l) P xs × ModelWritten t u b l P xs k h c
      go (P, xs, S) = (P, xs, S, written P xs S k h c w)

  pub assumed_rest : (k h c : ℕ) → check_answer t u (length b) (length l) ≡ model_shown k h c
      → (P : Program) × (xs : List Spotted) × Admitted t P × Offers u xs × (c + length xs ≡ var_total P)
  assumed_rest k h c w = go (model_writes k h c w)
    where
      go : ((P : Program) × (xs : List Spotted) × Shows t u (length b) (length l) P xs × ModelWritten t u b l P xs k h c)
          → (P : Program) × (xs : List Spotted) × Admitted t P × Offers u xs × (c + length xs ≡ var_total P)
      go (P, xs, S, W) =
          (P, xs, S.admitted, S.offers, ap (λ (x : ℕ). x + length xs) W.assumed_is ∙ unnamed_rest (var_total P) xs (offers_named S.offers) S.fit)

  -- ---- refused

  module _ (r s : ℕ) (w : CheckAnswers t u (length b) (length l) r s) where
    refused : check_of t u (length b) (length l) ≡ check_refused w.refusal
    refused = answers_refusal t u (length b) (length l) r s w

    left : check_assignment t u b (length l) ≡ cond (zeroes w.refusal) (overwritten (var_total (program_read (read_of t))) 0 b) b
    unfolding check_assignment
    left = ap (λ (x : Result CheckRefusal). assignment_after zeroes (var_total (program_read (read_of t))) x b) refused

    pub refused_levels : check_levels t u (length b) l ≡ l
    unfolding check_levels
    refused_levels = ap (λ (x : Result CheckRefusal). levels_after (program_read (read_of t)).atoms x l) refused

    -- the text is admitted wherever row 13 or a later one is met
    admitted_from_13 : (p k v : ℕ) → CheckRow t u (length b) (length l) p k v → 13 ≤ k → (P : Program) × Admitted t P
    admitted_from_13 p k v (of_text ρ) h = absurd (omega (arith, h, row_few t k v ρ))
    admitted_from_13 p k v (short_assignment P A g) h = (P, A)
    admitted_from_13 p k v (short_levels P A g) h = (P, A)
    admitted_from_13 p k v (overlong_answer g) h = absurd (omega (arith, h))
    admitted_from_13 p k v (malformed_answer m) h = absurd (omega (arith, h))
    admitted_from_13 p k v (no_model_offered o) h = absurd (omega (arith, h))
    admitted_from_13 p k v (stray_variable P A xs o i g f) h = (P, A)
    admitted_from_13 p k v (repeated_variable P A xs o i j g f e) h = (P, A)
    admitted_from_13 p k v (false_clause P A xs o j g f e) h = (P, A)

    pub refused_keeps : r < 13 → check_assignment t u b (length l) ≡ b
    refused_keeps h =
        left ∙ ap (λ (d : Bool). cond d (overwritten (var_total (program_read (read_of t))) 0 b) b) (keeps_below_13 w.refusal (subst (λ (k : ℕ). k < 13) (sym w.row_is) h))

    pub refused_zeroes : 13 ≤ r → (P : Program) × Admitted t P × (check_assignment t u b (length l) ≡ overwritten (var_total P) 0 b)
    refused_zeroes h = go (admitted_from_13 _ r s (answers_check_first t u (length b) (length l) r s w).met h)
      where
        go : ((P : Program) × Admitted t P) → (P : Program) × Admitted t P × (check_assignment t u b (length l) ≡ overwritten (var_total P) 0 b)
        go (P, A) = (
          P,
          A,
          left ∙ ap (λ (d : Bool). cond d (overwritten (var_total (program_read (read_of t))) 0 b) b) (zeroes_from_13 w.refusal (subst (λ (k : ℕ). 13 ≤ k) (sym w.row_is) h))
              ∙ ap (λ (X : Program). overwritten (var_total X) 0 b) (program_is t u (length b) (length l) P A),
        )
