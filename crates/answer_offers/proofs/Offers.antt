-- Each list of values is the assignment of an answer text (document 01, "Solver answer", "Check and filling out").
--   offered_proper, offered_form   the answer of the values bs is proper, so its text has the form
--   offered_length, offered_fits   at most 6 bytes for each of at most 9,890 variables, and 18: within 65,536
--   offered_is, offered_model      it is a model, whose status line ends at 13
--   offered_spots, offered_literals   its literals are read where they stand, and they are `literals_for bs`
--   offered_fit                    none is stray or repeated
--   offered_named                  each variable is named
--   offered_values                 the values that they give are bs
-- Assumes nothing.
use Prim.Native.Nat.{ℕ, zero, suc, ◌+◌, ◌*◌, ◌≤◌, ◌<◌}
use native.Mathlib.Omega.{arith}
use mathlib.Core.Path.{◌≡◌, refl, sym, ◌∙◌, ap, subst}
use mathlib.Core.Bool.{Bool, true, false, not, So}
use mathlib.Core.List.{List, [], ◌∷◌, ◌++◌, append-nil}
use lib.ListN.{length, get_or, length-append, length-map}
use borrow.Author.Tests.{lt-ltb}
use Rattle.lists.specs.Ascii.{ascii}
use Rattle.lists.proofs.Bools.{and_in}
use Rattle.lists.proofs.Tests.{all_in}
use Rattle.lists.proofs.Tables.{length_tab, get_or_tab, get_d_map}
use Rattle.encoding.specs.Literal.{Literal, literal_number, variable, Assignment, value_of, literal_true}
use Rattle.encoding.proofs.Literals.{number_size}
use Literal.{var}
use Rattle.digits.specs.Bytes.{literal_text, literals_text}
use Rattle.digits.proofs.Lengths.{word_length, literal_fits, literals_fit}
use Rattle.answer_form.specs.Answer.{named, proper, spaced_text, satisfiable_text, answer_text, literals_of, HasAnswerForm}
use Rattle.answer_form.specs.Pieces.{Spotted, spots_of}
use Rattle.answer_form.proofs.PieceLaws.{reads_model, literals_at, spots_literals}
use Rattle.std.specs.Prelude.{Ok}
use Rattle.answer_reader.specs.Results.{form_of}
use Rattle.answer_form.specs.Pieces.{OffersModel}
use Rattle.answer_reader.proofs.Promised.{model_form}
use Rattle.answer_values.specs.Assign.{literals_from, nobody, literal_at, variable_at, Named}
use Rattle.answer_values.proofs.Taking.{literals_read}
use Rattle.answer_values.specs.Rows.{AllFit}
use Rattle.answer_values.proofs.Rows.{literals_named}
use Rattle.answer_offers.specs.Offered.{value_literal, literals_for, offered, offered_text, values_of, Completes}
use Rattle.answer_offers.proofs.Values.{values_unique}

-- ---- one literal

variable_is : (x : Bool) (v : ℕ) → variable (value_literal x v) ≡ v
variable_is true v = refl
variable_is false v = refl

literal_true_lem : (A : Assignment) (v : ℕ) → So (literal_true A (value_literal (A v) v))
literal_true_lem A v = go (A v) refl
  where
    go : (x : Bool) → A v ≡ x → So (literal_true A (value_literal x v))
    go true e = e
    go false e = ap not e

-- one space before each literal, or after it
spaced_length : (ls : List Literal) → length (spaced_text ls) ≡ length (literals_text ls)
spaced_length [] = refl
spaced_length (l ∷ ls) =
    omega (
      arith,
      spaced_length ls,
      length-append (literal_text (literal_number l)) (spaced_text ls),
      length-append (literal_text (literal_number l) ++ (32 ∷ [])) (literals_text ls),
      word_length (literal_number l),
    )

module _ (bs : List Bool) where
  for_length : length (literals_for bs) ≡ length bs
  unfolding literals_for
  for_length = length_tab (length bs) _

  for_at : (k : ℕ) → k < length bs → get_or (literals_for bs) k (var 0) ≡ value_literal (value_of bs (suc k)) (suc k)
  unfolding literals_for
  for_at k h = get_or_tab (length bs) (λ v. value_literal (value_of bs v) v) (var 0) k h

  for_variable : (k : ℕ) → k < length (literals_for bs) → variable (get_or (literals_for bs) k (var 0)) ≡ suc k
  for_variable k h = ap variable (for_at k (subst (λ (m : ℕ). k < m) for_length h)) ∙ variable_is (value_of bs (suc k)) (suc k)

  -- ---- its form

  pub offered_proper : So (proper (offered bs))
  unfolding proper
  offered_proper = and_in (all_in named (literals_for bs) (var 0) (λ k h. lt-ltb 0 (variable (get_or (literals_for bs) k (var 0))) (omega (arith, for_variable k h)))) refl

  pub offered_form : HasAnswerForm (offered_text bs)
  unfolding offered_text
  offered_form = record { answer = offered bs; is_proper = offered_proper; its_text = refl }

  -- ---- its length

  text_length : length (offered_text bs) ≡ length (literals_text (literals_for bs)) + 18
  unfolding ascii satisfiable_text answer_text offered_text
  text_length =
      ap (λ (u : List ℕ). length (satisfiable_text ++ (118 ∷ u))) (append-nil (spaced_text (literals_for bs) ++ (32 ∷ 48 ∷ 10 ∷ [])))
      ∙ omega (arith, length-append (spaced_text (literals_for bs)) (32 ∷ 48 ∷ 10 ∷ []), spaced_length (literals_for bs))

  pub offered_length : length bs ≤ 9890 → length (offered_text bs) ≤ length bs * 6 + 18
  offered_length l =
      omega (
        arith,
        text_length,
        for_length,
        literals_fit 6 (var 0) (literals_for bs)
            (λ k h.
            let x = get_or (literals_for bs) k (var 0) in
            omega (arith, literal_fits 3 (literal_number x) (omega (arith, number_size x, for_variable k h, for_length, l, h)))),
      )

  pub offered_fits : length bs ≤ 9890 → length (offered_text bs) ≤ 65536
  offered_fits l = omega (arith, offered_length l, l)

  -- ---- its literals

  pub offered_is : OffersModel (offered_text bs) 13
  unfolding offered_text
  offered_is =
      record {
        before = [];
        lines = [];
        literals = literals_for bs;
        after = [];
        is_proper = offered_proper;
        its_text = refl;
        its_end = refl;
        its_literals = reads_model [] [] (literals_for bs) [] offered_proper;
      }

  pub offered_model : form_of (offered_text bs) ≡ Ok 13
  offered_model = model_form (offered_text bs) 13 offered_is

  abbrev spots : List Spotted
  spots = literals_from (offered_text bs) 13

  pub offered_spots : literals_from (offered_text bs) 13 ≡ spots_of (offered bs)
  unfolding offered_text
  offered_spots = literals_read (offered_text bs) (reads_model [] [] (literals_for bs) [] offered_proper)

  pub offered_literals : literals_at (literals_from (offered_text bs) 13) ≡ literals_for bs
  unfolding literals_of
  offered_literals = ap literals_at offered_spots ∙ spots_literals (offered bs)

  spots_length : length spots ≡ length bs
  spots_length = sym (length-map spots (λ (x : Spotted). x.literal)) ∙ ap (λ (ls : List Literal). length ls) offered_literals ∙ for_length

  spot_at_lem : (k : ℕ) → k < length spots → literal_at spots k ≡ value_literal (value_of bs (suc k)) (suc k)
  spot_at_lem k h =
      sym (get_d_map (λ (x : Spotted). x.literal) spots nobody (var 0) k h) ∙ ap (λ (ls : List Literal). get_or ls k (var 0)) offered_literals
      ∙ for_at k (subst (λ (m : ℕ). k < m) spots_length h)

  spot_variable : (k : ℕ) → k < length spots → variable_at spots k ≡ suc k
  spot_variable k h = ap variable (spot_at_lem k h) ∙ variable_is (value_of bs (suc k)) (suc k)

  pub offered_fit : AllFit (length bs) (literals_from (offered_text bs) 13)
  offered_fit j h = (
    omega (arith, spot_variable j h, spots_length, h),
    λ i l e. omega (arith, l, e, spot_variable i (omega (arith, l, h)), spot_variable j h),
  )

  pub offered_named : (v : ℕ) → 0 < v → v ≤ length bs → Named (literals_from (offered_text bs) 13) v
  offered_named zero p h = absurd (omega (arith, p))
  offered_named (suc v) p h = let inside : v < length spots = omega (arith, spots_length, h) in (v, inside, spot_variable v inside)

  completes : Completes (length bs) spots bs
  completes =
      record {
        sized = refl;
        each_true_lem = λ k h. ap (literal_true (value_of bs)) (spot_at_lem k h) ∙ literal_true_lem (value_of bs) (suc k);
        unnamed_false = λ v p h u. let w = offered_named v p h in absurd (u w.0 w.1 w.2);
      }

  pub offered_values : values_of (length bs) (literals_from (offered_text bs) 13) ≡ bs
  offered_values = sym (values_unique (length bs) spots (literals_named (offered_text bs) 13) offered_fit bs completes)
