-- What the checker prints (document 01, "Programs"; document 02, Q-3), for any program text t and any answer u.
--   checker_refuses   where the check refuses with row r and spot s, the line of these
--   checker_shows     where it accepts, the line of the variables that were assumed, if there are any, and the line of the stable model that the answer's
--                     values give
-- Assumes nothing.
use Prim.Native.Nat.{ℕ, suc, ◌≤◌, ◌<◌}
use native.Mathlib.Omega.{arith}
use mathlib.Core.Path.{◌≡◌, refl, sym, ◌∙◌, ap, ap₂, subst}
use mathlib.Core.Bool.{Bool, ◌&&◌, So, cond}
use mathlib.Core.List.{List, [], ◌∷◌, ◌++◌, map}
use lib.ListN.{length, drop, replicate, length-replicate}
use Rattle.lists.specs.Lists.{select, tab}
use Rattle.lists.proofs.Tables.{each_ext}
use Rattle.meaning.specs.Program.{Program, Atoms, is_atom}
use Rattle.meaning.specs.Stage.{Stable, level}
use Rattle.encoding.specs.Literal.{value_of}
use Rattle.encoding.specs.Fill.{true_atoms}
use Rattle.theory.proofs.Atoms.{is_atom_lem}
use Rattle.reader.specs.Verdict.{read_of}
use Rattle.text.specs.Limits.{Admitted}
use Rattle.answer_form.specs.Pieces.{Spotted}
use Rattle.answer_offers.specs.Offered.{value_bytes, values_of}
use Rattle.clause_walk.proofs.Tabs.{map_select}
use Rattle.fixed_lines.specs.Lines.{refused_text}
use Rattle.truth_clauses.specs.Truth.{value_in}
use Rattle.call_results.specs.Results.{Result, level_byte, assignment_after, levels_after, var_total, program_read}
use Rattle.refusals.specs.declared.CheckRefusal.{CheckRefusal}
use Rattle.call_check_rows.specs.Check.{zeroes, check_verdict_of, check_of, check_answer, check_assignment, check_levels}
use Rattle.call_check_rows.specs.Rows.{CheckAnswers, Shows}
use Rattle.call_check_rows.proofs.Verdicts.{program_is, model_offers}
use Rattle.correspondence.specs.Accepted.{AcceptedAssignment, CheckWrites}
use Rattle.correspondence.proofs.Correspond.{shows_accepted, accepted_true, accepted_stable, check_writes}
use Rattle.correspondence.proofs.Gaps.{value_in_lem, level_in_lem}
use Rattle.checker_model.specs.Model.{model_line, model_text, assumed_text}
use Rattle.checker_output.specs.Output.{checker_verdict_text, checker_output_of, checker_text, PrintsModel}
use Rattle.call_check_rows.specs.Verdict.{CheckVerdict, model_shown}

abbrev zeros : List ℕ
zeros = replicate 9890 0

abbrev no_levels : List ℕ
no_levels = replicate 126 0

zeros_length : length zeros ≡ 9890
zeros_length = length-replicate {A = ℕ} 9890 0

levels_length : length no_levels ≡ 126
levels_length = length-replicate {A = ℕ} 126 0

-- ---- the line of a model

-- the values c and levels m are those of the set M with the levels f
module _ (n : ℕ) (M : Atoms) (f : ℕ → ℕ) (c m : List ℕ) (v : (i : ℕ) → i < n → value_in c (suc i) ≡ M (suc i))
    (l : (i : ℕ) → i < n → level_byte m (suc i) ≡ f (suc i)) where
  line_is : model_text n c m ≡ model_line (select n M) (map f (select n M))
  unfolding model_text
  line_is = ap (λ (xs : List ℕ). model_line xs (map (level_byte m) xs)) atoms_are ∙ ap (model_line (select n M)) levels_are
    where
      atoms_are : select n (value_in c) ≡ select n M
      atoms_are =
          each_ext n (λ i. cond (value_in c i) (i ∷ []) []) (λ i. cond (M i) (i ∷ []) []) (λ i h. ap (λ (b : Bool). cond b (suc i ∷ []) []) (v i h))

      levels_are : map (level_byte m) (select n M) ≡ map f (select n M)
      levels_are =
          map_select (level_byte m) n M
          ∙ each_ext n (λ i. cond (M i) (level_byte m i ∷ []) []) (λ i. cond (M i) (f i ∷ []) []) (λ i h. ap (λ (x : ℕ). cond (M (suc i)) (x ∷ []) []) (l i h))
          ∙ sym (map_select f n M)

-- ---- any text and any answer

module _ (t u : List ℕ) where
  abbrev atoms : ℕ
  atoms = (program_read (read_of t)).atoms

  -- what the call leaves in buffers of zeros
  abbrev vs : List ℕ
  vs = check_assignment t u zeros 126

  abbrev ls : List ℕ
  ls = check_levels t u 9890 no_levels

  by_answer : checker_text t u ≡ checker_verdict_text atoms (check_answer t u 9890 126) vs ls
  unfolding checker_text checker_output_of check_of check_answer check_assignment check_levels
  by_answer =
      ap₂ (λ (x y : Result CheckRefusal).
      checker_verdict_text atoms (check_verdict_of atoms (check_of t u 9890 126)) (assignment_after zeroes (var_total (program_read (read_of t))) x zeros) (levels_after atoms y no_levels))
      (ap (λ (a : ℕ). check_of t u a 126) (sym zeros_length)) (ap (check_of t u 9890) (sym levels_length))

  by_verdict : {v : CheckVerdict} → check_answer t u 9890 126 ≡ v → checker_text t u ≡ checker_verdict_text atoms v vs ls
  by_verdict e = by_answer ∙ ap (λ (v : CheckVerdict). checker_verdict_text atoms v vs ls) e

  pub checker_refuses : (r s : ℕ) → CheckAnswers t u 9890 126 r s → checker_text t u ≡ refused_text r s
  checker_refuses r s w = by_verdict w.answer_is ∙ ap₂ refused_text w.row_is w.spot_is

  -- an answer that shows a model
  module _ (P : Program) (xs : List Spotted) (S : Shows t u 9890 126 P xs) where
    abbrev A : Admitted t P
    A = S.admitted

    abbrev bs : List Bool
    bs = values_of (var_total P) xs

    abbrev M : Atoms
    M = true_atoms P bs

    abbrev X : AcceptedAssignment t P bs
    X = shows_accepted t P A u xs S.offers S

    stable : Stable P M
    stable = (accepted_stable t P A bs X).0

    size : length bs ≡ var_total P
    size = (accepted_true t P A bs X).0

    written : CheckWrites t P bs X zeros no_levels
    written =
        check_writes t P A bs X zeros no_levels
        (record {
          assignment = subst (λ (k : ℕ). var_total P ≤ k) (sym zeros_length) S.room;
          levels = subst (λ (k : ℕ). P.atoms ≤ k) (sym levels_length) S.levels_room;
        })

    values_are : vs ≡ value_bytes bs ++ drop (var_total P) zeros
    values_are = ap (check_assignment t u zeros) (sym levels_length) ∙ written.assignment_is

    levels_are : ls ≡ tab P.atoms (level P M) ++ drop P.atoms no_levels
    levels_are = ap (λ (k : ℕ). check_levels t u k no_levels) (sym zeros_length) ∙ written.levels_are

    is_one : (i : ℕ) → i < P.atoms → So (is_atom P.atoms (suc i))
    is_one i h = is_atom_lem P.atoms (suc i) (omega arith) h

    value_at : (i : ℕ) → i < P.atoms → value_in vs (suc i) ≡ M (suc i)
    value_at i h =
        value_in_lem P A.limits.all_atoms M stable bs size refl (drop (var_total P) zeros) (drop P.atoms no_levels) values_are levels_are (suc i) (is_one i h)
        ∙ sym (ap (λ (b : Bool). b && value_of bs (suc i)) (is_one i h))

    level_at_lem : (i : ℕ) → i < P.atoms → level_byte ls (suc i) ≡ level P M (suc i)
    level_at_lem i h =
        level_in_lem P A.limits.all_atoms M stable bs size refl (drop (var_total P) zeros) (drop P.atoms no_levels) values_are levels_are (suc i) (is_one i h)

    prints : (k h c : ℕ) → check_answer t u 9890 126 ≡ model_shown k h c → PrintsModel t u c
    prints k h c e =
        record {
          program = P;
          admitted = A;
          literals = xs;
          offers = S.offers;
          model = M;
          its_atoms = refl;
          stable = stable;
          lines_are =
              by_verdict e
              ∙ ap (λ (Q : Program). assumed_text c ++ model_text Q.atoms vs ls) (program_is t u 9890 126 P A)
              ∙ ap (λ (x : List ℕ). assumed_text c ++ x) (line_is P.atoms M (level P M) vs ls value_at level_at_lem);
        }

  pub checker_shows : (k h c : ℕ) → check_answer t u 9890 126 ≡ model_shown k h c → PrintsModel t u c
  checker_shows k h c e = let m = model_offers t u 9890 126 k h c e in prints m.0 m.1 m.2 k h c e
