-- Levels without gaps (document 02, Q-6), in the bytes that an accepted call writes.
--   value_in_lem, level_in_lem  the values and level numbers of a stable model, read from the bytes of two buffers
--   gaps_written   so these have no gap
--   check_gaps     so of every check that accepts
--   fill_gaps      and of every filling out that accepts
-- Assumes nothing.
use Prim.Native.Nat.{ℕ, suc}
use native.Mathlib.Omega.{arith}
use mathlib.Core.Path.{◌≡◌, refl, sym, ◌∙◌, ap, subst}
use mathlib.Core.Bool.{Bool, So, cond}
use mathlib.Core.List.{List, ◌++◌}
use lib.ListN.{length, drop, length-map}
use Rattle.lists.specs.Lists.{tab, sum, highest}
use Rattle.lists.proofs.Bools.{and_in, and_left, and_right}
use Rattle.meaning.specs.Program.{Program, Atoms, is_atom, well_formed}
use Rattle.meaning.specs.Stage.{Stable, level}
use Rattle.meaning.specs.Gaps.{WithoutGaps}
use Rattle.encoding.specs.Width.{width}
use Rattle.encoding.specs.Code.{code_of}
use Rattle.encoding.specs.Literal.{value_of}
use Rattle.encoding.specs.Fill.{fill, true_atoms}
use Rattle.theory.proofs.Atoms.{by_place}
use Rattle.theory.proofs.Base as Base
use Rattle.theory.proofs.Widths.{width_enough}
use Rattle.theory.proofs.Whole.{variables_whole}
use Rattle.text.specs.Limits.{Admitted}
use Rattle.answer_form.specs.Pieces.{Spotted}
use Rattle.answer_offers.specs.Offered.{value_bytes, values_of}
use Rattle.truth_clauses.specs.Truth.{value_in}
use Rattle.level_lists.specs.Bytes.{set_in}
use Rattle.call_results.specs.Results.{level_byte, var_total}
use Rattle.call_results.proofs.ValueBytes.{value_same, atoms_within, value_here, level_here}
use Rattle.call_check_rows.specs.Check.{check_answer, check_assignment, check_levels}
use Rattle.call_check_rows.specs.Rows.{Shows}
use Rattle.call_check_rows.proofs.Verdicts.{model_offers}
use Rattle.call_check_rows.proofs.Buffers.{count_in, highest_in}
use Rattle.call_fill_rows.specs.FillOut.{fill_answer, fill_assignment, fill_levels}
use Rattle.call_fill_rows.specs.Rows.{Fills}
use Rattle.call_fill_rows.proofs.Written.{fill_accepted}
use Rattle.correspondence.proofs.Correspond.{shows_accepted, accepted_true, accepted_stable, check_writes}
use Rattle.call_check_rows.specs.Verdict.{model_shown}
use Rattle.call_fill_rows.specs.Verdict.{filled_out}

-- bs are the values of the stable model M: c holds them and m the level numbers, and after them any bytes
module _ (P : Program) (form : So (well_formed P)) (M : Atoms) (σ : Stable P M) (bs : List Bool) (size : length bs ≡ var_total P) (has : true_atoms P bs ≡ M) where
  abbrev n : ℕ
  n = P.atoms

  module _ {c m : List ℕ} (x y : List ℕ) (values_are : c ≡ value_bytes bs ++ x) (levels_are : m ≡ tab n (level P M) ++ y) where
    pub value_in_lem : (a : ℕ) → So (is_atom n a) → value_in c a ≡ value_of bs a
    value_in_lem =
        by_place n (λ a. value_in c a ≡ value_of bs a)
        (λ a h. ap (λ (vs : List ℕ). value_in vs (suc a)) values_are
        ∙ value_here (value_bytes bs) x a (omega (arith, h, atoms_within (code_of P), size, length-map {B = ℕ} bs (λ b. cond b 1 0))) ∙ value_same bs (suc a))

    pub level_in_lem : (a : ℕ) → So (is_atom n a) → level_byte m a ≡ level P M a
    level_in_lem a i = ap (λ (ls : List ℕ). level_byte ls a) levels_are ∙ level_here n (level P M) y a i

    gaps_written : {k h : ℕ} → k ≡ sum n (λ a. cond (M a) 1 0) → h ≡ highest n (level P M) → WithoutGaps (set_in n c) (level_byte m) k h
    gaps_written {k} {h} count_is highest_is =
        record { each_level = λ i p l. at i (g.each_level i p (omega (arith, l, highest_is))); at_most = omega (arith, count_is, highest_is, g.at_most) }
      where
        g : WithoutGaps M (level P M) (sum n (λ a. cond (M a) 1 0)) (highest n (level P M))
        g = Base.level_gaps P form M σ

        at : (i : ℕ) → (a : ℕ) × So (M a) × (level P M a ≡ i) → (a : ℕ) × So (set_in n c a) × (level_byte m a ≡ i)
        at i (a, t, e) =
            let u = subst (λ (X : Atoms). So (X a)) (sym has) t in
            let v = and_left (is_atom n a) (value_of bs a) u in
            (a, and_in v (value_in_lem a v ∙ and_right (is_atom n a) (value_of bs a) u), level_in_lem a v ∙ e)

-- ---- the two calls, for any bytes

-- for the program of t, with the assignment c and the levels m, k true atoms and the highest level h
abbrev InBytes : (t c m : List ℕ) → ℕ → ℕ → Type 0
InBytes t c m k h = (P : Program) × Admitted t P × WithoutGaps (set_in P.atoms c) (level_byte m) k h

pub check_gaps : (t u b l : List ℕ) (k h c : ℕ) → check_answer t u (length b) (length l) ≡ model_shown k h c
    → InBytes t (check_assignment t u b (length l)) (check_levels t u (length b) l) k h
check_gaps t u b l k h c e = go (model_offers t u (length b) (length l) k h c e)
  where
    go : ((P : Program) × (xs : List Spotted) × Shows t u (length b) (length l) P xs) → InBytes t (check_assignment t u b (length l)) (check_levels t u (length b) l) k h
    go (P, xs, S) =
        let A = S.admitted in
        let bs = values_of (var_total P) xs in
        let X = shows_accepted t P A u xs S.offers S in
        let C = check_writes t P A bs X b l (record { assignment = S.room; levels = S.levels_room }) in (
          P,
          A,
          gaps_written P A.limits.all_atoms (true_atoms P bs) (accepted_stable t P A bs X).0 bs (accepted_true t P A bs X).0 refl (drop (var_total P) b) (drop P.atoms l)
              C.assignment_is C.levels_are (ap count_in (sym e ∙ C.answer_is)) (ap highest_in (sym e ∙ C.answer_is)),
        )

pub fill_gaps : (t s b l : List ℕ) (k h : ℕ) → fill_answer t s (length b) (length l) ≡ filled_out k h
    → InBytes t (fill_assignment t s b (length l)) (fill_levels t s (length b) l) k h
fill_gaps t s b l k h e = go (fill_accepted t s b l k h e)
  where
    go : ((P : Program) × Fills t s b l k h P) → InBytes t (fill_assignment t s b (length l)) (fill_levels t s (length b) l) k h
    go (P, F) =
        let form = F.admitted.limits.all_atoms in
        let w = width P.atoms in
        let wide = width_enough P.atoms in
        let M = set_in P.atoms s in (
          P,
          F.admitted,
          gaps_written P form M F.stable (fill P w M) (Base.fill_length P w form wide M ∙ sym (variables_whole P w)) (Base.fill_has P w form wide M F.stable) (drop (var_total P) b) (drop P.atoms l)
              F.assignment_is F.levels_is F.count_is F.highest_is,
        )
