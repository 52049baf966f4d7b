-- What filling out an accepted set answers and writes.
--   filled_count    how many atoms are true in the filled-out list
--   fill_accepted   it says so
--   stable_fills    a stable set of the right form is accepted
--   fill_kept       a refusal writes nothing
-- Assumes nothing.
use Prim.Native.Nat.{ℕ, suc, ◌≤◌, ◌<◌}
use native.Mathlib.Omega.{arith}
use mathlib.Core.Path.{◌≡◌, refl, sym, ◌∙◌, ap, ap₂, subst}
use mathlib.Core.Logic.{⊎_elim}
use mathlib.Core.Bool.{Bool, true, false, true≢false, ◌&&◌, So, cond}
use mathlib.Core.List.{List}
use lib.Dec.{eqb}
use lib.ListN.{length, get_or}
use Rattle.lists.specs.Lists.{tab, sum, highest}
use borrow.Author.Tests.{eqb-true, eqb-false}
use Rattle.lists.proofs.Bools.{and_left}
use Rattle.lists.proofs.Tests.{le_or_lt}
use Rattle.lists.proofs.Tables.{sum_ext}
use Rattle.meaning.specs.Program.{Program, Atoms, is_atom, well_formed}
use Rattle.meaning.specs.Stage.{Stable, level, differ}
use Rattle.encoding.specs.Code.{code_of}
use Rattle.encoding.specs.Width.{width}
use Rattle.encoding.specs.Literal.{value_of}
use Rattle.encoding.specs.Fill.{fill}
use Rattle.theory.proofs.Atoms.{is_atom_lem}
use Rattle.theory.proofs.Decided.{decided, differ_at, differ_le}
use Rattle.theory.proofs.Base.{fill_has}
use Rattle.theory.proofs.Widths.{width_enough}
use Rattle.refusals.specs.declared.TextRefusal.{TextRefusal}
use Rattle.reader.specs.Verdict.{read_of}
use Rattle.program.specs.Arrays.{decoded}
use Rattle.text.specs.Limits.{Admitted}
use Rattle.reader_laws.proofs.Contents.{admitted_answer}
use Rattle.program.proofs.Decode.{decoded_kept}
use Rattle.call_laws.proofs.Texts.{admitted_program}
use Rattle.answer_offers.specs.Offered.{value_bytes}
use Rattle.truth_clauses.specs.Truth.{value_in}
use Rattle.level_lists.specs.Bytes.{set_in}
use Rattle.call_results.specs.Results.{Result, true_count, assignment_after, levels_after, var_total, program_read}
use Rattle.call_results.proofs.ValueBytes.{value_same, levels_same}
use Rattle.refusals.specs.declared.FillRefusal.{FillRefusal}
use Rattle.refusals.specs.declared.FillRefusal.TheVariants.{Text}
use Rattle.call_fill_rows.specs.FillOut.{fill_result, fill_after_reading, fill_verdict_of, fill_zeroes, fill_of, fill_answer, fill_assignment, fill_levels}
use Rattle.call_fill_rows.specs.Rows.{FillRow, FillAccepts, Fills, short_assignment, short_levels, wrong_length, bad_byte, unfounded}
use Rattle.call_fill_rows.proofs.FirstRows.{fill_accepts_none, stable_result, none_bad}
use Rattle.reader.specs.Verdict.{ReadVerdict}
use Rattle.reader.specs.declared.ReadResult.{ReadResult}
use Rattle.std.specs.Prelude.{Err, Ok}
use Rattle.call_fill_rows.specs.Verdict.{FillVerdict, filled_out}

-- ---- what is returned for a stable model

module _ (P : Program) (form : So (well_formed P)) (M : Atoms) (σ : Stable P M) where
  abbrev w : ℕ
  w = width P.atoms

  atom_value : (i : ℕ) → i < P.atoms → value_of (fill P w M) (suc i) ≡ M (suc i)
  atom_value i h =
      sym (ap (λ (b : Bool). b && value_of (fill P w M) (suc i)) (is_atom_lem P.atoms (suc i) (omega arith) h))
      ∙ ap (λ (A : Atoms). A (suc i)) (fill_has P w form (width_enough P.atoms) M σ)

  pub filled_count : true_count P.atoms (value_bytes (fill P w M)) ≡ sum P.atoms (λ a. cond (M a) 1 0)
  unfolding true_count
  filled_count = sum_ext P.atoms _ _ (λ i h. ap (λ x. cond x 1 0) (value_same (fill P w M) (suc i) ∙ atom_value i h))

-- ---- an accepted call

-- of the program Q, a stable set of the right form
pub record Founded (s b l : List ℕ) (Q : Program) : Type 0 where
  pub room : var_total Q ≤ length b
  pub levels_room : Q.atoms ≤ length l
  pub sized : length s ≡ Q.atoms
  pub bytes : (i : ℕ) → i < length s → get_or s i 0 ≤ 1
  pub stable : Stable Q (set_in Q.atoms s)

-- the program of an admitted text is the one that the reader keeps
is_program : (t : List ℕ) (P : Program) → Admitted t P → program_read (read_of t) ≡ P
is_program t P A = ap (λ (x : ReadResult). decoded x.program) (admitted_answer t P A) ∙ decoded_kept P

refused_answer : (t s : List ℕ) (a l : ℕ) (r : TextRefusal) → (read_of t).verdict ≡ Err r → fill_answer t s a l ≡ Err (Text r)
unfolding fill_answer fill_of
refused_answer t s a l r v = ap (λ (y : ReadVerdict). fill_verdict_of (program_read (read_of t)).atoms (fill_after_reading y (fill_result (code_of (program_read (read_of t))) s a l))) v

module _ (t s b l : List ℕ) where
  module _ (v : (read_of t).verdict ≡ Ok tt) where
    abbrev P : Program
    P = program_read (read_of t)

    abbrev M : Atoms
    M = set_in P.atoms s

    A : Admitted t P
    A = admitted_program t v

    abbrev answer : FillVerdict
    answer = filled_out (sum P.atoms (λ a. cond (M a) 1 0)) (highest P.atoms (level P M))

    module _ (f : Founded s b l P) where
      result : fill_of t s (length b) (length l) ≡ Result.accepted 0 (value_bytes (fill P (width P.atoms) M)) (tab P.atoms (level P M))
      result = stable_result t s (length b) (length l) v f.room f.levels_room f.sized (none_bad s f.bytes) f.stable

      answered : fill_answer t s (length b) (length l) ≡ answer
      unfolding fill_answer
      answered =
          ap (fill_verdict_of P.atoms) result
          ∙ ap₂ filled_out (filled_count P A.limits.all_atoms M f.stable) (levels_same P.atoms (level P M))

      fills : Fills t s b l (sum P.atoms (λ a. cond (M a) 1 0)) (highest P.atoms (level P M)) P
      unfolding fill_assignment fill_levels
      fills =
          record {
            admitted = A;
            room = f.room;
            levels_room = f.levels_room;
            sized = f.sized;
            bytes = f.bytes;
            stable = f.stable;
            count_is = refl;
            highest_is = refl;
            assignment_is = ap (λ (x : Result FillRefusal). assignment_after fill_zeroes (var_total P) x b) result;
            levels_is = ap (λ (x : Result FillRefusal). levels_after P.atoms x l) result;
          }

    founded : FillAccepts t s (length b) (length l) → Founded s b l P
    founded acc =
        record {
          room = ⊎_elim (λ (h : var_total P ≤ length b). h) (λ (h : length b < var_total P). absurd (none 3 8 (var_total P) (short_assignment P A h))) (le_or_lt (var_total P) (length b));
          levels_room = ⊎_elim (λ (h : P.atoms ≤ length l). h) (λ (h : length l < P.atoms). absurd (none 4 8 P.atoms (short_levels P A h))) (le_or_lt P.atoms (length l));
          sized = size;
          bytes = λ i h. ⊎_elim (λ (g : get_or s i 0 ≤ 1). g) (λ (g : 1 < get_or s i 0). absurd (none 5 17 i (bad_byte P A size i h g))) (le_or_lt (get_or s i 0) 1);
          stable = by_none;
        }
      where
        none : (k r u : ℕ) → FillRow t s (length b) (length l) k r u → ⊥
        none = fill_accepts_none t s (length b) (length l) acc

        size : length s ≡ P.atoms
        size = go (eqb (length s) P.atoms) refl
          where
            go : (d : Bool) → eqb (length s) P.atoms ≡ d → length s ≡ P.atoms
            go true e = eqb-true (length s) P.atoms e
            go false e = absurd (none 5 17 P.atoms (wrong_length P A (eqb-false (length s) P.atoms e)))

        by_none : Stable P M
        by_none =
            (decided P A.limits.all_atoms M (λ i e. and_left (is_atom P.atoms i) (value_in s i) e)).0
            (⊎_elim (λ (h : differ P M ≤ 0). le_zero (differ P M) h) (λ (h : 0 < differ P M). absurd (none 6 18 (differ P M) (unfounded P A (differ P M) (is_atom_lem P.atoms (differ P M) h (differ_le P A.limits.all_atoms M)) (differ_at P A.limits.all_atoms M h)))) (le_or_lt (differ P M) 0))
          where
            le_zero : (d : ℕ) → d ≤ 0 → d ≡ 0
            le_zero d h = omega (arith, h)

  -- ---- the call

  numbers_in : FillVerdict → ℕ × ℕ
  numbers_in (Ok x) = (x.atoms, x.highest)
  numbers_in (Err r) = (0, 0)

  is_filled : FillVerdict → Bool
  is_filled (Ok x) = true
  is_filled (Err r) = false

  pub fill_accepted : (k h : ℕ) → fill_answer t s (length b) (length l) ≡ filled_out k h → (P : Program) × Fills t s b l k h P
  unfolding numbers_in is_filled
  fill_accepted k h e = go (read_of t).verdict refl
    where
      go : (x : ReadVerdict) → (read_of t).verdict ≡ x → (P : Program) × Fills t s b l k h P
      go (Ok u) v =
          let f = founded v (record { count = k; highest = h; answer_is = e }) in
          let q = ap numbers_in (sym (answered v f) ∙ e) in
          (program_read (read_of t), subst (λ (y : ℕ × ℕ). Fills t s b l y.0 y.1 (program_read (read_of t))) q (fills v f))
      go (Err r) v = absurd (true≢false (ap is_filled (sym e ∙ refused_answer t s (length b) (length l) r v)))

  pub stable_fills : (P : Program) → Admitted t P → Founded s b l P
      → (fill_answer t s (length b) (length l) ≡ filled_out (sum P.atoms (λ a. cond (set_in P.atoms s a) 1 0)) (highest P.atoms (level P (set_in P.atoms s))))
      × Fills t s b l (sum P.atoms (λ a. cond (set_in P.atoms s a) 1 0)) (highest P.atoms (level P (set_in P.atoms s))) P
  stable_fills P A =
      subst (λ (Q : Program). Founded s b l Q
      → (fill_answer t s (length b) (length l) ≡ filled_out (sum Q.atoms (λ a. cond (set_in Q.atoms s a) 1 0)) (highest Q.atoms (level Q (set_in Q.atoms s))))
      × Fills t s b l (sum Q.atoms (λ a. cond (set_in Q.atoms s a) 1 0)) (highest Q.atoms (level Q (set_in Q.atoms s))) Q) (is_program t P A)
      (λ f. (answered v f, fills v f))
    where
      v : (read_of t).verdict ≡ Ok tt
      v = ap (λ (x : ReadResult). x.verdict) (admitted_answer t P A)

  pub fill_kept : (r : FillRefusal) → fill_answer t s (length b) (length l) ≡ Err r → (fill_assignment t s b (length l) ≡ b) × (fill_levels t s (length b) l ≡ l)
  unfolding fill_answer fill_assignment fill_levels is_filled
  fill_kept r e = go (fill_of t s (length b) (length l)) e
    where
      go : (x : Result FillRefusal) → fill_verdict_of (program_read (read_of t)).atoms x ≡ Err r
          → (assignment_after fill_zeroes (var_total (program_read (read_of t))) x b ≡ b) × (levels_after (program_read (read_of t)).atoms x l ≡ l)
      go (Result.accepted c bs ls) q = absurd (true≢false (ap is_filled q))
      go (Result.refused y) q = (refl, refl)
