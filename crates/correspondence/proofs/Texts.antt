-- The correspondence over texts, answers and bytes.
--   checked_exactly   an answer that names no variable above V and none twice is accepted exactly if each clause from 1 to C is true under its assignment,
--                     completed
--   line_prints       the bytes that the line call writes for j are the print of clause j
--   level_bytes_lem   for each atom the counter, the level byte written and the level number are equal
--   level_of_false    and 0 for a false atom
--   fills_exactly     a set of the right form is accepted exactly if it is a stable model
-- Assumes nothing.
use Prim.Native.Nat.{ℕ, ◌+◌, ◌-◌, ◌≤◌, ◌<◌}
use native.Mathlib.Omega.{arith}
use mathlib.Core.Path.{◌≡◌, sym, ◌∙◌, ap, subst}
use mathlib.Core.Logic.{◌↔◌}
use mathlib.Core.Bool.{Bool, false, So}
use mathlib.Core.List.{List, ◌++◌}
use lib.ListN.{length, get_or, take, drop}
use Rattle.meaning.specs.Program.{Program, is_atom}
use Rattle.meaning.specs.Stage.{Stable, level}
use Rattle.encoding.specs.Width.{width}
use Rattle.encoding.specs.Literal.{value_of, clause_true}
use Rattle.encoding.specs.Clauses.{sizes}
use Rattle.encoding.specs.Fill.{true_atoms, counter}
use Rattle.theory.proofs.Base as Base
use Rattle.digits.specs.Bytes.{line_text}
use Rattle.reader.specs.Verdict.{read_of}
use Rattle.text.specs.Limits.{Admitted}
use Rattle.call_laws.proofs.Texts.{one_admitted}
use Rattle.reader_laws.proofs.Rows.{accepted_none}
use Rattle.reader_laws.proofs.Contents.{admitted_answer}
use Rattle.answer_form.specs.Pieces.{Spotted}
use Rattle.answer_offers.specs.Offered.{values_of}
use Rattle.answer_values.specs.Rows.{AllFit}
use Rattle.clause_runs.specs.Lines.{clause_total, line_of}
use Rattle.call_lines_rows.specs.Lines.{line_bytes}
use Rattle.call_lines_rows.specs.Rows.{LineRow, of_text, short_buffer, no_such_clause}
use Rattle.call_lines_rows.proofs.Rows.{none_written}
use Rattle.call_lines_rows.proofs.Calls.{line_writes}
use Rattle.call_lines_rows.proofs.File as File
use Rattle.level_lists.specs.Bytes.{set_in}
use Rattle.call_results.specs.Results.{level_byte, var_total}
use Rattle.call_results.proofs.ValueBytes.{level_here}
use Rattle.call_check_rows.specs.Check.{check_levels}
use Rattle.call_check_rows.specs.Rows.{Offers, clause_of, clause_number, Accepts}
use Rattle.call_check_rows.proofs.Verdicts as Verdicts
use Rattle.call_fill_rows.specs.Rows.{FillAccepts, Fills}
use Rattle.call_fill_rows.proofs.Written.{fill_accepted, stable_fills}
use Rattle.correspondence.specs.Accepted.{AcceptedAssignment, Room}
use Rattle.correspondence.proofs.Correspond.{accepted_stable, accepted_counter, check_writes}
use Rattle.reader.specs.declared.ReadResult.{ReadResult}
use Rattle.std.specs.Prelude.{Ok}

module _ (t : List ℕ) (P : Program) (A : Admitted t P) where
  abbrev n : ℕ
  n = P.atoms

  -- C is the number of clauses
  total : clause_total P ≡ clause_number P
  total = File.clause_total_lem P A.limits

  module _ (u : List ℕ) (xs : List Spotted) (o : Offers u xs) (short : length u ≤ 65536) (fit : AllFit (var_total P) xs) (b l : List ℕ) (r : Room P b l) where
    pub checked_exactly : Accepts t u (length b) (length l)
        ↔ ((j : ℕ) → 0 < j → j ≤ clause_total P → So (clause_true (value_of (values_of (var_total P) xs)) (clause_of P j)))
    checked_exactly = (
      λ e. λ j p h. Verdicts.accepted_true t u (length b) (length l) P xs A o short fit r.assignment r.levels e.0 e.1 e.2 e.3 j p (subst (λ (c : ℕ). j ≤ c) total h),
      λ f. Verdicts.true_accepted t u (length b) (length l) P xs A o short fit r.assignment r.levels (λ j p h. f j p (subst (λ (c : ℕ). j ≤ c) (sym total) h)),
    )

  -- ---- lines

  accepted : (read_of t).verdict ≡ Ok tt
  accepted = ap (λ (x : ReadResult). x.verdict) (admitted_answer t P A)

  same : (Q : Program) → Admitted t Q → Q ≡ P
  same Q B = one_admitted A B

  module _ (j : ℕ) (p : 0 < j) (h : j ≤ clause_total P) (k : ℕ) (b : List ℕ) (room : length (line_text (clause_of P j)) ≤ length b - k) where
    its_line : line_of P j ≡ line_text (clause_of P j)
    its_line = File.clause_line P A.limits j p h

    none : (r s : ℕ) → LineRow t j k (length b) r s → ⊥
    none r s (of_text ρ) = accepted_none t accepted r s ρ
    none r s (short_buffer Q B f) =
        let g = subst (λ (X : Program). length b - k < length (line_of X j)) (same Q B) f in
        let e = ap length its_line in
        omega (arith, g, e, room)
    none r s (no_such_clause Q B f) =
        let g = subst (λ (X : Program). clause_total X < j) (same Q B) f in
        omega (arith, g, h)

    pub line_prints : line_bytes t j k b ≡ take k b ++ (line_text (clause_of P j) ++ drop (k + length (line_text (clause_of P j))) b)
    line_prints =
        let w = none_written t j k (length b) none in
        let q = line_writes t j k b w.0 w.1 P A in
        q.1 ∙ ap (λ (x : ℕ). take k b ++ (line_of P j ++ drop (k + x) b)) q.0
        ∙ ap (λ (x : List ℕ). take k b ++ (x ++ drop (k + length x) b)) its_line

  -- ---- levels

  module _ (bs : List Bool) (X : AcceptedAssignment t P bs) where
    pub level_bytes_lem : (b l : List ℕ) → Room P b l → (a : ℕ) → So (is_atom n a)
        → (counter (sizes P (width n)) (value_of bs) a ≡ level P (true_atoms P bs) a)
        × (level_byte (check_levels t X.answer (length b) l) a ≡ level P (true_atoms P bs) a)
    level_bytes_lem b l r a i = (
      accepted_counter t P A bs X a i,
      ap (λ (ls : List ℕ). level_byte ls a) (check_writes t P A bs X b l r).levels_are ∙ level_here n (level P (true_atoms P bs)) (drop n l) a i,
    )

    pub level_of_false : (a : ℕ) → true_atoms P bs a ≡ false → level P (true_atoms P bs) a ≡ 0
    level_of_false = Base.level_false P A.limits.all_atoms (true_atoms P bs) (accepted_stable t P A bs X).0

  -- ---- sets

  pub fills_exactly : (s b l : List ℕ) → Room P b l → length s ≡ n → ((i : ℕ) → i < length s → get_or s i 0 ≤ 1)
      → FillAccepts t s (length b) (length l) ↔ Stable P (set_in n s)
  fills_exactly s b l r e f = (
    λ x. stable_of (fill_accepted t s b l x.count x.highest x.answer_is),
    λ σ. record { count = _; highest = _; answer_is = (stable_fills t s b l P A (record { room = r.assignment; levels_room = r.levels; sized = e; bytes = f; stable = σ })).0 },
  )
    where
      stable_of : {k h : ℕ} → ((Q : Program) × Fills t s b l k h Q) → Stable P (set_in n s)
      stable_of (Q, F) = subst (λ (X : Program). Stable X (set_in X.atoms s)) (same Q F.admitted) F.stable
