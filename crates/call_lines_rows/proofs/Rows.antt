-- The row that the line call answers is the first one met, and it accepts exactly if none is.
--   LineTold               the two cases: refused with the first row, or written with no row met
--   answers_line_first, first_line_answers     refused with row r and spot s exactly if it is first
--   written_none, none_written                 accepted exactly if no row is met
-- Assumes nothing.
use Prim.Native.Nat.{ℕ, ◌-◌, ◌≤◌, ◌<◌}
use native.Mathlib.Nat.{le_refl, le_trans, lt_irrefl}
use native.Mathlib.Omega.{arith}
use mathlib.Core.Path.{◌≡◌, refl, sym, ◌∙◌, ap, subst}
use mathlib.Core.Logic.{◌⊎◌, inl, inr}
use mathlib.Core.Bool.{Bool, true, false, true≢false, cond}
use mathlib.Core.List.{List}
use lib.Dec.{eqb}
use lib.ListN.{length}
use borrow.Author.Tests.{ne_eqb}
use Rattle.lists.proofs.Tests.{le_or_lt}
use Rattle.meaning.specs.Program.{Program}
use Rattle.refusals.specs.declared.TextRefusal.{TextRefusal}
use Rattle.reader.specs.Verdict.{read_of}
use Rattle.refusals.specs.Numbers.{text_number, text_spot}
use Rattle.program.specs.Arrays.{decoded}
use Rattle.reader_laws.specs.Row.{Row, rank, NoLaterBy, ranked, nearer, smaller, FirstRow}
use Rattle.text.specs.Limits.{Admitted}
use Rattle.reader_laws.proofs.Rows.{no_later_both, row_few, accepted_none}
use Rattle.refusals.specs.declared.LineRefusal.{LineRefusal}
use Rattle.refusals.specs.declared.LineRefusal.TheVariants.{Text, NoSuchClause, ShortBuffer}
use Rattle.call_laws.proofs.Texts.{admitted_program, one_admitted, refused_row, refused_admits_none}
use Rattle.encoding.specs.Code.{code_of}
use Rattle.clause_runs.specs.Lines.{clause_total, line_of}
use Rattle.refusals.specs.Numbers.{line_number, line_spot}
use Rattle.call_lines_rows.specs.Lines.{answer_in, after_text, line_answer}
use Rattle.call_lines_rows.proofs.Cases.{answer_none, answer_short, answer_fits}
use Rattle.call_lines_rows.specs.Rows.{LineRow, of_text, short_buffer, no_such_clause, line_rank, FirstLineRow, LineAnswers, room_from}
use Rattle.reader.specs.Verdict.{ReadVerdict}
use Rattle.std.specs.Prelude.{Err, Ok}
use Rattle.call_lines_rows.specs.Verdicts.{LineVerdict}

pub data LineTold (t : List ℕ) (j k n : ℕ) : Type 0 where
  at_row : (r s : ℕ) → FirstLineRow t j k n r s → LineAnswers t j k n r s → LineTold t j k n
  written : (x : ℕ) → line_answer t j k n ≡ Ok x → ((r s : ℕ) → LineRow t j k n r s → ⊥) → LineTold t j k n

-- the program of an accepted text
-- among the reader's rows the order is the reader's
text_rank : (t : List ℕ) (r s : ℕ) → Row t r s → line_rank r ≡ rank r
text_rank t r s ρ =
    ap (λ (b : Bool). cond b 3 (cond (eqb r 8) 4 (rank r))) (ne_eqb r 9 (λ e. not_nine (row_few t r s ρ) e))
    ∙ ap (λ (b : Bool). cond b 4 (rank r)) (ne_eqb r 8 (λ e. not_eight (row_few t r s ρ) e))
  where
    not_nine : r ≤ 7 → r ≡ 9 → ⊥
    not_nine h e = omega (arith, h, e)

    not_eight : r ≤ 7 → r ≡ 8 → ⊥
    not_eight h e = omega (arith, h, e)

module _ (t : List ℕ) (j k n : ℕ) where
  -- ---- a refused text

  module _ (x : TextRefusal) (v : (read_of t).verdict ≡ Err x) where
    F : FirstRow t (text_number x) (text_spot x)
    F = refused_row t x v

    keeps : (l u : ℕ) → Row t l u → NoLaterBy rank (text_number x) (text_spot x) l u → NoLaterBy line_rank (text_number x) (text_spot x) l u
    keeps l u ρ = go (text_rank t (text_number x) (text_spot x) F.met) (text_rank t l u ρ)
      where
        go : line_rank (text_number x) ≡ rank (text_number x) → line_rank l ≡ rank l
            → NoLaterBy rank (text_number x) (text_spot x) l u → NoLaterBy line_rank (text_number x) (text_spot x) l u
        go p q (ranked h) = ranked (subst (λ (a : ℕ). a < line_rank l) (sym p) (subst (λ (b : ℕ). rank (text_number x) < b) (sym q) h))
        go p q (nearer e h) = nearer (p ∙ e ∙ sym q) h
        go p q (smaller e f h) = smaller (p ∙ e ∙ sym q) f h

    text_first : (l u : ℕ) → LineRow t j k n l u → NoLaterBy line_rank (text_number x) (text_spot x) l u
    text_first l u (of_text ρ) = keeps l u ρ (F.first l u ρ)
    text_first l u (short_buffer P a h) = absurd (refused_admits_none t x v P a)
    text_first l u (no_such_clause P a h) = absurd (refused_admits_none t x v P a)

    text_told : LineTold t j k n
    unfolding line_answer
    text_told =
        at_row (text_number x) (text_spot x) (record { met = of_text F.met; first = text_first })
        (record {
          refusal = Text x;
          answer_is = ap (λ (w : ReadVerdict). after_text w (answer_in (code_of (decoded (read_of t).program)) j (n - k))) v;
          row_is = refl;
          spot_is = refl;
        })

  -- ---- an accepted text

  module _ (v : (read_of t).verdict ≡ Ok tt) where
    abbrev P : Program
    P = decoded (read_of t).program

    A : Admitted t P
    A = admitted_program t v

    same : (Q : Program) → Admitted t Q → Q ≡ P
    same Q a = one_admitted A a

    answer : line_answer t j k n ≡ answer_in (code_of P) j (n - k)
    unfolding line_answer
    answer = ap (λ (w : ReadVerdict). after_text w (answer_in (code_of P) j (n - k))) v

    none_such : clause_total P < j → LineTold t j k n
    none_such h =
        at_row 9 (clause_total P) (record { met = no_such_clause P A h; first = go })
        (record {
          refusal = NoSuchClause (clause_total P);
          answer_is = answer ∙ answer_none (code_of P) j (n - k) h;
          row_is = refl;
          spot_is = refl;
        })
      where
        go : (l u : ℕ) → LineRow t j k n l u → NoLaterBy line_rank 9 (clause_total P) l u
        go l u (of_text ρ) = absurd (accepted_none t v l u ρ)
        go l u (short_buffer Q a f) = ranked (le_refl 4)
        go l u (no_such_clause Q a f) = smaller refl (ap clause_total (sym (same Q a))) (le_refl 9)

    module _ (h : j ≤ clause_total P) where
      not_past : (Q : Program) → Admitted t Q → clause_total Q < j → ⊥
      not_past Q a f = lt_irrefl (clause_total P) (le_trans (subst (λ (X : Program). clause_total X < j) (same Q a) f) h)

      too_short : room_from k n < length (line_of P j) → LineTold t j k n
      too_short f =
          at_row 8 (length (line_of P j)) (record { met = short_buffer P A f; first = go })
          (record {
            refusal = ShortBuffer (length (line_of P j));
            answer_is = answer ∙ answer_short (code_of P) j (n - k) h f;
            row_is = refl;
            spot_is = refl;
          })
        where
          go : (l u : ℕ) → LineRow t j k n l u → NoLaterBy line_rank 8 (length (line_of P j)) l u
          go l u (of_text ρ) = absurd (accepted_none t v l u ρ)
          go l u (short_buffer Q a g) = smaller refl (ap (λ (X : Program). length (line_of X j)) (sym (same Q a))) (le_refl 8)
          go l u (no_such_clause Q a g) = absurd (not_past Q a g)

      enough : length (line_of P j) ≤ room_from k n → LineTold t j k n
      enough f =
          written (length (line_of P j))
          (answer ∙ answer_fits (code_of P) j (n - k) h f)
          go
        where
          go : (l u : ℕ) → LineRow t j k n l u → ⊥
          go l u (of_text ρ) = accepted_none t v l u ρ
          go l u (short_buffer Q a g) = lt_irrefl (room_from k n) (le_trans (subst (λ (X : Program). room_from k n < length (line_of X j)) (same Q a) g) f)
          go l u (no_such_clause Q a g) = not_past Q a g

    accepted_told : LineTold t j k n
    accepted_told = go (le_or_lt j (clause_total P))
      where
        fit : (h : j ≤ clause_total P) → (length (line_of P j) ≤ room_from k n) ⊎ (room_from k n < length (line_of P j)) → LineTold t j k n
        fit h (inl f) = enough h f
        fit h (inr f) = too_short h f

        go : (j ≤ clause_total P) ⊎ (clause_total P < j) → LineTold t j k n
        go (inl h) = fit h (le_or_lt (length (line_of P j)) (room_from k n))
        go (inr h) = none_such h

  pub line_told : LineTold t j k n
  line_told = go (read_of t).verdict refl
    where
      go : (x : ReadVerdict) → (read_of t).verdict ≡ x → LineTold t j k n
      go (Ok u) e = accepted_told e
      go (Err x) e = text_told x e

  -- ---- exactly

  pub first_line_unique : (r s l u : ℕ) → FirstLineRow t j k n r s → FirstLineRow t j k n l u → (r ≡ l) × (s ≡ u)
  first_line_unique r s l u a b = no_later_both line_rank r s l u (a.first l u b.met) (b.first r s a.met)

  -- an answer is a refusal or it is not
  verdicts : (x : LineRefusal) (y : ℕ) → line_answer t j k n ≡ Err x → line_answer t j k n ≡ Ok y → ⊥
  verdicts x y p q = true≢false (ap is_refused (sym p ∙ q))
    where
      is_refused : LineVerdict → Bool
      is_refused (Err r) = true
      is_refused (Ok r) = false

  pub answers_line_first : (r s : ℕ) → LineAnswers t j k n r s → FirstLineRow t j k n r s
  answers_line_first r s a = go line_told
    where
      go : LineTold t j k n → FirstLineRow t j k n r s
      go (at_row l u f b) = subst (λ (z : ℕ). FirstLineRow t j k n r z) (sym b.spot_is ∙ ap line_spot eq ∙ a.spot_is) (subst (λ (z : ℕ). FirstLineRow t j k n z u) (sym b.row_is ∙ ap line_number eq ∙ a.row_is) f)
        where
          eq : b.refusal ≡ a.refusal
          eq = ap refusal_in (sym b.answer_is ∙ a.answer_is)
            where
              refusal_in : LineVerdict → LineRefusal
              refusal_in (Err r) = r
              refusal_in (Ok x) = ShortBuffer 0
      go (written x e none) = absurd (verdicts a.refusal x a.answer_is e)

  pub first_line_answers : (r s : ℕ) → FirstLineRow t j k n r s → LineAnswers t j k n r s
  first_line_answers r s f = go line_told
    where
      go : LineTold t j k n → LineAnswers t j k n r s
      go (at_row l u g b) = let q = first_line_unique l u r s g f in subst (LineAnswers t j k n r) q.1 (subst (λ (z : ℕ). LineAnswers t j k n z u) q.0 b)
      go (written x e none) = absurd (none r s f.met)

  pub written_none : (x : ℕ) → line_answer t j k n ≡ Ok x → (r s : ℕ) → LineRow t j k n r s → ⊥
  written_none x e r s ρ = go line_told
    where
      go : LineTold t j k n → ⊥
      go (at_row l u f b) = verdicts b.refusal x b.answer_is e
      go (written y q none) = none r s ρ

  pub none_written : ((r s : ℕ) → LineRow t j k n r s → ⊥) → (x : ℕ) × (line_answer t j k n ≡ Ok x)
  none_written none = go line_told
    where
      go : LineTold t j k n → (x : ℕ) × (line_answer t j k n ≡ Ok x)
      go (at_row l u f b) = absurd (none l u f.met)
      go (written x e q) = (x, e)
