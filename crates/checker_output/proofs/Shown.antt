-- The checker's lines, by what the check gave, and that the front of a text and its length are enough.
--   atoms_shown, few_shown    the number of atoms of the program of a table, at most 126
--   text_model, text_refused    the lines of a model, and of a refusal
--   output_accepted, output_refused   those for a text, by the reader's verdict
--   answer_whole    65,537 bytes of the answer, or all, and its length give the check's result on the whole answer
--   output_whole    and so do those of the program text: the checker's lines are those for the whole text and the whole answer
-- Assumes nothing.
use Prim.Native.Nat.{ℕ, ◌≤◌, ◌<◌}
use native.Mathlib.Nat.{le_trans}
use native.Mathlib.Omega.{arith}
use mathlib.Core.Path.{◌≡◌, sym, ◌∙◌, ap, subst}
use mathlib.Core.Logic.{⊎_elim}
use mathlib.Core.List.{List}
use lib.ListN.{length, take, replicate}
use lib.Seq.{take_all}
use borrow.Author.Tests.{lt-ltb}
use Rattle.encoding.specs.Code.{Code, code_of}
use Rattle.lists.proofs.Tests.{le_or_lt}
use Rattle.reader.specs.Verdict.{read_of}
use Rattle.refusals.specs.declared.TextRefusal.{TextRefusal}
use Rattle.refusals.specs.declared.CheckRefusal.{CheckRefusal}
use Rattle.refusals.specs.declared.CheckRefusal.TheVariants.{Text}
use Rattle.clause_tables.specs.declared.Totals.{Totals}
use Rattle.clause_tables.specs.Tables.{Ready, totals_of, totals_in, code_in}
use Rattle.clause_table_laws.proofs.Cells.{told}
use Rattle.reader.proofs.Counted.{counted_whole}
use Rattle.call_results.specs.Results.{program_read}
use Rattle.call_check_rows.specs.Check.{check_after_reading, check_result, call_result, check_verdict_of, CheckGives}
use Rattle.encoding.specs.Variables.{Sizes}
use Rattle.checker_model.specs.Model.{shown_model}
use Rattle.checker_output.specs.Output.{checker_refusal_line, checker_verdict_text, result_text, checked_text, checker_output_of, checker_output, checker_text}
use Rattle.reader.specs.Verdict.{ReadVerdict}
use Rattle.reader.specs.declared.ReadResult.{ReadResult}
use Rattle.std.specs.Prelude.{Err, Ok}
use Rattle.call_check_rows.specs.Verdict.{CheckVerdict, model_shown}

-- the number of atoms of the program of a table
module _ {tb : List ℕ} {s : Sizes} {t : Totals} (r : Ready tb) (p : s ≡ t.sizes) (e : t ≡ totals_in tb) where
  pub atoms_shown : s.n ≡ (code_in tb).n
  unfolding totals_of
  atoms_shown = ap (λ (s : Sizes). s.n) p ∙ ap (λ (t : Totals). t.sizes.n) (told r e).totals_are

  pub few_shown : s.n ≤ 126
  few_shown = subst (λ (n : ℕ). n ≤ 126) (sym atoms_shown) r.limits.within.few_atoms

-- v, bs and ls are what the check of the answer t of k bytes gives and leaves, with buffers of zeros
module _ (G : Code) (t : List ℕ) (k : ℕ) {v : CheckVerdict} {bs ls : List ℕ}
    (g : CheckGives G (check_result G t k 9890 126) v (replicate 9890 0) bs (replicate 126 0) ls) where
  said : checker_verdict_text G.n v bs ls ≡ checked_text G t k
  unfolding checked_text
  said =
      ap (λ (w : CheckVerdict). checker_verdict_text G.n w bs ls) g.0
      ∙ ap (λ (b : List ℕ). checker_verdict_text G.n (check_verdict_of G.n (check_result G t k 9890 126)) b ls) g.1
      ∙ ap (checker_verdict_text G.n (check_verdict_of G.n (check_result G t k 9890 126)) _) g.2

  pub text_model : {i j c n : ℕ} → n ≡ G.n → v ≡ model_shown i j c → shown_model n c bs ls ≡ checked_text G t k
  text_model {c = c} e m = ap (λ (n : ℕ). shown_model n c bs ls) e ∙ sym (ap (λ (w : CheckVerdict). checker_verdict_text G.n w bs ls) m) ∙ said

  pub text_refused : {q : CheckRefusal} → v ≡ Err q → checker_refusal_line v ≡ checked_text G t k
  text_refused {q} e = ap checker_refusal_line e ∙ sym (ap (λ (w : CheckVerdict). checker_verdict_text G.n w bs ls) e) ∙ said

-- by the reader's verdict
module _ (x : ReadResult) (t : List ℕ) (k : ℕ) where
  by_verdict : {v : ReadVerdict} → x.verdict ≡ v
      → result_text (code_of (program_read x)) (check_after_reading v (check_result (code_of (program_read x)) t k 9890 126)) ≡ checker_output_of x t k
  unfolding checker_output_of
  by_verdict e = sym (ap (λ (v : ReadVerdict). result_text (code_of (program_read x)) (check_after_reading v (check_result (code_of (program_read x)) t k 9890 126))) e)

  pub output_accepted : x.verdict ≡ Ok tt → {G : Code} → G ≡ code_of (program_read x) → checked_text G t k ≡ checker_output_of x t k
  unfolding checked_text
  output_accepted e g = ap (λ (G : Code). checked_text G t k) g ∙ by_verdict e

  pub output_refused : {r : TextRefusal} → x.verdict ≡ Err r → checker_refusal_line (Err (Text r)) ≡ checker_output_of x t k
  output_refused e = by_verdict e

-- ---- the front of a text

pub answer_whole : (x : ReadResult) (u : List ℕ) (a l : ℕ) → call_result x (take 65537 u) (length u) a l ≡ call_result x u (length u) a l
answer_whole x u a l =
    ⊎_elim (λ (h : length u ≤ 65536). ap (λ (t : List ℕ). call_result x t (length u) a l) (take_all 65537 u (le_trans h (omega arith))))
    (λ (h : 65536 < length u). long h (take 65537 u) ∙ sym (long h u)) (le_or_lt (length u) 65536)
  where
    long : 65536 < length u → (t : List ℕ) → call_result x t (length u) a l ≡ call_result x u (length u) a l
    long h t = rw (lt-ltb 65536 (length u) h)

pub output_whole : (t u : List ℕ) → checker_output (take 65537 t) (length t) (take 65537 u) (length u) ≡ checker_text t u
unfolding checker_output checker_text checker_output_of
output_whole t u =
    ap (λ (x : ReadResult). result_text (code_of (program_read x)) (call_result x (take 65537 u) (length u) 9890 126)) (counted_whole t)
    ∙ ap (result_text (code_of (program_read (read_of t)))) (answer_whole (read_of t) u 9890 126)

-- the line of a verdict that is known
pub line_of_lem : {v w : CheckVerdict} {s : List ℕ} → v ≡ w → s ≡ checker_refusal_line w → s ≡ checker_refusal_line v
line_of_lem e f = f ∙ sym (ap checker_refusal_line e)
