-- The check on a text, from the tables of its program.
-- Assumes nothing.
use Prim.Native.Nat.{ℕ}
use mathlib.Core.Path.{◌≡◌, refl, sym, ap, subst}
use mathlib.Core.List.{List}
use lib.ListN.{length}
use Rattle.encoding.specs.Code.{Code, code_of}
use Rattle.refusals.specs.declared.TextRefusal.{TextRefusal}
use Rattle.reader.specs.Verdict.{read_of}
use Rattle.call_results.specs.Results.{called, program_read}
use Rattle.refusals.specs.declared.CheckRefusal.TheVariants.{Text}
use Rattle.call_check_rows.specs.Check.{check_result, check_after_reading, call_result, check_of, check_answer, check_assignment, check_levels, check_call, CheckGives}
use Rattle.call_check_rows.proofs.Rows.{gives_refused}
use Rattle.reader.specs.Verdict.{ReadVerdict}
use Rattle.reader.specs.declared.ReadResult.{ReadResult}
use Rattle.std.specs.Prelude.{Err, Ok}
use Rattle.call_check_rows.specs.Verdict.{CheckVerdict}

module _ (t : List ℕ) (k : ℕ) (b l : List ℕ) {r : CheckVerdict} {c m : List ℕ} where
  -- of codes that are the same
  pub same_code : {G H : Code} → G ≡ H → CheckGives G (check_result G t k (length b) (length l)) r b c l m → CheckGives H (check_result H t k (length b) (length l)) r b c l m
  same_code e u = subst (λ (X : Code). CheckGives X (check_result X t k (length b) (length l)) r b c l m) e u

  pub read_accepted : (x : ReadResult) → x.verdict ≡ Ok tt → CheckGives (code_of (program_read x)) (check_result (code_of (program_read x)) t k (length b) (length l)) r b c l m
      → CheckGives (code_of (program_read x)) (call_result x t k (length b) (length l)) r b c l m
  read_accepted x e u =
      subst (λ (v : ReadVerdict). CheckGives (code_of (program_read x)) (check_after_reading v (check_result (code_of (program_read x)) t k (length b) (length l))) r b c l m) (sym e) u

pub read_refused : (t : List ℕ) (k : ℕ) (b l : List ℕ) (x : ReadResult) {q : TextRefusal} → x.verdict ≡ Err q
    → CheckGives (code_of (program_read x)) (call_result x t k (length b) (length l)) (Err (Text q)) b b l l
read_refused t k b l x e =
    gives_refused (code_of (program_read x)) (ap (λ (v : ReadVerdict). check_after_reading v (check_result (code_of (program_read x)) t k (length b) (length l))) e) b l refl

-- the call
pub check_whole : (t u b l : List ℕ) {x : ReadResult} → x ≡ read_of t → {r : CheckVerdict} {c m : List ℕ}
    → CheckGives (code_of (program_read x)) (call_result x u (length u) (length b) (length l)) r b c l m → called r c m ≡ check_call t u b l
unfolding check_of check_answer check_assignment check_levels
check_whole t u b l e {r} {c} {m} w =
    let v = subst (λ (x : ReadResult). CheckGives (code_of (program_read x)) (call_result x u (length u) (length b) (length l)) r b c l m) e w in
    λ i. called (v.0 i) (v.1 i) (v.2 i)
