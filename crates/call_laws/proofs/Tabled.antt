-- The tables of a program that was read, from its arrays.
-- Assumes nothing.
use Prim.Native.Nat.{ℕ, ◌≤◌, ◌<◌}
use mathlib.Core.Path.{◌≡◌, sym, ◌∙◌, ap, subst}
use mathlib.Core.Logic.{⊎_elim}
use mathlib.Core.List.{List}
use Rattle.lists.proofs.Tests.{le_or_lt}
use Rattle.encoding.specs.Code.{code_of}
use Rattle.program.specs.declared.Program.{Program as Arrays}
use Rattle.program.specs.Arrays.{decoded}
use Rattle.reader.specs.Verdict.{refuse_of, read_of}
use Rattle.reader.specs.Counted.{counted_of}
use Rattle.reader.proofs.Counted.{counted_short, counted_long}
use Rattle.reader_laws.proofs.Rows.{not_both}
use Rattle.reader_laws.proofs.Contents.{accepted_admitted, admitted_answer}
use Rattle.clause_tables.specs.Tables.{Stored, TableOf, Ready, table_of, code_in}
use Rattle.clause_table_laws.proofs.Elements.{program_limited, kept_stored}
use Rattle.clause_table_laws.proofs.Cells.{code_held, ready}
use Rattle.std.specs.Prelude.{Ok}
use Rattle.reader.specs.declared.ReadResult.{ReadResult}

-- ---- from the arrays of a program

module _ {A : Arrays} (S : Stored A) {tb : List ℕ} (e : tb ≡ table_of (code_of (decoded A))) where
  pub made : TableOf (code_of (decoded A)) tb
  made = record { limits = program_limited (decoded A) S.limits; table_is = e }

  pub made_code : code_in tb ≡ code_of (decoded A)
  made_code = ap code_in e ∙ code_held (code_of (decoded A)) made.limits

  pub made_ready : Ready tb
  made_ready = subst (λ (x : List ℕ). Ready x) (sym e) (ready (code_of (decoded A)) made.limits)

-- ---- from the text

-- the arrays of an accepted text are kept
pub stored : (t : List ℕ) → (read_of t).verdict ≡ Ok tt → Stored (read_of t).program
stored t a =
    let q = accepted_admitted t a in
    subst (λ (A : Arrays). Stored A) (sym (ap (λ (x : ReadResult). x.program) (admitted_answer t q.0 q.1))) (kept_stored q.0 q.1.limits)

-- and of one whose front and length are known
pub counted_stored : (f : List ℕ) (n : ℕ) → (counted_of f n).verdict ≡ Ok tt → Stored (counted_of f n).program
unfolding refuse_of
counted_stored f n v = ⊎_elim short long (le_or_lt n 65536)
  where
    short : n ≤ 65536 → Stored (counted_of f n).program
    short h =
        let e = counted_short f n h in
        subst (λ (x : ReadResult). Stored x.program) e (stored f (ap (λ (x : ReadResult). x.verdict) e ∙ v))

    long : 65536 < n → Stored (counted_of f n).program
    long h = absurd (not_both v (ap (λ (x : ReadResult). x.verdict) (sym (counted_long f n h))))
