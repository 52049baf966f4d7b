-- The reader's answer to a call that reads a text, and what follows for the table and the totals.
--   read_given                    the reader's answer to an accepted text, by the program that is left
--   read_stored                   the arrays of an accepted text are those of a program within the limits
--   loaded-.., totals-..          what a call has after each test
--   totals_told, totals_refusal   the reader's answer, by the totals or why there are none
--   loaded_verdict                the verdict that was told is that of the reader's answer
--   loaded_ready, loaded_code     the table of an accepted text is ready, and holds the code of its program
-- Assumes nothing.
use Prim.Native.Nat.{ℕ, ◌≤◌, ◌<◌}
use mathlib.Core.Path.{◌≡◌, refl, sym, ◌∙◌, ap, subst}
use mathlib.Core.List.{List}
use lib.ListN.{length}
use Rattle.encoding.specs.Code.{code_of}
use Rattle.program.specs.declared.Program.{Program as Arrays}
use Rattle.program.specs.Arrays.{decoded}
use Rattle.refusals.specs.declared.TextRefusal.{TextRefusal}
use Rattle.refusals.specs.declared.TextRefusal.TheVariants.{Overlong}
use Rattle.reader.specs.Verdict.{ReadVerdict, refuse_of, read_of, left_of}
use Rattle.reader.proofs.Verdicts.{read_accepted}
use Rattle.reader.specs.declared.ReadResult.{ReadResult}
use Rattle.reader.specs.Counted.{counted_of}
use Rattle.reader.proofs.Counted.{counted_short, counted_long}
use Rattle.clause_tables.specs.declared.Totals.{Totals}
use Rattle.clause_tables.specs.Tables.{Stored, Ready, totals_of, table_of, code_in}
use Rattle.clause_table_laws.proofs.Cells.{cells}
use Rattle.call_laws.proofs.Tabled.{made, made_ready, made_code, stored}
use Rattle.call_table.specs.Loaded.{table_after, Loaded, totals_for, totals_read}
use Rattle.std.specs.Prelude.{Result, Ok, Err}
use mathlib.Core.Bool.{Bool, true, false, false≢true}

module _ (t : List ℕ) {A : Arrays} (e : A ≡ left_of t) (v : ◌≡◌ {A = ReadVerdict} (Ok tt) (read_of t).verdict) where
  pub read_given : read_of t ≡ record { verdict = Ok tt; program = A }
  read_given = sym (ap (λ (p : Arrays). record { verdict = Ok tt; program = p }) e ∙ read_accepted t v)

  pub read_stored : Stored A
  read_stored = subst (λ (x : ReadResult). Stored x.program) read_given (stored t (sym v))

-- ---- the table

-- a refusal leaves the cells as they were
pub loaded_refused : {x : ReadResult} {r : TextRefusal} (b : List ℕ) → x.verdict ≡ Err r → Loaded x (Err r) b b
loaded_refused {x} b e = record { verdict_is = sym e; table_is = sym (ap (λ (v : ReadVerdict). table_after v x.program b) e) }

pub loaded_accepted : {x : ReadResult} {A : Arrays} {e : List ℕ} (b : List ℕ) → x ≡ record { verdict = Ok tt; program = A } → e ≡ table_of (code_of (decoded A))
    → Loaded x (Ok tt) b e
loaded_accepted b p q =
    record {
      verdict_is = sym (ap (λ (x : ReadResult). x.verdict) p);
      table_is = q ∙ sym (ap (λ (x : ReadResult). table_after x.verdict x.program b) p);
    }

pub loaded_counted : (f : List ℕ) (n : ℕ) {v : ReadVerdict} {b e : List ℕ} → n ≤ 65536 → Loaded (read_of f) v b e → Loaded (counted_of f n) v b e
loaded_counted f n {v} {b} {e} h l = subst (λ (x : ReadResult). Loaded x v b e) (counted_short f n h) l

pub loaded_overlong : (f : List ℕ) (n : ℕ) (b : List ℕ) → 65536 < n → Loaded (counted_of f n) (Err (Overlong n)) b b
unfolding refuse_of
loaded_overlong f n b h = loaded_refused b (sym (ap (λ (x : ReadResult). x.verdict) (counted_long f n h)))

-- ---- the totals

pub totals_refused : (x : ReadResult) {r : TextRefusal} → x.verdict ≡ Err r → Err r ≡ totals_read x
totals_refused x e = sym (ap (λ (v : ReadVerdict). totals_for v x.program) e)

pub totals_accepted : {x : ReadResult} {A : Arrays} {s : Totals} → x ≡ record { verdict = Ok tt; program = A } → s ≡ totals_of (code_of (decoded A))
    → Ok s ≡ totals_read x
totals_accepted e p = ap (λ (s : Totals). Ok s) p ∙ sym (ap totals_read e)

-- the verdict by which totals are read or refused, and the totals
abbrev totals_in : Totals → Result Totals TextRefusal → Totals
totals_in q (Ok s) = s
totals_in q (Err r) = q

abbrev totals_refusal_in : TextRefusal → Result Totals TextRefusal → TextRefusal
totals_refusal_in q (Ok s) = q
totals_refusal_in q (Err r) = r

abbrev has_totals : Result Totals TextRefusal → Bool
has_totals (Ok s) = true
has_totals (Err r) = false

module _ (x : ReadResult) where
  pub totals_told : {s : Totals} → Ok s ≡ totals_read x → (x.verdict ≡ Ok tt) × (s ≡ totals_of (code_of (decoded x.program)))
  totals_told {s} e = by x.verdict e
    where
      by : (v : ReadVerdict) → Ok s ≡ totals_for v x.program → (v ≡ Ok tt) × (s ≡ totals_of (code_of (decoded x.program)))
      by (Ok u) e = (refl, ap (totals_in s) e)
      by (Err r) e = absurd (false≢true (sym (ap has_totals e)))

  pub totals_refusal : {r : TextRefusal} → Err r ≡ totals_read x → x.verdict ≡ Err r
  totals_refusal {r} e = by x.verdict e
    where
      by : (v : ReadVerdict) → Err r ≡ totals_for v x.program → v ≡ Err r
      by (Ok u) e = absurd (false≢true (ap has_totals e))
      by (Err s) e = ap (λ (y : TextRefusal). Err y) (sym (ap (totals_refusal_in r) e))

-- ---- what a call has by the verdict

pub loaded_verdict : {x : ReadResult} {v w : ReadVerdict} {b e : List ℕ} → Loaded x v b e → v ≡ w → x.verdict ≡ w
loaded_verdict l a = sym l.verdict_is ∙ a

module _ {x : ReadResult} (s : x.verdict ≡ Ok tt → Stored x.program) {v : ReadVerdict} {b e : List ℕ} (l : Loaded x v b e) (a : v ≡ Ok tt) where
  accepted : x.verdict ≡ Ok tt
  accepted = loaded_verdict l a

  table_read : e ≡ table_of (code_of (decoded x.program))
  table_read = l.table_is ∙ ap (λ (v : ReadVerdict). table_after v x.program b) accepted

  pub loaded_cells : 4144 ≡ length e
  loaded_cells = sym (cells (made (s accepted) table_read))

  pub loaded_ready : Ready e
  loaded_ready = made_ready (s accepted) table_read

  pub loaded_code : code_in e ≡ code_of (decoded x.program)
  loaded_code = made_code (s accepted) table_read
