-- A text is accepted exactly if it is admitted, and then its program's arrays are kept; of a refused text nothing is kept.
-- Assumes nothing.
use mathlib.Core.Path.{◌≡◌, sym, ◌∙◌, ap, subst}
use mathlib.Core.List.{List, []}
use Prim.Native.Nat.{ℕ}
use native.Mathlib.Nat.{suc-ne-zero, lt_irrefl, le_trans}
use lib.ListN.{length}
use Rattle.meaning.specs.Program.{Program}
use Rattle.text.specs.Text.{text_of}
use Rattle.refusals.specs.declared.TextRefusal.{TextRefusal}
use Rattle.program.specs.Arrays.{empty_program}
use Rattle.reader.specs.Verdict.{refuse_of, read_of}
use Rattle.reader_laws.specs.Breach.{hits}
use Rattle.program.specs.Arrays.{kept}
use Rattle.text.specs.Limits.{Limits, Admitted}
use Rattle.reader_laws.proofs.Spot.{form_not_malformed}
use Rattle.reader_laws.proofs.Unique.{text_unique}
use Rattle.reader_laws.proofs.Rows.{Outcome, too_long, left_form, breached, fine, outcome, not_both}
use Rattle.reader_laws.proofs.Within.{within, limits_no_hit}
use Rattle.std.specs.Prelude.{Ok, Err}
use Rattle.reader.specs.declared.ReadResult.{ReadResult}

-- the verdict and program of a refusal
refuses : (t : List ℕ) (r : TextRefusal) → read_of t ≡ refuse_of r → ((read_of t).verdict ≡ Err r) × ((read_of t).program ≡ empty_program)
unfolding refuse_of
refuses t r e = (ap (λ (x : ReadResult). x.verdict) e, ap (λ (x : ReadResult). x.program) e)

pub accepted_admitted : (t : List ℕ) → (read_of t).verdict ≡ Ok tt → (P : Program) × Admitted t P
accepted_admitted t a = go (outcome t)
  where
    no : (r : TextRefusal) → read_of t ≡ refuse_of r → (P : Program) × Admitted t P
    no r e = absurd (not_both a (refuses t r e).0)

    go : Outcome t → (P : Program) × Admitted t P
    go (too_long h e) = no _ e
    go (left_form s h m e) = no _ e
    go (breached P x rest h p hs e) = no _ e
    go (fine P h p hs e) = (P, record { not_overlong = h; its_text = p; limits = within P hs })

pub admitted_answer : (t : List ℕ) (P : Program) → Admitted t P → read_of t ≡ record { verdict = Ok tt; program = kept P }
admitted_answer t P a = go (outcome t)
  where
    none : (Q : Program) → t ≡ text_of Q → hits Q ≡ []
    none Q q = limits_no_hit Q (subst (λ (X : Program). Limits X) (text_unique P Q (sym a.its_text ∙ q)) a.limits)

    go : Outcome t → read_of t ≡ record { verdict = Ok tt; program = kept P }
    go (too_long h e) = absurd (lt_irrefl 65536 (le_trans h a.not_overlong))
    go (left_form s h m e) = absurd (form_not_malformed t s (record { program = P; its_text = a.its_text }) m)
    go (breached Q x rest h q hs e) = absurd (suc-ne-zero (length rest) (ap length (sym hs ∙ none Q q)))
    go (fine Q h q hs e) = e ∙ ap (λ (X : Program). record { verdict = Ok tt; program = kept X }) (text_unique Q P (sym q ∙ a.its_text))

pub refused_empty : (t : List ℕ) (r : TextRefusal) → (read_of t).verdict ≡ Err r → (read_of t).program ≡ empty_program
refused_empty t r v = go (outcome t)
  where
    go : Outcome t → (read_of t).program ≡ empty_program
    go (too_long h e) = (refuses t _ e).1
    go (left_form s h m e) = (refuses t _ e).1
    go (breached P x rest h p hs e) = (refuses t _ e).1
    go (fine P h p hs e) = absurd (not_both (ap (λ (x : ReadResult). x.verdict) e) v)
