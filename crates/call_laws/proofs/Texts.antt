-- What the reader's answer to a text says of the programs that the text could have.
-- Assumes nothing.
use Prim.Native.Nat.{ℕ}
use mathlib.Core.Path.{◌≡◌, refl, sym, ◌∙◌, ap, subst}
use mathlib.Core.List.{List}
use Rattle.meaning.specs.Program.{Program}
use Rattle.text.specs.Limits.{Admitted}
use Rattle.program.specs.Arrays.{decoded}
use Rattle.program.proofs.Decode.{decoded_kept}
use Rattle.refusals.specs.declared.TextRefusal.{TextRefusal}
use Rattle.refusals.specs.Numbers.{text_number, text_spot}
use Rattle.reader.specs.Verdict.{read_of}
use Rattle.reader_laws.specs.Row.{FirstRow}
use Rattle.reader_laws.proofs.Unique.{text_unique}
use Rattle.reader_laws.proofs.Contents.{accepted_admitted, admitted_answer}
use Rattle.reader_laws.proofs.Rows.{answers_first, not_both}
use Rattle.std.specs.Prelude.{Ok, Err}
use Rattle.reader.specs.declared.ReadResult.{ReadResult}

-- an accepted text admits the program that its arrays hold
pub admitted_program : (t : List ℕ) → (read_of t).verdict ≡ Ok tt → Admitted t (decoded (read_of t).program)
admitted_program t e = go (accepted_admitted t e)
  where
    go : ((P : Program) × Admitted t P) → Admitted t (decoded (read_of t).program)
    go (P, a) = subst (Admitted t) (sym (ap (λ (r : ReadResult). decoded r.program) (admitted_answer t P a) ∙ decoded_kept P)) a

-- a text admits one program
pub one_admitted : {t : List ℕ} {P Q : Program} → Admitted t P → Admitted t Q → Q ≡ P
one_admitted {t} {P} {Q} A B = text_unique Q P (sym B.its_text ∙ A.its_text)

module _ (t : List ℕ) (x : TextRefusal) (v : (read_of t).verdict ≡ Err x) where
  -- the row of a refused text is the first one met
  pub refused_row : FirstRow t (text_number x) (text_spot x)
  refused_row = answers_first t (text_number x) (text_spot x) (record { refusal = x; verdict_is = v; row_is = refl; spot_is = refl })

  -- and the text admits no program
  pub refused_admits_none : (P : Program) → Admitted t P → ⊥
  refused_admits_none P a = not_both (ap (λ (r : ReadResult). r.verdict) (admitted_answer t P a)) v
