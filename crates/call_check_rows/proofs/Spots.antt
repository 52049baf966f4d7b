-- The literals of an answer: one list, whose spots ascend.
--   offers_unique     a text offers one list of literals
--   spots_ascend      their first bytes stand one after the other
--   offers_form, form_offers   they are those that are read where the form says model
--   offers_named      each is of a variable from 1 on
-- Assumes nothing.
use Prim.Native.Nat.{ℕ, zero, suc, ◌≤◌, ◌<◌}
use native.Mathlib.Nat.{le_of_suc-le-suc, le_trans}
use native.Mathlib.Omega.{arith}
use mathlib.Core.Path.{◌≡◌, refl, sym, ◌∙◌, ap, subst}
use mathlib.Core.List.{List}
use lib.ListN.{length, drop}
use Rattle.encoding.specs.Literal.{Literal}
use Rattle.answer_form.specs.Answer.{Answer, answer_text}
use Rattle.answer_form.specs.Pieces.{Next, next_literal, Close, Spotted, Reads, status_end, spots_of}
use Rattle.answer_form.proofs.Passing.{Heard, next_heard}
use Rattle.answer_form.proofs.PieceLaws.{reads_model}
use Rattle.answer_form.proofs.Unique.{answer_unique}
use Rattle.answer_reader.specs.Results.{form_of}
use Rattle.std.specs.Prelude.{Ok}
use Rattle.answer_form.specs.Pieces.{OffersModel}
use Rattle.answer_reader.proofs.Promised.{form_model, model_form}
use Rattle.answer_values.specs.Assign.{literals_from, spot_at}
use Rattle.answer_values.proofs.Steps.{AllNamed}
use Rattle.answer_values.proofs.Taking.{literals_read}
use Rattle.answer_values.proofs.Rows.{literals_named}
use Rattle.call_check_rows.specs.Rows.{Offers}

-- ---- the first bytes of literals that are read

next_spot : (t : List ℕ) (p : ℕ) (l : Literal) (f j : ℕ) → next_literal t p ≡ Next.literal l f j → (p ≤ f) × (f < j)
next_spot t p l f j e = go (subst (Heard 35 p (drop p t)) e (next_heard t p))
  where
    go : Heard 35 p (drop p t) (Next.literal l f j) → (p ≤ f) × (f < j)
    go (Heard.a_literal m g k n o h i q s) = (h, i)

module _ (t : List ℕ) where
  behind_start : {p : ℕ} {xs : List Spotted} {c : Close} → Reads t p xs c → (k : ℕ) → k < length xs → p ≤ spot_at xs k
  behind_start {p} (Reads.more l f j e r) zero h = (next_spot t p l f j e).0
  behind_start {p} (Reads.more {xs = xs} l f j e r) (suc k) h =
      let n = next_spot t p l f j e in
      omega (arith, n.0, n.1, behind_start r k (le_of_suc-le-suc h))
  behind_start (Reads.ends j e d) k h = absurd (omega (arith, h))
  behind_start (Reads.breaks s e) k h = absurd (omega (arith, h))

  reads_ascend : {p : ℕ} {xs : List Spotted} {c : Close} → Reads t p xs c → (i j : ℕ) → i < j → j < length xs → spot_at xs i < spot_at xs j
  reads_ascend {p} (Reads.more l f b e r) zero zero g h = absurd (omega (arith, g))
  reads_ascend {p} (Reads.more l f b e r) zero (suc j) g h = le_trans (next_spot t p l f b e).1 (behind_start r j (le_of_suc-le-suc h))
  reads_ascend {p} (Reads.more l f b e r) (suc i) zero g h = absurd (omega (arith, g))
  reads_ascend {p} (Reads.more l f b e r) (suc i) (suc j) g h = reads_ascend r i j (le_of_suc-le-suc g) (le_of_suc-le-suc h)
  reads_ascend (Reads.ends b e d) i j g h = absurd (omega (arith, h))
  reads_ascend (Reads.breaks s e) i j g h = absurd (omega (arith, h))

-- ---- the literals of an answer

module _ {u : List ℕ} where
  pub offers_unique : {xs ys : List Spotted} → Offers u xs → Offers u ys → xs ≡ ys
  offers_unique o w =
      o.literals_are
      ∙ ap spots_of
      (answer_unique (Answer.model o.before o.lines o.last o.after) (Answer.model w.before w.lines w.last w.after) o.is_proper w.is_proper
      (sym o.its_text ∙ w.its_text))
      ∙ sym w.literals_are

  module _ {xs : List Spotted} (o : Offers u xs) where
    abbrev line_end : ℕ
    line_end = status_end o.before

    reads : Reads u line_end xs Close.fine
    reads =
        subst (λ (w : List ℕ). Reads w line_end xs Close.fine) (sym o.its_text)
        (subst (λ (ys : List Spotted). Reads (answer_text (Answer.model o.before o.lines o.last o.after)) line_end ys Close.fine) (sym o.literals_are) (reads_model o.before o.lines o.last o.after o.is_proper))

    pub spots_ascend : (i j : ℕ) → i < j → j < length xs → spot_at xs i < spot_at xs j
    spots_ascend = reads_ascend u reads

    pub offers_named : AllNamed xs
    offers_named = subst AllNamed (literals_read u reads) (literals_named u line_end)

    pub offers_form : form_of u ≡ Ok (status_end o.before)
    offers_form =
        model_form u line_end
        (record {
          before = o.before;
          lines = o.lines;
          literals = o.last;
          after = o.after;
          is_proper = o.is_proper;
          its_text = o.its_text;
          its_end = refl;
          its_literals = subst (λ (ys : List Spotted). Reads u line_end ys Close.fine) o.literals_are reads;
        })

  pub form_offers : (e : ℕ) → form_of u ≡ Ok e → Offers u (literals_from u e)
  form_offers e f = go (form_model u e f)
    where
      go : OffersModel u e → Offers u (literals_from u e)
      go m =
          record {
            before = m.before;
            lines = m.lines;
            last = m.literals;
            after = m.after;
            is_proper = m.is_proper;
            its_text = m.its_text;
            literals_are = literals_read u m.its_literals;
          }
