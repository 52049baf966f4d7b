-- What the form says of a text, in the words of the crate answer_form.
--   OffersModel t e   t is the text of a proper answer with status SATISFIABLE, whose status line ends at e and whose literals are read from e on
--   Judged t f        what each form means
--   judged            `form_of` gives the form that a text has
--   form_malformed, malformed_form   `form_of` says malformed at s just where the text is malformed at s
--   form_model, model_form           it says model at e just where `OffersModel t e`
--   form_none, none_form             it says no model just where the text is that of a proper answer with another status
-- Assumes nothing.
use Prim.Native.Nat.{ℕ}
use mathlib.Core.Path.{◌≡◌, refl, sym, ◌∙◌, ap, subst}
use mathlib.Core.Bool.{Bool, true, false}
use mathlib.Core.List.{List}
use Rattle.lists.specs.Lists.{all}
use Rattle.lists.proofs.Bools.{and_left}
use Rattle.answer_form.specs.Answer.{Status, Answer, one_line, proper, HasAnswerForm, OfStatus, AnswerMalformed}
use Rattle.answer_form.specs.Automaton.{answer_accepts, answer_leaves}
use Rattle.answer_form.specs.Pieces.{Found, status_of, Close, Spotted, Reads}
use Rattle.answer_form.proofs.Accepted.{form_accepted}
use Rattle.answer_form.proofs.Sound.{sound}
use Rattle.answer_form.proofs.Spot.{rejected_malformed, spot_unique, form_not_malformed}
use Rattle.answer_form.proofs.StatusLaws.{status_model, status_none}
use Rattle.answer_form.proofs.Whole.{OfModel, Outcome, whole}
use Rattle.std.specs.Prelude.{Ok, Err}
use Rattle.answer_reader.specs.declared.AnswerFault.TheVariants.{NoModel}
use Rattle.answer_reader.specs.Results.{Formed, malformed, form_for, form_of}
use Rattle.answer_form.specs.Pieces.{OffersModel}

line_end_of : Found → ℕ
line_end_of (Found.satisfiable e) = e
line_end_of (Found.other s) = 0
line_end_of (Found.left s) = 0

-- ---- what each form means

pub data Judged (t : List ℕ) : Formed → Type 0 where
  a_model : (e : ℕ) → OffersModel t e → Judged t (Ok e)
  no_model_lem : (s : Status) → OfStatus t s → Judged t (Err NoModel)
  not_formed : (s : ℕ) → AnswerMalformed t s → Judged t (malformed s)

module _ (t : List ℕ) where
  -- a model with its status line's end
  of_model : (e : ℕ) (xs : List Spotted) → status_of t ≡ Found.satisfiable e → Reads t e xs Close.fine → OfModel t xs → OffersModel t e
  unfolding line_end_of proper
  of_model e xs f r o =
      record {
        before = o.before;
        lines = o.lines;
        literals = o.literals;
        after = o.after;
        is_proper = o.is_proper;
        its_text = o.its_text;
        its_end = ap line_end_of (sym f ∙ ap status_of o.its_text ∙ status_model o.before o.lines o.literals o.after (and_left (all one_line o.before) _ o.is_proper));
        its_literals = subst (λ (ys : List Spotted). Reads t e ys Close.fine) o.its_spots r;
      }

  model_formed : (e : ℕ) → OffersModel t e → HasAnswerForm t
  model_formed e m = record { answer = Answer.model m.before m.lines m.literals m.after; is_proper = m.is_proper; its_text = m.its_text }

  none_formed : (s : Status) → OfStatus t s → HasAnswerForm t
  none_formed s o = record { answer = Answer.no_model o.before s o.rest; is_proper = o.is_proper; its_text = o.its_text }

  -- the form by the status and the automaton
  form_accepts : (e : ℕ) → status_of t ≡ Found.satisfiable e → answer_accepts 0 t ≡ true → form_of t ≡ Ok e
  unfolding form_of
  form_accepts e f a = ap (form_for t) f ∙ rw a

  form_rejects : (e : ℕ) → status_of t ≡ Found.satisfiable e → answer_accepts 0 t ≡ false → form_of t ≡ malformed (answer_leaves 0 t)
  unfolding form_of
  form_rejects e f a = ap (form_for t) f ∙ rw a

  form_of_other : (s : Status) → status_of t ≡ Found.other s → form_of t ≡ Err NoModel
  unfolding form_of
  form_of_other s f = ap (form_for t) f

  form_of_left : (s : ℕ) → status_of t ≡ Found.left s → form_of t ≡ malformed s
  unfolding form_of
  form_of_left s f = ap (form_for t) f

  as_formed : (f : Formed) → form_of t ≡ f → Judged t f → Judged t (form_of t)
  as_formed f e j = subst (Judged t) (sym e) j

  pub judged : Judged t (form_of t)
  judged = go (whole t)
    where
      behind : (e s : ℕ) → status_of t ≡ Found.satisfiable e → AnswerMalformed t s → (d : Bool) → answer_accepts 0 t ≡ d → Judged t (form_of t)
      behind e s f m true a = absurd (form_not_malformed t s (sound t a) m)
      behind e s f m false a = as_formed (malformed (answer_leaves 0 t)) (form_rejects e f a) (not_formed (answer_leaves 0 t) (rejected_malformed t a))

      go : Outcome t → Judged t (form_of t)
      go (Outcome.a_model e xs f r o) =
          let m = of_model e xs f r o in
          as_formed (Ok e) (form_accepts e f (form_accepted t (model_formed e m))) (a_model e m)
      go (Outcome.no_model_lem s f o) = as_formed (Err NoModel) (form_of_other s f) (no_model_lem s o)
      go (Outcome.left_before s f m) = as_formed (malformed s) (form_of_left s f) (not_formed s m)
      go (Outcome.left_behind e s xs f r m) = behind e s f m (answer_accepts 0 t) refl

  -- ---- each form, both ways

  pub form_malformed : (s : ℕ) → form_of t ≡ malformed s → AnswerMalformed t s
  form_malformed s e = go (subst (Judged t) e judged)
    where
      go : Judged t (malformed s) → AnswerMalformed t s
      go (not_formed k m) = m

  pub malformed_form : (s : ℕ) → AnswerMalformed t s → form_of t ≡ malformed s
  malformed_form s m = go (form_of t) judged
    where
      go : (f : Formed) → Judged t f → f ≡ malformed s
      go f (a_model e w) = absurd (form_not_malformed t s (model_formed e w) m)
      go f (no_model_lem r w) = absurd (form_not_malformed t s (none_formed r w) m)
      go f (not_formed k w) = ap malformed (spot_unique t k s w m)

  pub form_model : (e : ℕ) → form_of t ≡ Ok e → OffersModel t e
  form_model e f = go (subst (Judged t) f judged)
    where
      go : Judged t (Ok e) → OffersModel t e
      go (a_model k m) = m

  pub model_form : (e : ℕ) → OffersModel t e → form_of t ≡ Ok e
  unfolding proper
  model_form e m =
      form_accepts e
      (ap status_of m.its_text ∙ status_model m.before m.lines m.literals m.after (and_left (all one_line m.before) _ m.is_proper)
      ∙ ap Found.satisfiable (sym m.its_end))
      (form_accepted t (model_formed e m))

  pub form_none : form_of t ≡ Err NoModel → (s : Status) × OfStatus t s
  form_none f = go (subst (Judged t) f judged)
    where
      go : Judged t (Err NoModel) → (s : Status) × OfStatus t s
      go (no_model_lem s o) = (s, o)

  pub none_form : (s : Status) → OfStatus t s → form_of t ≡ Err NoModel
  unfolding proper
  none_form s o = form_of_other s (ap status_of o.its_text ∙ status_none o.before s o.rest o.is_proper)
