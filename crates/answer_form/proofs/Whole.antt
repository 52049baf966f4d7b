-- What a text is, by what is read of it piece by piece (specs/Reading.antt).
--   OfModel t xs          t is the text of a proper answer with status SATISFIABLE whose literals stand as in xs
--   status_left           a text that leaves the form up to its status line is malformed there
--   status_other          a text with another status line is that of an answer with it
--   literals_left         a text that leaves the form after "s SATISFIABLE" is malformed there
--   literals_fine         a text that is read to its end is that of one answer, with the literals that are read
--   status_within         the status line ends within the text
--   whole                 each text is one of these
-- Assumes nothing.
use Prim.Native.Nat.{ℕ, ◌+◌, ◌≤◌}
use native.Mathlib.Nat.{zero-add}
use native.Mathlib.Omega.{arith}
use mathlib.Core.Path.{◌≡◌, refl, sym, ◌∙◌, ap, subst}
use mathlib.Core.Bool.{So}
use mathlib.Core.List.{List}
use lib.ListN.{length, drop}
use Rattle.lists.specs.Lists.{all}
use Rattle.lists.proofs.Bools.{and_left}
use Rattle.encoding.specs.Literal.{Literal}
use Rattle.answer_form.specs.Answer.{Comment, Line, Status, Answer, one_line, proper, answer_text, HasAnswerForm, OfStatus, AnswerMalformed}
use Rattle.answer_form.specs.Pieces.{Found, status_of, Close, Spotted, Reads, status_end, spots_of}
use Rattle.answer_form.proofs.Sound.{sound}
use Rattle.answer_form.proofs.Spot.{rejected_malformed}
use Rattle.answer_form.proofs.Passing.{Passes, Fails, fail_then, Closed}
use Rattle.answer_form.proofs.StatusLaws.{Told, status_told, status_model, status_none}
use Rattle.answer_form.proofs.PieceLaws.{reads_closed, reads_total, reads_unique, reads_model}

pub record OfModel (t : List ℕ) (xs : List Spotted) : Type 0 where
  pub before : List Comment
  pub lines : List Line
  pub literals : List Literal
  pub after : List Comment
  pub is_proper : So (proper (Answer.model before lines literals after))
  pub its_text : t ≡ answer_text (Answer.model before lines literals after)
  pub its_spots : xs ≡ spots_of (Answer.model before lines literals after)

-- ---- the kinds of status, told apart

line_end_of : Found → ℕ
line_end_of (Found.satisfiable e) = e
line_end_of (Found.other s) = 0
line_end_of (Found.left s) = 0

status_in : Found → Status
status_in (Found.satisfiable e) = Status.unknown
status_in (Found.other s) = s
status_in (Found.left s) = Status.unknown

kind : Found → ℕ
kind (Found.satisfiable e) = 0
kind (Found.other s) = 1
kind (Found.left s) = 2

module _ (t : List ℕ) where
  told_as : (x : Found) → status_of t ≡ x → Told 0 t x
  told_as x e = subst (λ (y : Found). Told 0 t y) e (status_told t)

  -- a text that is rejected after n bytes
  malformed_at : (s n : ℕ) → s ≡ 0 + n → Fails 0 t n → AnswerMalformed t s
  malformed_at s n e f = subst (λ (k : ℕ). AnswerMalformed t k) (f.leave ∙ sym (zero-add n) ∙ sym e) (rejected_malformed t f.reject)

  pub status_left : (s : ℕ) → status_of t ≡ Found.left s → AnswerMalformed t s
  status_left s e = go (told_as (Found.left s) e)
    where
      go : Told 0 t (Found.left s) → AnswerMalformed t s
      go (Told.is_left k n f x) = malformed_at s n f x

  pub status_within : (e : ℕ) → status_of t ≡ Found.satisfiable e → e ≤ length t
  status_within e f = go (told_as (Found.satisfiable e) f)
    where
      go : Told 0 t (Found.satisfiable e) → e ≤ length t
      go (Told.a_model k n h p) = omega (arith, h, p.within)

  -- how the automaton goes on from the end of "s SATISFIABLE"
  from_line_end : (e : ℕ) → status_of t ≡ Found.satisfiable e → Passes 0 t 35 e
  from_line_end e f = go (told_as (Found.satisfiable e) f)
    where
      go : Told 0 t (Found.satisfiable e) → Passes 0 t 35 e
      go (Told.a_model k n h p) = subst (λ (j : ℕ). Passes 0 t 35 j) (sym (h ∙ zero-add n)) p

  pub literals_left : (e s : ℕ) (xs : List Spotted) → status_of t ≡ Found.satisfiable e → Reads t e xs (Close.left s) → AnswerMalformed t s
  literals_left e s xs f r = go (reads_closed t r)
    where
      go : Closed 35 e (drop e t) (Close.left s) → AnswerMalformed t s
      go (Closed.is_left k n h x) = malformed_at s (e + n) (omega (arith, h)) (fail_then 0 35 e n t (from_line_end e f) x)

  -- an accepted text, by its status
  accepted_model : (e : ℕ) → status_of t ≡ Found.satisfiable e → (xs : List Spotted) → Reads t e xs Close.fine → HasAnswerForm t → OfModel t xs
  unfolding proper kind line_end_of
  accepted_model e f xs r h = go h.answer h.is_proper h.its_text
    where
      go : (a : Answer) → So (proper a) → t ≡ answer_text a → OfModel t xs
      go (Answer.model before lines literals after) p is =
          let m = ap status_of is ∙ status_model before lines literals after (and_left (all one_line before) _ p) in
          let w = subst (λ (u : List ℕ). Reads u (status_end before) (spots_of (Answer.model before lines literals after)) Close.fine) (sym is)
          (reads_model before lines literals after p) in
          record {
            before = before;
            lines = lines;
            literals = literals;
            after = after;
            is_proper = p;
            its_text = is;
            its_spots = (reads_unique t (subst (λ (k : ℕ). Reads t k xs Close.fine) (ap line_end_of (sym f ∙ m)) r) w).0;
          }
      go (Answer.no_model before s rest) p is =
          absurd (omega (arith, ap kind (sym f ∙ ap status_of is ∙ status_none before s rest p)))

  pub literals_fine : (e : ℕ) (xs : List Spotted) → status_of t ≡ Found.satisfiable e → Reads t e xs Close.fine → OfModel t xs
  literals_fine e xs f r = go (reads_closed t r)
    where
      go : Closed 35 e (drop e t) Close.fine → OfModel t xs
      go (Closed.is_fine a) = accepted_model e f xs r (sound t ((from_line_end e f).accept ∙ a))

  accepted_other : (s : Status) → status_of t ≡ Found.other s → HasAnswerForm t → OfStatus t s
  unfolding proper kind status_in
  accepted_other s f h = go h.answer h.is_proper h.its_text
    where
      go : (a : Answer) → So (proper a) → t ≡ answer_text a → OfStatus t s
      go (Answer.model before lines literals after) p is =
          absurd (omega (arith, ap kind (sym f ∙ ap status_of is ∙ status_model before lines literals after (and_left (all one_line before) _ p))))
      go (Answer.no_model before r rest) p is =
          let same : r ≡ s = ap status_in (sym (ap status_of is ∙ status_none before r rest p) ∙ f) in
          record { before = before; rest = rest; is_proper = p; its_text = is ∙ ap (λ (z : Status). answer_text (Answer.no_model before z rest)) same }

  pub status_other : (s : Status) → status_of t ≡ Found.other s → OfStatus t s
  status_other s e = go (told_as (Found.other s) e)
    where
      go : Told 0 t (Found.other s) → OfStatus t s
      go (Told.another r a) = accepted_other s e (sound t a)

-- ---- every text

pub data Outcome (t : List ℕ) : Type 0 where
  a_model : (e : ℕ) (xs : List Spotted) → status_of t ≡ Found.satisfiable e → Reads t e xs Close.fine → OfModel t xs → Outcome t
  no_model_lem : (s : Status) → status_of t ≡ Found.other s → OfStatus t s → Outcome t
  left_before : (s : ℕ) → status_of t ≡ Found.left s → AnswerMalformed t s → Outcome t
  left_behind : (e s : ℕ) (xs : List Spotted) → status_of t ≡ Found.satisfiable e → Reads t e xs (Close.left s) → AnswerMalformed t s → Outcome t

pub whole : (t : List ℕ) → Outcome t
whole t = go (status_of t) refl
  where
    behind : (e : ℕ) → status_of t ≡ Found.satisfiable e → (xs : List Spotted) (c : Close) → Reads t e xs c → Outcome t
    behind e f xs Close.fine r = a_model e xs f r (literals_fine t e xs f r)
    behind e f xs (Close.left s) r = left_behind e s xs f r (literals_left t e s xs f r)

    go : (x : Found) → status_of t ≡ x → Outcome t
    go (Found.satisfiable e) f = let r = reads_total t e (status_within t e f) in behind e f r.0 r.1 r.2
    go (Found.other s) f = no_model_lem s f (status_other t s f)
    go (Found.left s) f = left_before s f (status_left t s f)
