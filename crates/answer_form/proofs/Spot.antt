-- A text that is not accepted is malformed, and its spot is where it leaves the form; one that has the form is not.
--   ends                  every state but the dead one has an ending of bytes
--   viable_part           a part of a text of the form has one
--   rejected_malformed    a text that is not accepted is malformed where it leaves the form
--   spot_unique           no text has two malformed spots
--   form_not_malformed    a text of the form is not malformed
--   formless_malformed    a text that does not have the form is malformed
-- Assumes nothing.
use Prim.Native.Nat.{ℕ, pred, ◌<◌}
use native.Mathlib.Omega.{arith}
use mathlib.Core.Path.{◌≡◌, refl}
use mathlib.Core.Bool.{Bool, true, false, ◌&&◌}
use mathlib.Core.List.{List, [], ◌++◌}
use lib.Dec.{eqb}
use lib.ListN.{take}
use borrow.Author.Tests.{eqb-false}
use Rattle.lists.specs.Lists.{all_to}
use Rattle.lists.specs.Ascii.{ascii}
use Rattle.lists.proofs.Bools.{and_left, and_right}
use Rattle.lists.proofs.Tests.{all_to_at}
use Rattle.text.specs.Bytes.{are_bytes}
use Rattle.text.proofs.Spots as Spots
use Rattle.reader_form.specs.Automaton.{digit_test}
use Rattle.answer_form.specs.Machine.{accepted_by}
use Rattle.answer_form.specs.Answer.{HasAnswerForm, AnswerViable, AnswerMalformed}
use Rattle.answer_form.specs.Automaton.{status_bytes, status_at, status_next, status_turn, status_step, seek_step, literal_step, end_step, answer_step, may_end, answer_accepts, answer_leaves, late_ends, answer_end}
use Rattle.answer_form.proofs.Machine.{Ended, ended, left}
use Rattle.answer_form.proofs.Steps.{step_dead, step_within}
use Rattle.answer_form.proofs.Accepted.{form_accepted}
use Rattle.answer_form.proofs.Sound.{sound}

-- the endings of all states, computed once: they are accepted, and made of bytes
endings : all_to 43 (λ q. answer_accepts (pred q) (answer_end (pred q)) && are_bytes (answer_end (pred q))) ≡ true
unfolding accepted_by answer_end late_ends ascii answer_step status_step status_at status_bytes status_next status_turn seek_step literal_step end_step digit_test may_end
endings = refl

pub ends : (q : ℕ) → q < 43 → Ended answer_step may_end q []
ends q h =
    let t = all_to_at 43 (λ q. answer_accepts (pred q) (answer_end (pred q)) && are_bytes (answer_end (pred q))) endings q h in
    let e = answer_end q in
    record { ending = e; bytes = and_right (answer_accepts q e) (are_bytes e) t; gives = and_left (answer_accepts q e) (are_bytes e) t }

lively : (q b : ℕ) → q < 43 → eqb (answer_step q b) 43 ≡ false → answer_step q b < 43
lively q b h n = omega (arith, step_within q b, eqb-false (answer_step q b) 43 n)

viable_of : (t : List ℕ) → Ended answer_step may_end 0 t → AnswerViable t
viable_of t e = record { ending = e.ending; bytes = e.bytes; gives = sound _ e.gives }

pub viable_part : (t u : List ℕ) → HasAnswerForm (t ++ u) → AnswerViable t
unfolding may_end
viable_part t u f = viable_of t (ended answer_step may_end 43 step_dead refl (λ q. q < 43) lively ends t u 0 (omega arith) (form_accepted (t ++ u) f))

pub rejected_malformed : (t : List ℕ) → answer_accepts 0 t ≡ false → AnswerMalformed t (answer_leaves 0 t)
unfolding may_end
rejected_malformed t e =
    let l = left answer_step may_end 43 step_dead refl (λ q. q < 43) lively ends t 0 (omega arith) e in
    Spots.left_malformed HasAnswerForm (answer_accepts 0) form_accepted t (answer_leaves 0 t) e l.within (viable_of (take (answer_leaves 0 t) t) l.before) l.gone

pub spot_unique : (t : List ℕ) (s u : ℕ) → AnswerMalformed t s → AnswerMalformed t u → s ≡ u
spot_unique = Spots.spot_unique HasAnswerForm viable_part

pub form_not_malformed : (t : List ℕ) (s : ℕ) → HasAnswerForm t → AnswerMalformed t s → ⊥
form_not_malformed = Spots.form_not_malformed HasAnswerForm viable_part

pub formless_malformed : (t : List ℕ) → (HasAnswerForm t → ⊥) → (s : ℕ) × AnswerMalformed t s
formless_malformed t f = go (answer_accepts 0 t) refl
  where
    go : (d : Bool) → answer_accepts 0 t ≡ d → (s : ℕ) × AnswerMalformed t s
    go true e = absurd (f (sound t e))
    go false e = (answer_leaves 0 t, rejected_malformed t e)
