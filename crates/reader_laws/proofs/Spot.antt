-- A text that the automaton does not accept is malformed, and its spot is where it leaves the form; one that has the form is not.
--   viable_part           a part of a text of the form has an ending of bytes
--   rejected_malformed    a text that is not accepted is malformed where it leaves the form
--   spot_unique           no text has two malformed spots
--   form_not_malformed    a text of the form is not malformed
--   formless_malformed    a text that does not have the form is malformed
-- Assumes nothing.
use Prim.Native.Nat.{ℕ}
use mathlib.Core.Path.{◌≡◌, refl}
use mathlib.Core.Bool.{Bool, true, false}
use mathlib.Core.List.{List, ◌++◌}
use lib.ListN.{take}
use Rattle.text.specs.Text.{HasForm, Viable, Malformed}
use Rattle.text.proofs.Spots as Spots
use Rattle.reader_laws.specs.Scan.{text_accepts, text_leaves, live}
use Rattle.reader_laws.proofs.Scanned.{form_accepted}
use Rattle.reader_laws.proofs.Endings.{Ended, ended, left}
use Rattle.reader_laws.proofs.Sound.{sound}

viable_of : (t : List ℕ) → Ended 0 0 t → Viable t
viable_of t e = record { ending = e.ending; bytes = e.bytes; gives = sound _ e.gives }

pub viable_part : (t u : List ℕ) → HasForm (t ++ u) → Viable t
unfolding live
viable_part t u f = viable_of t (ended t u 0 0 refl (form_accepted (t ++ u) f))

pub rejected_malformed : (t : List ℕ) → text_accepts 0 0 t ≡ false → Malformed t (text_leaves 0 0 t)
unfolding live
rejected_malformed t e =
    let l = left t 0 0 refl e in
    Spots.left_malformed HasForm (text_accepts 0 0) form_accepted t (text_leaves 0 0 t) e l.within (viable_of (take (text_leaves 0 0 t) t) l.before) l.dead

pub spot_unique : (t : List ℕ) (s u : ℕ) → Malformed t s → Malformed t u → s ≡ u
spot_unique = Spots.spot_unique HasForm viable_part

pub form_not_malformed : (t : List ℕ) (s : ℕ) → HasForm t → Malformed t s → ⊥
form_not_malformed = Spots.form_not_malformed HasForm viable_part

pub formless_malformed : (t : List ℕ) → (HasForm t → ⊥) → (s : ℕ) × Malformed t s
formless_malformed t f = go (text_accepts 0 0 t) refl
  where
    go : (d : Bool) → text_accepts 0 0 t ≡ d → (s : ℕ) × Malformed t s
    go true e = absurd (f (sound t e))
    go false e = (text_leaves 0 0 t, rejected_malformed t e)
