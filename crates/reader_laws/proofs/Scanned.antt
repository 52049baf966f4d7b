-- What the fold says of a text that the automaton does not accept, and that a text of the form is accepted.
-- Assumes nothing.
use Prim.Native.Nat.{ℕ, suc, ◌+◌}
use native.Mathlib.Nat.{add-zero, suc-ne-zero}
use native.Mathlib.Omega.{arith}
use mathlib.Core.Path.{◌≡◌, refl, sym, ◌∙◌, ap, subst}
use mathlib.Core.Logic.{◌⊎◌, inl, inr}
use mathlib.Core.Bool.{Bool, true, false, ◌&&◌, So, cond, true≢false}
use mathlib.Core.List.{List, [], ◌∷◌}
use lib.Dec.{eqb}
use Rattle.lists.proofs.Bools.{So-or-not}
use Rattle.text.specs.Text.{HasForm}
use Rattle.reader_form.specs.Automaton.{form_step}
use Rattle.reader_work.specs.Work.{Tally}
use Rattle.reader_work.specs.Fold.{State, advance, malformed, ended, read_from}
use Rattle.reader_laws.specs.Judge.{Work}
use Rattle.reader_laws.specs.Scan.{text_accepts, text_leaves}
use Rattle.reader_laws.proofs.Values.{state_of, read_text}
use Rattle.reader_laws.proofs.Frozen.{judged_frozen}

-- the counts of a text refused with 2 at s
pub record MalformedAt (c : Tally) (s : ℕ) : Type 0 where
  pub row : c.number ≡ 2
  pub spot : c.spot ≡ s

pub read_rejects : (t : List ℕ) (s : State) (i : ℕ) → text_accepts s.k s.mode t ≡ false → MalformedAt (read_from s i t).counts (i + text_leaves s.k s.mode t)
unfolding read_from text_accepts text_leaves ended
read_rejects [] s i e = go (eqb s.k 10) (eqb s.mode 0) e
  where
    go : (a b : Bool) → (a && b) ≡ false → MalformedAt (cond a (cond b s (malformed s i)) (malformed s i)).counts (i + 0)
    go true true e = absurd (true≢false e)
    go true false e = record { row = refl; spot = sym (add-zero i) }
    go false b e = record { row = refl; spot = sym (add-zero i) }
read_rejects (b ∷ t) s i e = go (eqb (form_step s.k s.mode b).mode 4) e (read_rejects t (advance s i b) (i + 1))
  where
    A : Bool
    A = text_accepts (form_step s.k s.mode b).k (form_step s.k s.mode b).mode t

    L : ℕ
    L = text_leaves (form_step s.k s.mode b).k (form_step s.k s.mode b).mode t

    go : (d : Bool) → cond d false A ≡ false → (A ≡ false → MalformedAt (read_from (advance s i b) (i + 1) t).counts (i + 1 + L))
        → MalformedAt (cond d (malformed s i) (read_from (advance s i b) (i + 1) t)).counts (i + cond d 0 (suc L))
    go true e ih = record { row = refl; spot = sym (add-zero i) }
    go false e ih = subst (λ (x : ℕ). MalformedAt (read_from (advance s i b) (i + 1) t).counts x) (omega arith) (ih e)

-- a work that is refused by no row of the text: it shows that the fold reads a text of the form to its end
held : Work
held = record { counts = record { atoms = 0; rules = 0; held = 0; prev = 0; number = 9; spot = 0 }; heads = []; starts = []; bodies = [] }

pub form_accepted : (t : List ℕ) → HasForm t → text_accepts 0 0 t ≡ true
unfolding held
form_accepted t f = go (So-or-not (text_accepts 0 0 t))
  where
    -- the fold ends with the number that it began with
    kept : (read_from (state_of 0 0 0 0 held) 0 t).counts.number ≡ 9
    kept =
        ap (λ (u : List ℕ). (read_from (state_of 0 0 0 0 held) 0 u).counts.number) f.its_text
        ∙ ap (λ (s : State). s.counts.number) (read_text f.program held)
        ∙ ap (λ (W : Work). W.counts.number) (judged_frozen held (λ e. suc-ne-zero 8 e) f.program)

    nine : (read_from (state_of 0 0 0 0 held) 0 t).counts.number ≡ 2 → ⊥
    nine e = omega (arith, kept, e)

    go : ◌⊎◌ (So (text_accepts 0 0 t)) (text_accepts 0 0 t ≡ false) → text_accepts 0 0 t ≡ true
    go (inl a) = a
    go (inr e) = absurd (nine (read_rejects t (state_of 0 0 0 0 held) 0 e).row)
