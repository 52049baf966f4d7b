-- The reader's loop against the fold: one turn, a byte past the form, and the text's end.
-- Assumes nothing.
use Prim.Native.Nat.{ℕ, ◌+◌, ◌≤◌, ◌<◌}
use native.Mathlib.Numerals.{add-one}
use mathlib.Core.Path.{◌≡◌, refl, sym, ◌∙◌, ap, subst}
use mathlib.Core.Bool.{Bool, true, false, not, cond, true≢false, false≢true}
use mathlib.Core.List.{List}
use lib.Dec.{eqb}
use lib.ListN.{length, get_or, drop, drop_of_length-le}
use lib.Seq.{drop-cons}
use borrow.Author.Tests.{eq-eqb, ne_eqb}
use denote.Enum.Bare.{sameb}
use Rattle.program.specs.declared.Program.{Program}
use Rattle.reader_form.specs.Automaton.{Step, form_step}
use Rattle.reader_form.specs.contracts.Mode.{the_type}
use Rattle.reader_form.specs.declared.Mode.{Mode}
use Rattle.reader_form.specs.declared.Mode.TheVariants.{AtPlace, InZero, InNumber, AtSpace, Dead}
use Rattle.reader_form.specs.declared.FormState.{FormState}
use Rattle.reader_form.specs.Numbers.{mode_number, numbered}
use Rattle.reader_form.proofs.Modes.{at_place}
use Rattle.reader_work.specs.Numbers.{with_arrays}
use Rattle.reader_work.specs.declared.Token.{Token}
use Rattle.reader_work.specs.Work.{Tally, refused_of, value_after, begin_after, work_of, work_heads, work_starts, work_bodies}
use Rattle.reader_work.specs.Fold.{State, advance, dead_at, malformed, ended, read_from, Ends}

pub ends_of_lem : (c : Tally) (h st b : List ℕ) (s w : State) → s ≡ w → Ends c h st b s → Ends c h st b w
ends_of_lem c h st b s w e x = subst (λ (w : State). Ends c h st b w) e x

module _ (t : List ℕ) (i : ℕ) (s w : State) (inv : read_from s i (drop i t) ≡ w) where
  turn : i < length t → read_from s i (drop i t)
      ≡ cond (dead_at s (get_or t i 0)) (malformed s i) (read_from (advance s i (get_or t i 0)) (i + 1) (drop (i + 1) t))
  unfolding read_from
  turn h = rw (drop-cons t i 0 h, add-one)

  stop : length t ≤ i → read_from s i (drop i t) ≡ ended s i
  unfolding read_from
  stop h = rw (drop_of_length-le t h)

  pub goes : (s' : State) → i < length t → dead_at s (get_or t i 0) ≡ false → s' ≡ advance s i (get_or t i 0) → read_from s' (i + 1) (drop (i + 1) t) ≡ w
  goes s' h d e = ap (λ (x : State). read_from x (i + 1) (drop (i + 1) t)) e ∙ sym (turn h ∙ rw d) ∙ inv

  pub dies : (r : Tally) → i < length t → dead_at s (get_or t i 0) ≡ true → r ≡ refused_of s.counts 2 i → Ends r s.heads s.starts s.bodies w
  dies r h d e =
      ends_of_lem r s.heads s.starts s.bodies (malformed s i) w (sym (turn h ∙ rw d) ∙ inv)
      (record { ends_counts = e; ends_heads = refl; ends_starts = refl; ends_bodies = refl })

  pub stops_place : (r : Tally) → length t ≤ i → (s.k ≡ 10 → ⊥) → r ≡ refused_of s.counts 2 i → Ends r s.heads s.starts s.bodies w
  unfolding ended
  stops_place r h d e =
      ends_of_lem r s.heads s.starts s.bodies (malformed s i) w (sym (stop h ∙ rw (ne_eqb s.k 10 d)) ∙ inv)
      (record { ends_counts = e; ends_heads = refl; ends_starts = refl; ends_bodies = refl })

  pub stops_mode : (r : Tally) → length t ≤ i → s.k ≡ 10 → eqb s.mode 0 ≡ false → r ≡ refused_of s.counts 2 i → Ends r s.heads s.starts s.bodies w
  unfolding ended
  stops_mode r h p d e =
      ends_of_lem r s.heads s.starts s.bodies (malformed s i) w (sym (stop h ∙ rw (eq-eqb s.k 10 p, d)) ∙ inv)
      (record { ends_counts = e; ends_heads = refl; ends_starts = refl; ends_bodies = refl })

  pub stops : length t ≤ i → s.k ≡ 10 → eqb s.mode 0 ≡ true → Ends s.counts s.heads s.starts s.bodies w
  unfolding ended
  stops h p q =
      ends_of_lem s.counts s.heads s.starts s.bodies s w (sym (stop h ∙ rw (eq-eqb s.k 10 p, q)) ∙ inv)
      (record { ends_counts = refl; ends_heads = refl; ends_starts = refl; ends_bodies = refl })

-- the state after a turn, from what the turn's calls give
pub advanced : (s : State) (i b : ℕ) (p : Step) (x : Token) (c : Tally) (A B : Program)
    → p ≡ form_step s.k s.mode b
    → c ≡ work_of p.act s.k s.value s.begin i s.counts
    → A ≡ with_arrays B (work_heads p.act s.k s.value s.counts s.heads) (work_starts p.act s.counts s.starts) (work_bodies p.act s.k s.value s.counts s.bodies)
    → x ≡ record { k = p.k; value = value_after p.act s.value b; begin = begin_after p.act s.begin i }
    → ◌≡◌ {A = State} (record { k = x.k; mode = p.mode; value = x.value; begin = x.begin; counts = c; heads = A.heads; starts = A.starts; bodies = A.bodies }) (advance s i b)
advanced s i b p x c A B ep ec ea ex = rw (ec, ea, ex, ep)

-- ---- the test of the mode

at_dead : (m : Mode) → sameb the_type m Dead ≡ eqb (mode_number m) 4
at_dead AtPlace = refl
at_dead InZero = refl
at_dead InNumber = refl
at_dead AtSpace = refl
at_dead Dead = refl

pub dead_is : (k mode b : ℕ) (p : FormState) (r d : Bool) → numbered p ≡ form_step k mode b → r ≡ sameb the_type p.mode Dead → r ≡ d
    → eqb (form_step k mode b).mode 4 ≡ d
dead_is k mode b p r d e t h = ap (λ (q : Step). eqb q.mode 4) (sym e) ∙ sym (at_dead p.mode) ∙ sym t ∙ h

unnot : (a d : Bool) → not a ≡ not d → a ≡ d
unnot true true e = refl
unnot true false e = absurd (false≢true e)
unnot false true e = absurd (true≢false e)
unnot false false e = refl

pub place_is : (m : Mode) (r d : Bool) → r ≡ not (sameb the_type m AtPlace) → r ≡ not d → eqb (mode_number m) 0 ≡ d
place_is m r d e h = sym (at_place m) ∙ unnot (sameb the_type m AtPlace) d (sym e ∙ h)
