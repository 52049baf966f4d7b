-- One turn of each loop of src/lib.rt, and its end. A loop's invariant: what is read of the rest is what is read of the whole.
--   close_goes, close_dies, close_fine, close_short   the bytes after literal 0
--   next_behind, next_lost                            the next literal, by the next space
-- Assumes nothing.
use Prim.Native.Nat.{ℕ, ◌+◌, ◌≤◌, ◌<◌, max}
use native.Mathlib.Omega.{arith}
use mathlib.Core.Logic.{⊎_elim}
use mathlib.Core.Path.{◌≡◌, refl, sym, ◌∙◌, ap}
use mathlib.Core.Bool.{Bool, true, false, cond}
use mathlib.Core.List.{List, [], ◌∷◌}
use lib.Dec.{eqb}
use lib.ListN.{length, get_or, drop}
use lib.Seq.{drop-drop}
use Rattle.answer_form.specs.Automaton.{seek_step, end_step}
use Rattle.answer_form.specs.Pieces.{Close, close_from, close_of, Next, literal_from, seek_from, next_literal}
use Rattle.answer_form.proofs.Turns.{close_turn, close_stop}
use Rattle.std.specs.Prelude.{Option, Some, None, Result, Ok, Err}
use Rattle.lists.proofs.Tests.{le_or_lt}
use Rattle.answer_reader.specs.declared.Token.{Token}
use Rattle.answer_words.specs.declared.Tail.{Tail}
use Rattle.answer_words.specs.declared.Tail.TheVariants as tail
use Rattle.answer_words.specs.Words.{tail_number, tail_state, space_from}
use Rattle.answer_reader.specs.Results.{space_then, next_for, close_for}

-- ---- after literal 0

module _ (t : List ℕ) (q : Tail) (i : ℕ) (x : Close) (inv : close_from (tail_number q) i (drop i t) ≡ x) where
  module _ (h : i < length t) (r : Option Tail) (e : tail_state r ≡ end_step (tail_number q) (get_or t i 0)) where
    by_tail : (s : Option Tail) → r ≡ s → cond (eqb (tail_state s) 43) (Close.left i) (close_from (tail_state s) (i + 1) (drop (i + 1) t)) ≡ x
    by_tail s d = rw (ap tail_state (sym d) ∙ e) (sym (close_turn t i (tail_number q) h) ∙ inv)

    pub close_dies : r ≡ None → Err i ≡ close_for x
    close_dies d = ap close_for (by_tail None d)

    pub close_goes : (p : Tail) → r ≡ Some p → close_from (tail_number p) (i + 1) (drop (i + 1) t) ≡ x
    close_goes tail.Zero d = by_tail (Some tail.Zero) d
    close_goes tail.LineStart d = by_tail (Some tail.LineStart) d
    close_goes tail.Comment d = by_tail (Some tail.Comment) d

  fine_at : length t ≤ i → q ≡ tail.LineStart → Close.fine ≡ x
  fine_at h d = sym (close_stop t i (tail_number q) h ∙ rw (ap tail_number d)) ∙ inv

  pub close_fine : length t ≤ i → q ≡ tail.LineStart → Ok tt ≡ close_for x
  close_fine h d = ap close_for (fine_at h d)

  short_at : length t ≤ i → (q ≡ tail.LineStart → ⊥) → Close.left i ≡ x
  short_at h d = sym (close_stop t i (tail_number q) h ∙ go q d) ∙ inv
    where
      go : (p : Tail) → (p ≡ tail.LineStart → ⊥) → cond (eqb (tail_number p) 40) Close.fine (Close.left i) ≡ Close.left i
      go tail.Zero d = refl
      go tail.LineStart d = absurd (d refl)
      go tail.Comment d = refl

-- the loop from `at` on has ended at i
pub close_short : (t : List ℕ) (q : Tail) (i at m : ℕ) → m ≡ max (length t) at → close_from (tail_number q) i (drop i t) ≡ close_of t at → length t ≤ i
    → (at ≤ length t → i ≤ length t) → (q ≡ tail.LineStart → ⊥) → Err m ≡ close_for (close_of t at)
unfolding close_of
close_short t q i at m e inv h g d =
    ⊎_elim (λ (k : at ≤ length t). ap Err (omega (arith, e, h, g k)) ∙ ap close_for (short_at t q i (close_of t at) inv h d))
    (λ (k : length t < at). ap Err (omega (arith, e, k)) ∙ ap close_for (sym (close_stop t at 39 (omega (arith, k))))) (le_or_lt at (length t))

-- ---- between literals

module _ (t : List ℕ) where
  -- the next literal, by the next space
  space_seeks : (u : List ℕ) (q i : ℕ) → drop i t ≡ u → space_then t (space_from q i u) ≡ seek_from q i u
  unfolding space_from seek_from
  space_seeks [] q i e = refl
  space_seeks (b ∷ u) q i e = go (eqb (seek_step q b) 36) (eqb (seek_step q b) 43) (space_seeks u (seek_step q b) (i + 1) rest)
    where
      rest : drop (i + 1) t ≡ u
      rest = sym (drop-drop 1 i t) ∙ ap (drop 1) e

      go : (c d : Bool) → space_then t (space_from (seek_step q b) (i + 1) u) ≡ seek_from (seek_step q b) (i + 1) u
          → space_then t (cond c (Ok (i + 1)) (cond d (Err i) (space_from (seek_step q b) (i + 1) u)))
          ≡ cond c (literal_from (i + 1) u) (cond d (Next.left i) (seek_from (seek_step q b) (i + 1) u))
      go true d r = ap (literal_from (i + 1)) rest
      go false true r = refl
      go false false r = r

  module _ (p : ℕ) (s : Result ℕ ℕ) (a : s ≡ space_from 35 p (drop p t)) where
    by_space : {y : Result ℕ ℕ} → s ≡ y → space_then t y ≡ next_literal t p
    unfolding next_literal
    by_space e = ap (space_then t) (sym e ∙ a) ∙ space_seeks (drop p t) 35 p refl

    pub next_behind : (i : ℕ) → s ≡ Ok i → (r : Result Token ℕ) → r ≡ next_for (literal_from i (drop i t)) → r ≡ next_for (next_literal t p)
    next_behind i e r f = f ∙ ap next_for (by_space e)

    pub next_lost : (i : ℕ) → s ≡ Err i → Err i ≡ next_for (next_literal t p)
    next_lost i e = ap next_for (by_space e)
