-- The functions of specs/Pieces.antt by the index of a byte: one turn of a loop over t, and its end.
--   byte_at                     the byte at i and those after it
--   first-, capped-, behind-, close- with turn and stop   each function at i, within the text and after it
--   common_turn, common_stop, common_short   `common` at i, within both strings, after the fixed one, after the text
-- Assumes nothing.
use Prim.Native.Nat.{ℕ, suc, ◌+◌, ◌*◌, ◌-◌, ◌≤◌, ◌<◌, min}
use native.Mathlib.Numerals.{add-one}
use mathlib.Core.Path.{◌≡◌, refl, sym, ◌∙◌, ap, ap₂}
use mathlib.Core.Bool.{not, ◌&&◌, cond}
use mathlib.Core.List.{List, [], ◌∷◌}
use lib.Dec.{eqb}
use lib.ListN.{length, get_or, drop, drop_of_length-le}
use lib.Seq.{drop-cons}
use Rattle.reader_form.specs.Automaton.{digit_test}
use Rattle.answer_form.specs.Automaton.{end_step}
use Rattle.answer_form.specs.Pieces.{common, first_line, capped_value, behind_digits, Close, close_from}

module _ (t : List ℕ) (i : ℕ) where
  -- the byte at i and those after it
  pub byte_at : i < length t → drop i t ≡ get_or t i 0 ∷ drop (i + 1) t
  byte_at h = drop-cons t i 0 h ∙ ap (λ (k : ℕ). get_or t i 0 ∷ drop k t) (sym (add-one i))

  pub first_turn : (q : ℕ) → i < length t
      → first_line q i (drop i t)
      ≡ cond (eqb q 0 && not (eqb (get_or t i 0) 99)) i (first_line (cond (eqb q 0) 32 (cond (eqb (get_or t i 0) 10) 0 32)) (i + 1) (drop (i + 1) t))
  unfolding first_line
  first_turn q h = ap (first_line q i) (byte_at h)

  pub first_stop : (q : ℕ) → length t ≤ i → first_line q i (drop i t) ≡ i
  unfolding first_line
  first_stop q h = ap (first_line q i) (drop_of_length-le t h)

  pub capped_turn : (m v : ℕ) → i < length t
      → capped_value m v (drop i t) ≡ cond (digit_test (get_or t i 0)) (capped_value m (min m (v * 10 + (get_or t i 0 - 48))) (drop (i + 1) t)) v
  unfolding capped_value
  capped_turn m v h = ap (capped_value m v) (byte_at h)

  pub capped_stop : (m v : ℕ) → length t ≤ i → capped_value m v (drop i t) ≡ v
  unfolding capped_value
  capped_stop m v h = ap (capped_value m v) (drop_of_length-le t h)

  pub behind_turn : i < length t → behind_digits i (drop i t) ≡ cond (digit_test (get_or t i 0)) (behind_digits (i + 1) (drop (i + 1) t)) i
  unfolding behind_digits
  behind_turn h = ap (behind_digits i) (byte_at h)

  pub behind_stop : length t ≤ i → behind_digits i (drop i t) ≡ i
  unfolding behind_digits
  behind_stop h = ap (behind_digits i) (drop_of_length-le t h)

  pub close_turn : (q : ℕ) → i < length t
      → close_from q i (drop i t) ≡ cond (eqb (end_step q (get_or t i 0)) 43) (Close.left i) (close_from (end_step q (get_or t i 0)) (i + 1) (drop (i + 1) t))
  unfolding close_from
  close_turn q h = ap (close_from q i) (byte_at h)

  pub close_stop : (q : ℕ) → length t ≤ i → close_from q i (drop i t) ≡ cond (eqb q 40) Close.fine (Close.left i)
  unfolding close_from
  close_stop q h = ap (close_from q i) (drop_of_length-le t h)

-- t from i on and a fixed string w from k on
pub common_turn : (t w : List ℕ) (i k : ℕ) → i < length t → k < length w
    → common (drop i t) (drop k w) ≡ cond (eqb (get_or t i 0) (get_or w k 0)) (suc (common (drop (i + 1) t) (drop (k + 1) w))) 0
unfolding common
common_turn t w i k h g = ap₂ common (byte_at t i h) (byte_at w k g)

pub common_stop : (t w : List ℕ) (i k : ℕ) → length w ≤ k → common (drop i t) (drop k w) ≡ 0
unfolding common
common_stop t w i k h = ap (common (drop i t)) (drop_of_length-le w h)

pub common_short : (t w : List ℕ) (i k : ℕ) → length t ≤ i → common (drop i t) (drop k w) ≡ 0
unfolding common
common_short t w i k h = ap (λ (u : List ℕ). common u (drop k w)) (drop_of_length-le t h) ∙ none (drop k w)
  where
    none : (w : List ℕ) → common [] w ≡ 0
    none [] = refl
    none (c ∷ w) = refl
