-- One turn of each loop of src/lib.rt, and its end. A loop's invariant: what is read of the rest is what is read of the whole.
--   first_goes, first_here, first_none      the c lines before the status
--   common_goes, common_other, common_all   the bytes in common with a fixed string
--   space_here                              the next byte is a space
--   space_dies, space_behind, space_goes, space_short   the bytes up to the next space
-- Assumes nothing.
use Prim.Native.Nat.{ℕ, suc, ◌+◌, ◌≤◌, ◌<◌, max}
use native.Mathlib.Omega.{arith}
use mathlib.Core.Path.{◌≡◌, sym, ◌∙◌, ap, refl}
use mathlib.Core.Bool.{Bool, true, false, cond, not, ◌&&◌}
use mathlib.Core.Logic.{◌⊎◌, inl, inr, ⊎_elim}
use mathlib.Core.List.{List}
use lib.Dec.{eqb}
use lib.ListN.{length, get_or, drop, drop_of_length-le}
use borrow.Author.Tests.{eq-eqb, ne_eqb, eqb-true}
use Rattle.std.specs.Prelude.{Option, Some, None, Result, Ok, Err}
use Rattle.lists.proofs.Tests.{le_or_lt}
use Rattle.answer_form.specs.Automaton.{seek_step}
use Rattle.answer_form.specs.Pieces.{first_line, common}
use Rattle.answer_form.proofs.Turns.{byte_at, first_turn, first_stop, common_turn, common_stop, common_short}
use Rattle.answer_words.specs.declared.Place.{Place}
use Rattle.answer_words.specs.declared.Place.TheVariants as place
use Rattle.answer_words.specs.Words.{line_number, place_number, place_state, space_from}

-- ---- c lines before the status

module _ (t : List ℕ) (i : ℕ) (h : i < length t) where
  -- whether the byte at i begins a line that is no c line
  line_turn : (in_comment : Bool) → first_line (line_number in_comment) i (drop i t)
      ≡ cond (not in_comment && not (eqb (get_or t i 0) 99)) i (first_line (line_number (not (eqb (get_or t i 0) 10))) (i + 1) (drop (i + 1) t))
  line_turn true = first_turn t i 32 h ∙ go (eqb (get_or t i 0) 10)
    where
      go : (x : Bool) → first_line (cond x 0 32) (i + 1) (drop (i + 1) t) ≡ first_line (line_number (not x)) (i + 1) (drop (i + 1) t)
      go true = refl
      go false = refl
  line_turn false = first_turn t i 0 h ∙ go (eqb (get_or t i 0) 99) refl
    where
      go : (x : Bool) → eqb (get_or t i 0) 99 ≡ x
          → cond (not x) i (first_line 32 (i + 1) (drop (i + 1) t)) ≡ cond (not x) i (first_line (line_number (not (eqb (get_or t i 0) 10))) (i + 1) (drop (i + 1) t))
      go true e = let b = eqb-true (get_or t i 0) 99 e in rw b
      go false e = refl

  module _ (x : ℕ) where
    pub first_here : (in_comment : Bool) → first_line (line_number in_comment) i (drop i t) ≡ x → in_comment ≡ false → (get_or t i 0 ≡ 99 → ⊥) → i ≡ x
    first_here true inv w n = cc
    first_here false inv w n = sym (line_turn false ∙ rw (ne_eqb (get_or t i 0) 99 n)) ∙ inv

    pub first_goes : (in_comment : Bool) → first_line (line_number in_comment) i (drop i t) ≡ x → (in_comment ≡ true) ⊎ (get_or t i 0 ≡ 99)
        → first_line (line_number (not (eqb (get_or t i 0) 10))) (i + 1) (drop (i + 1) t) ≡ x
    first_goes true inv w = sym (line_turn true) ∙ inv
    first_goes false inv (inl e) = cc
    first_goes false inv (inr e) = sym (line_turn false ∙ rw (eq-eqb (get_or t i 0) 99 e)) ∙ inv

pub first_none : (t : List ℕ) (q i x : ℕ) → first_line q i (drop i t) ≡ x → length t ≤ i → i ≤ length t → length t ≡ x
first_none t q i x inv h g = let e : length t ≡ i = omega arith in e ∙ sym (first_stop t i q h) ∙ inv

-- ---- a fixed string

module _ (t w : List ℕ) (i k x : ℕ) (inv : k + common (drop i t) (drop k w) ≡ x) where
  pub common_goes : i < length t → k < length w → get_or t i 0 ≡ get_or w k 0 → (k + 1) + common (drop (i + 1) t) (drop (k + 1) w) ≡ x
  common_goes h g e =
      let s : common (drop i t) (drop k w) ≡ suc (common (drop (i + 1) t) (drop (k + 1) w)) = common_turn t w i k h g ∙ rw (eq-eqb (get_or t i 0) (get_or w k 0) e) in
      omega (arith, s, inv)

  pub common_other : k < length w → (length t ≤ i) ⊎ ((i < length t) × (get_or t i 0 ≡ get_or w k 0 → ⊥)) → k ≡ x
  common_other g (inl h) = omega (arith, common_short t w i k h, inv)
  common_other g (inr (h, e)) =
      let s : common (drop i t) (drop k w) ≡ 0 = common_turn t w i k h g ∙ rw (ne_eqb (get_or t i 0) (get_or w k 0) e) in
      omega (arith, s, inv)

  pub common_all : length w ≤ k → k ≡ x
  common_all h = omega (arith, common_stop t w i k h, inv)

-- ---- between literals

module _ (t : List ℕ) where
  space_turn : (q i : ℕ) → i < length t
      → space_from q i (drop i t)
      ≡ cond (eqb (seek_step q (get_or t i 0)) 36) (Ok (i + 1))
      (cond (eqb (seek_step q (get_or t i 0)) 43) (Err i) (space_from (seek_step q (get_or t i 0)) (i + 1) (drop (i + 1) t)))
  unfolding space_from
  space_turn q i h = ap (space_from q i) (byte_at t i h)

  pub space_here : (i : ℕ) → i < length t → get_or t i 0 ≡ 32 → Ok (i + 1) ≡ space_from 35 i (drop i t)
  unfolding seek_step
  space_here i h e =
      let s : seek_step 35 (get_or t i 0) ≡ 36 = ap (seek_step 35) e in
      sym (space_turn 35 i h ∙ rw (eq-eqb (seek_step 35 (get_or t i 0)) 36 s))

  module _ (q i : ℕ) (x : Result ℕ ℕ) (inv : space_from q i (drop i t) ≡ x) where
    module _ (h : i < length t) (r : Option Place) (e : place_state r ≡ seek_step q (get_or t i 0)) where
      by_place : (s : Option Place) → r ≡ s
          → cond (eqb (place_state s) 36) (Ok (i + 1)) (cond (eqb (place_state s) 43) (Err i) (space_from (place_state s) (i + 1) (drop (i + 1) t))) ≡ x
      by_place s d = rw (ap place_state (sym d) ∙ e) (sym (space_turn q i h) ∙ inv)

      pub space_dies : r ≡ None → Err i ≡ x
      space_dies d = by_place None d

      pub space_behind : (p : Place) → r ≡ Some p → p ≡ place.Space → Ok (i + 1) ≡ x
      space_behind p d s = by_place (Some place.Space) (d ∙ ap Some s)

      pub space_goes : (p : Place) → r ≡ Some p → (p ≡ place.Space → ⊥) → space_from (place_number p) (i + 1) (drop (i + 1) t) ≡ x
      space_goes place.LineStart d s = by_place (Some place.LineStart) d
      space_goes place.Comment d s = by_place (Some place.Comment) d
      space_goes place.Values d s = by_place (Some place.Values) d
      space_goes place.Space d s = absurd (s refl)

  space_stop : (q i : ℕ) → length t ≤ i → space_from q i (drop i t) ≡ Err i
  unfolding space_from
  space_stop q i h = ap (space_from q i) (drop_of_length-le t h)

  -- the loop from `at` on has ended at i
  pub space_short : (q i at m : ℕ) → m ≡ max (length t) at → space_from q i (drop i t) ≡ space_from 35 at (drop at t) → length t ≤ i → (at ≤ length t → i ≤ length t)
      → Err m ≡ space_from 35 at (drop at t)
  space_short q i at m e inv h g =
      ⊎_elim (λ (k : at ≤ length t). ap Err (omega (arith, e, h, g k)) ∙ sym (space_stop q i h) ∙ inv)
      (λ (k : length t < at). ap Err (omega (arith, e, k)) ∙ sym (space_stop 35 at (omega (arith, k)))) (le_or_lt at (length t))
