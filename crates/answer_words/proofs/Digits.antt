-- Numbers, from their digits on.
--   digit_from                              a digit is 48 or more
--   number_goes, number_ends, number_short  one turn of the loop over digits, a byte that is no digit, the end of the answer
--   kept, number_small                      a capped number is the number or the largest, and below 2^31
-- Assumes nothing.
use Prim.Native.Nat.{ℕ, ◌+◌, ◌*◌, ◌-◌, ◌^◌, ◌≤◌, ◌<◌, min, max}
use native.Mathlib.Omega.{arith}
use mathlib.Core.Path.{◌≡◌, refl, sym, ◌∙◌}
use mathlib.Core.Bool.{Bool, true, false, not, cond, true≢false}
use mathlib.Core.Logic.{⊎_elim}
use mathlib.Core.List.{List}
use lib.Dec.{ltb}
use lib.ListN.{length, get_or, drop}
use borrow.Author.Tests.{ltb-false, not-true, not-false}
use Rattle.lists.proofs.Tests.{le_or_lt}
use Rattle.reader_form.specs.Automaton.{digit_test}
use Rattle.answer_form.specs.Pieces.{digits_value, capped_value, behind_digits}
use Rattle.answer_form.proofs.Digits.{capped_value_lem}
use Rattle.answer_form.proofs.Turns.{capped_turn, capped_stop, behind_turn, behind_stop}
use Rattle.answer_words.specs.Words.{most_number}

pub digit_from : (b : ℕ) (d : Bool) → d ≡ digit_test b → not d ≡ false → 48 ≤ b
unfolding digit_test
digit_from b d e f = go (ltb b 48) refl (sym e ∙ not-false d f)
  where
    go : (x : Bool) → ltb b 48 ≡ x → cond x false (ltb b 58) ≡ true → 48 ≤ b
    go true g h = absurd (true≢false (sym h))
    go false g h = ltb-false b 48 g

-- ---- digits

module _ (t : List ℕ) (v i x y : ℕ) (inv : (capped_value most_number v (drop i t) ≡ x) × (behind_digits i (drop i t) ≡ y)) where
  pub number_goes : (d : Bool) (n : ℕ) → i < length t → d ≡ digit_test (get_or t i 0) → not d ≡ false → n ≡ min most_number (v * 10 + (get_or t i 0 - 48))
      → (capped_value most_number n (drop (i + 1) t) ≡ x) × (behind_digits (i + 1) (drop (i + 1) t) ≡ y)
  number_goes d n h e f g =
      (sym (capped_turn t i most_number v h ∙ rw (← e, not-false d f, ← g)) ∙ inv.0, sym (behind_turn t i h ∙ rw (← e, not-false d f)) ∙ inv.1)

  pub number_ends : (d : Bool) → i < length t → d ≡ digit_test (get_or t i 0) → not d ≡ true → (v ≡ x) × (i ≡ y)
  number_ends d h e f =
      (sym (capped_turn t i most_number v h ∙ rw (← e, not-true d f)) ∙ inv.0, sym (behind_turn t i h ∙ rw (← e, not-true d f)) ∙ inv.1)

  number_stops : length t ≤ i → (v ≡ x) × (i ≡ y)
  number_stops h = (sym (capped_stop t i most_number v h) ∙ inv.0, sym (behind_stop t i h) ∙ inv.1)

-- the loop from `at` on has ended at i
pub number_short : (t : List ℕ) (v i x at m : ℕ) → m ≡ max (length t) at
    → (capped_value most_number v (drop i t) ≡ x) × (behind_digits i (drop i t) ≡ behind_digits at (drop at t)) → length t ≤ i → (at ≤ length t → i ≤ length t)
    → (v ≡ x) × (m ≡ behind_digits at (drop at t))
number_short t v i x at m e inv h g = ((number_stops t v i _ _ inv h).0, ends)
  where
    ends : m ≡ behind_digits at (drop at t)
    ends =
        ⊎_elim (λ (k : at ≤ length t). omega (arith, e, h, g k) ∙ (number_stops t v i _ _ inv h).1)
        (λ (k : length t < at). omega (arith, e, k) ∙ sym (behind_stop t at (omega (arith, k)))) (le_or_lt at (length t))

pub kept : (u : List ℕ) → capped_value most_number 0 u ≡ min most_number (digits_value 0 u)
kept u = capped_value_lem most_number 0 u

pub number_small : (v : ℕ) (u : List ℕ) → v ≡ capped_value most_number 0 u → v < 2 ^ 31
number_small v u e = omega (arith, e, kept u)
