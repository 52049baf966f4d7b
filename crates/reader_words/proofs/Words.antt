-- A fixed word in the text: what std's comparison says, and what a word found says of the text.
--   word_starts, word_past   what `has` answers
--   word_found   the text from there on is the word and what follows it
-- Assumes nothing.
use Prim.Native.Nat.{ℕ, ◌+◌, ◌-◌, ◌≤◌, ◌<◌}
use native.Mathlib.Omega.{arith}
use mathlib.Core.Path.{◌≡◌, refl, sym, ◌∙◌, ap, ap₂}
use mathlib.Core.Bool.{Bool, true, false, cond, ◌&&◌, false≢true}
use mathlib.Core.List.{List, [], ◌∷◌, ◌++◌}
use lib.Dec.{eqb, ltb}
use lib.Pointwise.{pointwise}
use lib.ListN.{length, take, drop, length-drop, length-append}
use lib.Seq.{take_all, drop-drop}
use borrow.Author.Tests.{eq-eqb, ne_eqb, eqb-true, eqb-false, ltb-false, lt-ltb, le-ltb}
use Rattle.reader_words.specs.Standing.{begins, has_at}

begins_nil : (t : List ℕ) → begins t [] ≡ true
unfolding begins
begins_nil [] = refl
begins_nil (a ∷ t) = refl

begins_split : (t w : List ℕ) → begins t w ≡ true → t ≡ w ++ drop (length w) t
unfolding begins
begins_split t [] h = refl
begins_split [] (b ∷ w) h = absurd (false≢true h)
begins_split (a ∷ t) (b ∷ w) h = go (eqb a b) refl h (begins_split t w)
  where
    go : (e : Bool) → eqb a b ≡ e → cond e (begins t w) false ≡ true → (begins t w ≡ true → t ≡ w ++ drop (length w) t)
        → ◌≡◌ {A = List ℕ} (a ∷ t) (b ∷ (w ++ drop (length w) t))
    go true e g r = ap₂ (λ (x : ℕ) (l : List ℕ). x ∷ l) (eqb-true a b e) (r g)
    go false e g r = absurd (false≢true g)

-- what std's starts_with answers
starts_is : (t w : List ℕ) → pointwise eqb w (take (length w) t) ≡ begins t w
unfolding begins
starts_is t [] = sym (begins_nil t)
starts_is [] (b ∷ w) = refl
starts_is (a ∷ t) (b ∷ w) = go (eqb a b) refl (starts_is t w)
  where
    go : (e : Bool) → eqb a b ≡ e → pointwise eqb w (take (length w) t) ≡ begins t w → (eqb b a && pointwise eqb w (take (length w) t)) ≡ cond e (begins t w) false
    go true p r = rw (eq-eqb b a (sym (eqb-true a b p))) r
    go false p r = rw (ne_eqb b a (λ q. eqb-false a b p (sym q)))

module _ (t w : List ℕ) (at : ℕ) where
  pub word_past : length t < at → false ≡ has_at t at w
  unfolding has_at
  word_past h = rw (lt-ltb (length t) at h)

  pub word_starts : at ≤ length t → {r : Bool} → r ≡ pointwise eqb w (take (length w) (take (length t - at) (drop at t))) → r ≡ has_at t at w
  unfolding has_at
  word_starts h e = e ∙ rw (take_all (length t - at) (drop at t) (rw length-drop (omega arith)), le-ltb (length t) at h) (starts_is (drop at t) w)

  -- a word found
  pub word_found : has_at t at w ≡ true → (at + length w ≤ length t) × (drop at t ≡ w ++ drop (at + length w) t)
  unfolding has_at
  word_found h = go (ltb (length t) at) refl h
    where
      go : (e : Bool) → ltb (length t) at ≡ e → cond e false (begins (drop at t) w) ≡ true → (at + length w ≤ length t) × (drop at t ≡ w ++ drop (at + length w) t)
      go true e g = absurd (false≢true g)
      go false e g =
          let q : drop at t ≡ w ++ drop (length w) (drop at t) = begins_split (drop at t) w g in
          (omega (arith, ltb-false (length t) at e, length-drop at t, ap length q ∙ length-append w (drop (length w) (drop at t))), rw drop-drop at q)
