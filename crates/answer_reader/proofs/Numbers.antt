-- Literals, from their digits on.
--   minus-, literal- with short, zero, here, other   what the functions `minus_at` and `literal_at` answer
-- Assumes nothing.
use Prim.Native.Nat.{ℕ, ◌+◌, ◌-◌, ◌≤◌, ◌<◌}
use mathlib.Core.Path.{◌≡◌, refl, sym, ◌∙◌, ap, ap₂, subst}
use mathlib.Core.Bool.{Bool, true, false, cond}
use mathlib.Core.List.{List, ◌∷◌}
use lib.Dec.{eqb}
use lib.IntN.{ℤ}
use lib.ListN.{length, get_or, drop, drop_of_length-le}
use borrow.Author.Tests.{eq-eqb, ne_eqb}
use Rattle.encoding.specs.Literal.{Literal, literal_number}
use Literal.{var, −◌}
use Rattle.reader_form.specs.Automaton.{digit_test}
use Rattle.answer_form.specs.Pieces.{Next, digits_value, capped_value, behind_digits, minus_from, literal_from}
use Rattle.answer_form.proofs.Turns.{byte_at}
use Rattle.std.specs.Prelude.{Result, Ok, Err}
use Rattle.answer_reader.specs.declared.Token.{Token}
use Rattle.answer_reader.specs.declared.Token.TheVariants as token
use Rattle.answer_words.specs.Words.{most_number}
use Rattle.answer_words.proofs.Digits.{kept}
use Rattle.answer_reader.specs.Results.{next_for}

-- ---- after a minus

module _ (t : List ℕ) (i : ℕ) where
  minus_turn : (u w : List ℕ) (b : ℕ) → u ≡ b ∷ w
      → minus_from i u
      ≡ cond (eqb b 48) (Next.left i) (cond (digit_test b) (Next.literal (− (digits_value 0 u)) (i - 1) (behind_digits i u)) (Next.left i))
  unfolding minus_from
  minus_turn u w b e =
      subst (λ (z : List ℕ). minus_from i z ≡ cond (eqb b 48) (Next.left i) (cond (digit_test b) (Next.literal (− (digits_value 0 z)) (i - 1) (behind_digits i z)) (Next.left i))) (sym e) refl

  minus_none : length t ≤ i → minus_from i (drop i t) ≡ Next.left i
  unfolding minus_from
  minus_none h = ap (minus_from i) (drop_of_length-le t h)

  pub minus_short : length t ≤ i → Err i ≡ next_for (minus_from i (drop i t))
  minus_short h = sym (ap next_for (minus_none h))

  module _ (h : i < length t) where
    minus_is_zero : get_or t i 0 ≡ 48 → minus_from i (drop i t) ≡ Next.left i
    minus_is_zero e = minus_turn (drop i t) _ (get_or t i 0) (byte_at t i h) ∙ rw (eq-eqb (get_or t i 0) 48 e)

    pub minus_zero : get_or t i 0 ≡ 48 → Err i ≡ next_for (minus_from i (drop i t))
    minus_zero e = sym (ap next_for (minus_is_zero e))

    module _ (n : get_or t i 0 ≡ 48 → ⊥) (d : Bool) (g : d ≡ digit_test (get_or t i 0)) where
      minus_is_here : d ≡ true → minus_from i (drop i t) ≡ Next.literal (− (digits_value 0 (drop i t))) (i - 1) (behind_digits i (drop i t))
      minus_is_here f = minus_turn (drop i t) _ (get_or t i 0) (byte_at t i h) ∙ rw (ne_eqb (get_or t i 0) 48 n, ← g, f)

      pub minus_here : d ≡ true → (v : ℕ) → v ≡ capped_value most_number 0 (drop i t) → (z : ℤ) → z ≡ literal_number (− v) → (j : ℕ) → j ≡ behind_digits i (drop i t)
          → Ok (token.Literal z (i - 1) j) ≡ next_for (minus_from i (drop i t))
      minus_here f v e z l j k =
          ap₂ (λ (x : ℤ) (y : ℕ). Ok (token.Literal x (i - 1) y)) (l ∙ ap (λ (k : ℕ). literal_number (− k)) (e ∙ kept (drop i t))) k ∙ sym (ap next_for (minus_is_here f))

      minus_is_other : d ≡ false → minus_from i (drop i t) ≡ Next.left i
      minus_is_other f = minus_turn (drop i t) _ (get_or t i 0) (byte_at t i h) ∙ rw (ne_eqb (get_or t i 0) 48 n, ← g, f)

      pub minus_other : d ≡ false → Err i ≡ next_for (minus_from i (drop i t))
      minus_other f = sym (ap next_for (minus_is_other f))

-- ---- after a space

module _ (t : List ℕ) (i : ℕ) where
  literal_turn : (u w : List ℕ) (b : ℕ) → u ≡ b ∷ w
      → literal_from i u
      ≡ cond (eqb b 45) (minus_from (i + 1) w) (cond (eqb b 48) (Next.last (i + 1)) (cond (digit_test b) (Next.literal (var (digits_value 0 u)) i (behind_digits i u)) (Next.left i)))
  unfolding literal_from
  literal_turn u w b e =
      subst (λ (z : List ℕ). literal_from i z
      ≡ cond (eqb b 45) (minus_from (i + 1) w) (cond (eqb b 48) (Next.last (i + 1)) (cond (digit_test b) (Next.literal (var (digits_value 0 z)) i (behind_digits i z)) (Next.left i))))
      (sym e) refl

  literal_none : length t ≤ i → literal_from i (drop i t) ≡ Next.left i
  unfolding literal_from
  literal_none h = ap (literal_from i) (drop_of_length-le t h)

  pub literal_short : length t ≤ i → Err i ≡ next_for (literal_from i (drop i t))
  literal_short h = sym (ap next_for (literal_none h))

  module _ (h : i < length t) where
    literal_is_minus : get_or t i 0 ≡ 45 → literal_from i (drop i t) ≡ minus_from (i + 1) (drop (i + 1) t)
    literal_is_minus e = literal_turn (drop i t) (drop (i + 1) t) (get_or t i 0) (byte_at t i h) ∙ rw (eq-eqb (get_or t i 0) 45 e)

    pub literal_minus : get_or t i 0 ≡ 45 → (r : Result Token ℕ) → r ≡ next_for (minus_from (i + 1) (drop (i + 1) t)) → r ≡ next_for (literal_from i (drop i t))
    literal_minus e r f = f ∙ sym (ap next_for (literal_is_minus e))

    module _ (m : get_or t i 0 ≡ 45 → ⊥) where
      literal_is_zero : get_or t i 0 ≡ 48 → literal_from i (drop i t) ≡ Next.last (i + 1)
      literal_is_zero e = literal_turn (drop i t) (drop (i + 1) t) (get_or t i 0) (byte_at t i h) ∙ rw (ne_eqb (get_or t i 0) 45 m, eq-eqb (get_or t i 0) 48 e)

      pub literal_zero : get_or t i 0 ≡ 48 → Ok (token.Last (i + 1)) ≡ next_for (literal_from i (drop i t))
      literal_zero e = sym (ap next_for (literal_is_zero e))

      module _ (n : get_or t i 0 ≡ 48 → ⊥) (d : Bool) (g : d ≡ digit_test (get_or t i 0)) where
        literal_is_here : d ≡ true → literal_from i (drop i t) ≡ Next.literal (var (digits_value 0 (drop i t))) i (behind_digits i (drop i t))
        literal_is_here f =
            literal_turn (drop i t) (drop (i + 1) t) (get_or t i 0) (byte_at t i h) ∙ rw (ne_eqb (get_or t i 0) 45 m, ne_eqb (get_or t i 0) 48 n, ← g, f)

        pub literal_here : d ≡ true → (v : ℕ) → v ≡ capped_value most_number 0 (drop i t) → (z : ℤ) → z ≡ literal_number (var v) → (j : ℕ)
            → j ≡ behind_digits i (drop i t) → Ok (token.Literal z i j) ≡ next_for (literal_from i (drop i t))
        literal_here f v e z l j k =
            ap₂ (λ (x : ℤ) (y : ℕ). Ok (token.Literal x i y)) (l ∙ ap (λ (k : ℕ). literal_number (var k)) (e ∙ kept (drop i t))) k ∙ sym (ap next_for (literal_is_here f))

        literal_is_other : d ≡ false → literal_from i (drop i t) ≡ Next.left i
        literal_is_other f =
            literal_turn (drop i t) (drop (i + 1) t) (get_or t i 0) (byte_at t i h) ∙ rw (ne_eqb (get_or t i 0) 45 m, ne_eqb (get_or t i 0) 48 n, ← g, f)

        pub literal_other : d ≡ false → Err i ≡ next_for (literal_from i (drop i t))
        literal_other f = sym (ap next_for (literal_is_other f))
