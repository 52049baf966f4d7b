-- The digits of a number: below ten one digit, otherwise those of a tenth and one more. Induction over them, and reading them back.
-- Assumes nothing.
use Prim.Native.Nat.{ℕ, zero, suc, ◌+◌, ◌*◌, ◌/◌, ◌%◌, ◌≤◌, ◌<◌}
use native.Mathlib.Nat.{not-suc-le-zero}
use native.Mathlib.Omega.{arith}
use mathlib.Core.Path.{◌≡◌, refl, sym, ◌∙◌, ap, ap₂}
use mathlib.Core.Logic.{⊎_elim}
use mathlib.Core.List.{List, [], ◌∷◌, ◌++◌}
use borrow.Author.Tests.{lt-ltb, le-ltb}
use Rattle.lists.proofs.Tests.{le_or_lt}
use Rattle.text.specs.Decimal.{digits_in, decimal}

digits_small : (f n : ℕ) → n < 10 → digits_in f n ≡ (48 + n) ∷ []
digits_small zero n h = refl
digits_small (suc f) n h = rw (lt-ltb n 10 h, digits_in)

digits_large : (f n : ℕ) → 10 ≤ n → digits_in (suc f) n ≡ digits_in f (n / 10) ++ ((48 + n % 10) ∷ [])
digits_large f n h = rw (le-ltb n 10 h, digits_in)

-- more fuel changes nothing
digits_fuel : (f g n : ℕ) → n ≤ f → n ≤ g → digits_in f n ≡ digits_in g n
digits_fuel zero g n h k = sym (digits_small g n (omega arith))
digits_fuel (suc f) zero n h k = digits_small (suc f) n (omega arith)
digits_fuel (suc f) (suc g) n h k =
    ⊎_elim
    (λ (l : 10 ≤ n).
    digits_large f n l ∙ ap (λ (ds : List ℕ). ds ++ ((48 + n % 10) ∷ [])) (digits_fuel f g (n / 10) (omega arith) (omega arith)) ∙ sym (digits_large g n l))
    (λ (l : n < 10). digits_small (suc f) n l ∙ sym (digits_small (suc g) n l)) (le_or_lt 10 n)

pub decimal_small : (n : ℕ) → n < 10 → decimal n ≡ (48 + n) ∷ []
unfolding decimal
decimal_small n h = digits_small n n h

pub decimal_large : (n : ℕ) → 10 ≤ n → decimal n ≡ decimal (n / 10) ++ ((48 + n % 10) ∷ [])
unfolding decimal
decimal_large zero h = absurd (not-suc-le-zero h)
decimal_large (suc n) h =
    digits_large n (suc n) h ∙ ap (λ (ds : List ℕ). ds ++ ((48 + suc n % 10) ∷ [])) (digits_fuel n (suc n / 10) (suc n / 10) (omega arith) (omega arith))

pub decimal_snoc : (x e : ℕ) → 0 < x → e < 10 → decimal (x * 10 + e) ≡ decimal x ++ ((48 + e) ∷ [])
decimal_snoc x e z h =
    decimal_large (x * 10 + e) (omega arith) ∙ ap₂ (λ (y d : ℕ). decimal y ++ ((48 + d) ∷ [])) (omega arith) (omega arith)

pub digits-ind {ℓ} : (Q : ℕ → Type ℓ) → ((n : ℕ) → n < 10 → Q n) → ((n : ℕ) → 10 ≤ n → Q (n / 10) → Q n) → (n : ℕ) → Q n
digits-ind Q small large n = go n n (omega arith)
  where
    go : (b n : ℕ) → n ≤ b → Q n
    go zero n h = small n (omega arith)
    go (suc b) n h = ⊎_elim (λ (l : 10 ≤ n). large n l (go b (n / 10) (omega arith))) (λ (l : n < 10). small n l) (le_or_lt 10 n)
