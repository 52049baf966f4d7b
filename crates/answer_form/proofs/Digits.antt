-- Reading back what `decimal` and `literal_text` print.
--   Stops u           u does not begin with a digit
--   value_decimal, behind_decimal   the digits of a number are read as that number
--   capped_value_lem  what is kept of a number is the smaller of it and the cap
--   number_cancel, literal_cancel   numbers and literals can be told from their bytes
-- Assumes nothing.
use Prim.Native.Nat.{ℕ, zero, suc, ◌+◌, ◌*◌, ◌-◌, ◌/◌, ◌%◌, ◌<◌, min}
use native.Mathlib.Nat.{not-suc-le-zero}
use native.Mathlib.Omega.{arith}
use mathlib.Core.Path.{◌≡◌, refl, sym, ◌∙◌, ap}
use mathlib.Core.Bool.{Bool, true, false, So, cond}
use mathlib.Core.List.{List, [], ◌∷◌, ◌++◌, append_assoc}
use lib.ListN.{length, length-append, drop}
use lib.Seq.{drop-append_seam}
use borrow.Author.Tests.{ltb-true}
use Rattle.lists.proofs.Cons.{cons_head, cons_tail}
use Rattle.text.specs.Decimal.{decimal}
use Rattle.text.proofs.Decimals.{decimal_small, decimal_large, digits-ind}
use Rattle.encoding.specs.Literal.{Literal, literal_number}
use Literal.{var, −◌}
use Rattle.digits.specs.Bytes.{literal_text}
use Rattle.reader_form.specs.Automaton.{digit_test}
use Rattle.reader_form.proofs.Digits.{is_digit}
use Rattle.answer_form.specs.Answer.{named}
use Rattle.answer_form.specs.Pieces.{digits_value, capped_value, behind_digits}

pub data Stops : List ℕ → Type 0 where
  nothing : Stops []
  byte : {b : ℕ} {u : List ℕ} → digit_test b ≡ false → Stops (b ∷ u)

pub value_stops : (v : ℕ) (u : List ℕ) → Stops u → digits_value v u ≡ v
unfolding digits_value
value_stops v u nothing = refl
value_stops v u (byte n) = rw n

pub behind_stops : (i : ℕ) (u : List ℕ) → Stops u → behind_digits i u ≡ i
unfolding behind_digits
behind_stops i u nothing = refl
behind_stops i u (byte n) = rw n

value_digit : (v d : ℕ) (u : List ℕ) → d < 10 → digits_value v ((48 + d) ∷ u) ≡ digits_value (v * 10 + d) u
unfolding digits_value
value_digit v d u h = rw (is_digit d h) (ap (λ (x : ℕ). digits_value x u) (omega arith))

behind_digit : (i d : ℕ) (u : List ℕ) → d < 10 → behind_digits i ((48 + d) ∷ u) ≡ behind_digits (i + 1) u
unfolding behind_digits
behind_digit i d u h = rw (is_digit d h)

value_front : (n : ℕ) (u : List ℕ) → digits_value 0 (decimal n ++ u) ≡ digits_value n u
value_front = digits-ind (λ n. (u : List ℕ) → digits_value 0 (decimal n ++ u) ≡ digits_value n u)
    (λ n h u. ap (λ (ds : List ℕ). digits_value 0 (ds ++ u)) (decimal_small n h) ∙ value_digit 0 n u h ∙ ap (λ (x : ℕ). digits_value x u) (omega arith))
    (λ n h ih u.
    ap (λ (ds : List ℕ). digits_value 0 (ds ++ u)) (decimal_large n h) ∙ ap (digits_value 0) (append_assoc (decimal (n / 10)) ((48 + n % 10) ∷ []) u)
    ∙ ih ((48 + n % 10) ∷ u) ∙ value_digit (n / 10) (n % 10) u (omega arith) ∙ ap (λ (x : ℕ). digits_value x u) (omega arith))

behind_front : (n : ℕ) (i : ℕ) (u : List ℕ) → behind_digits i (decimal n ++ u) ≡ behind_digits (i + length (decimal n)) u
behind_front = digits-ind (λ n. (i : ℕ) (u : List ℕ) → behind_digits i (decimal n ++ u) ≡ behind_digits (i + length (decimal n)) u)
    (λ n h i u. ap (λ (ds : List ℕ). behind_digits i (ds ++ u)) (decimal_small n h) ∙ behind_digit i n u h ∙ ap (λ (ds : List ℕ). behind_digits (i + length ds) u) (sym (decimal_small n h)))
    (λ n h ih i u.
    ap (λ (ds : List ℕ). behind_digits i (ds ++ u)) (decimal_large n h) ∙ ap (behind_digits i) (append_assoc (decimal (n / 10)) ((48 + n % 10) ∷ []) u)
    ∙ ih i ((48 + n % 10) ∷ u) ∙ behind_digit (i + length (decimal (n / 10))) (n % 10) u (omega arith)
    ∙ ap (λ (j : ℕ). behind_digits j u) (omega (arith, ap length (decimal_large n h), length-append (decimal (n / 10)) ((48 + n % 10) ∷ []))))

pub value_decimal : (n : ℕ) (u : List ℕ) → Stops u → digits_value 0 (decimal n ++ u) ≡ n
value_decimal n u s = value_front n u ∙ value_stops n u s

pub behind_decimal : (n i : ℕ) (u : List ℕ) → Stops u → behind_digits i (decimal n ++ u) ≡ i + length (decimal n)
behind_decimal n i u s = behind_front n i u ∙ behind_stops (i + length (decimal n)) u s

-- what is kept of a number is the smaller of it and the cap
pub capped_value_lem : (m v : ℕ) (u : List ℕ) → capped_value m (min m v) u ≡ min m (digits_value v u)
unfolding capped_value digits_value
capped_value_lem m v [] = refl
capped_value_lem m v (b ∷ u) = go (digit_test b) (capped_value_lem m (v * 10 + (b - 48)) u)
  where
    go : (x : Bool) → capped_value m (min m (v * 10 + (b - 48))) u ≡ min m (digits_value (v * 10 + (b - 48)) u)
        → cond x (capped_value m (min m (min m v * 10 + (b - 48))) u) (min m v) ≡ min m (cond x (digits_value (v * 10 + (b - 48)) u) v)
    go true ih = ap (λ (k : ℕ). capped_value m k u) (omega arith) ∙ ih
    go false ih = refl

-- ---- cancelling

-- the same bytes before two texts
pub front_cancel : (ds u v : List ℕ) → ds ++ u ≡ ds ++ v → u ≡ v
front_cancel ds u v e = sym (drop-append_seam ds u) ∙ ap (drop (length ds)) e ∙ drop-append_seam ds v

pub number_cancel : (x y : ℕ) (u v : List ℕ) → Stops u → Stops v → decimal x ++ u ≡ decimal y ++ v → (x ≡ y) × (u ≡ v)
number_cancel x y u v s r e = (same, front_cancel (decimal x) u v (e ∙ ap (λ (z : ℕ). decimal z ++ v) (sym same)))
  where
    same : x ≡ y
    same = sym (value_decimal x u s) ∙ ap (digits_value 0) e ∙ value_decimal y v r

-- 0 and a minus begin no number that is not 0
no_digits : (x : ℕ) (u v : List ℕ) → 0 < x → Stops u → digits_value 0 v ≡ 0 → decimal x ++ u ≡ v → ⊥
no_digits x u v z s n e = omega (arith, z, sym (value_decimal x u s) ∙ ap (digits_value 0) e ∙ n)

minus_value : (u : List ℕ) → digits_value 0 (45 ∷ u) ≡ 0
unfolding digits_value digit_test
minus_value u = refl

zero_value : (u : List ℕ) → digits_value 0 (48 ∷ 10 ∷ u) ≡ 0
unfolding digits_value digit_test
zero_value u = refl

pub literal_cancel : (l m : Literal) (u v : List ℕ) → So (named l) → So (named m) → Stops u → Stops v
    → literal_text (literal_number l) ++ u ≡ literal_text (literal_number m) ++ v → (l ≡ m) × (u ≡ v)
literal_cancel (var x) (var y) u v p q s r e = let n = number_cancel x y u v s r e in (ap var n.0, n.1)
literal_cancel (var x) (− zero) u v p q s r e = absurd (not-suc-le-zero (ltb-true 0 0 q))
literal_cancel (var x) (− (suc y)) u v p q s r e = absurd (no_digits x u _ (ltb-true 0 x p) s (minus_value _) e)
literal_cancel (− zero) m u v p q s r e = absurd (not-suc-le-zero (ltb-true 0 0 p))
literal_cancel (− (suc x)) (var y) u v p q s r e = absurd (no_digits y v _ (ltb-true 0 y q) r (minus_value _) (sym e))
literal_cancel (− (suc x)) (− zero) u v p q s r e = absurd (not-suc-le-zero (ltb-true 0 0 q))
literal_cancel (− (suc x)) (− (suc y)) u v p q s r e = let n = number_cancel (suc x) (suc y) u v s r (cons_tail e) in (ap −◌ n.0, n.1)

-- a literal that is not 0 does not begin as literal 0 and its line end do
pub literal_not_zero : (l : Literal) (u v : List ℕ) → So (named l) → Stops u → literal_text (literal_number l) ++ u ≡ 48 ∷ 10 ∷ v → ⊥
literal_not_zero (var x) u v p s e = no_digits x u _ (ltb-true 0 x p) s (zero_value v) e
literal_not_zero (− zero) u v p s e = not-suc-le-zero (ltb-true 0 0 p)
literal_not_zero (− (suc x)) u v p s e = omega (arith, cons_head e)
