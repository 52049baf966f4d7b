-- Numbers below 10,000 by their digits.
--   decimal_one, decimal_two, decimal_three, decimal_four    the digits of a number of so many digits
--   count_is                                                 how many digits it has
--   digits_are                                               the digits from the hundreds and the rest
--   text_four, text_three, text_two, text_one                the text of digits, by their count
--   four_room, three_room, two_room, one_room                the room that they need, by their count
--   four_stores, three_stores, two_stores, one_stores        their bytes, stored one by one
--   room_at                                                  where there is room for m bytes, there is for each of them
--   digits_short                                             the digits and their space are at most 5 bytes
--   digits_text_lem                                          they are the number's text
-- Assumes nothing.
use Prim.Native.Nat.{ℕ, ◌+◌, ◌/◌, ◌%◌, ◌≤◌, ◌<◌}
use native.Mathlib.Omega.{arith}
use mathlib.Core.Path.{◌≡◌, sym, ◌∙◌, ap, ap₂, subst}
use mathlib.Core.Bool.{Bool, true, false, cond}
use mathlib.Core.Logic.{⊎_elim}
use mathlib.Core.List.{List, [], ◌∷◌, ◌++◌}
use lib.Dec.{eqb}
use lib.ListN.{length, set}
use borrow.Author.Tests.{eq-eqb, ne_eqb, lt-ltb, le-ltb}
use Rattle.lists.proofs.Tests.{le_or_lt}
use Rattle.text.specs.Decimal.{decimal}
use Rattle.text.proofs.Decimals.{decimal_small, decimal_large}
use Rattle.digits.specs.declared.Digits.{Digits}
use Rattle.digits.specs.Digits.{digit_count, digits_of, digits_text}
use Rattle.digits.specs.Bytes.{Wrote}
use Rattle.digits.proofs.Wrote.{wrote_none, wrote_byte, wrote_as}
use Rattle.digits.proofs.Lengths.{length_small, decimal_length}

-- ---- how many digits

module _ (n : ℕ) where
  size_four : 999 < n → 4 ≡ digit_count n
  unfolding digit_count
  size_four h = rw (lt-ltb 999 n h)

  size_three : n ≤ 999 → 99 < n → 3 ≡ digit_count n
  unfolding digit_count
  size_three h k = rw (le-ltb 999 n h, lt-ltb 99 n k)

  size_two : n ≤ 999 → n ≤ 99 → 9 < n → 2 ≡ digit_count n
  unfolding digit_count
  size_two h k l = rw (le-ltb 999 n h, le-ltb 99 n k, lt-ltb 9 n l)

  size_one : n ≤ 999 → n ≤ 99 → n ≤ 9 → 1 ≡ digit_count n
  unfolding digit_count
  size_one h k l = rw (le-ltb 999 n h, le-ltb 99 n k, le-ltb 9 n l)

  pub count_is : n < 10000 → length (decimal n) ≡ digit_count n
  count_is h =
      ⊎_elim
      (λ (l : n ≤ 999). ⊎_elim
      (λ (k : n ≤ 99). ⊎_elim (λ (j : n ≤ 9). length_small n (omega (arith, j)) ∙ size_one l k j) (λ (j : 9 < n). decimal_length 1 n (omega (arith, j)) (omega (arith, k)) ∙ size_two l k j) (le_or_lt n 9))
      (λ (k : 99 < n). decimal_length 2 n (omega (arith, k)) (omega (arith, l)) ∙ size_three l k) (le_or_lt n 99))
      (λ (l : 999 < n). decimal_length 3 n (omega (arith, l)) (omega (arith, h)) ∙ size_four l) (le_or_lt n 999)

  pub digits_are : n < 10000 → {a b c d e : ℕ} → a ≡ 48 + n / 100 / 10 % 10 → b ≡ 48 + n / 100 % 10 → c ≡ 48 + n % 100 / 10 % 10 → d ≡ 48 + n % 100 % 10
      → e ≡ digit_count n → record { a = a; b = b; c = c; d = d; count = e } ≡ digits_of n
  digits_are h p q r s t = λ i. record { a = (p ∙ first n h) i; b = q i; c = (r ∙ third n) i; d = (s ∙ fourth n) i; count = t i }
    where
      first : (n : ℕ) → n < 10000 → 48 + n / 100 / 10 % 10 ≡ 48 + n / 1000
      first n h = omega (arith, h)

      third : (n : ℕ) → 48 + n % 100 / 10 % 10 ≡ 48 + n / 10 % 10
      third n = omega arith

      fourth : (n : ℕ) → 48 + n % 100 % 10 ≡ 48 + n % 10
      fourth n = omega arith

-- ---- the text by the count of digits

module _ (x : Digits) where
  pub text_four : x.count ≡ 4 → x.a ∷ x.b ∷ x.c ∷ x.d ∷ 32 ∷ [] ≡ digits_text x
  unfolding digits_text
  text_four e = rw (eq-eqb x.count 4 e)

  module _ (f : x.count ≡ 4 → ⊥) where
    pub text_three : x.count ≡ 3 → x.b ∷ x.c ∷ x.d ∷ 32 ∷ [] ≡ digits_text x
    unfolding digits_text
    text_three e = rw (ne_eqb x.count 4 f, eq-eqb x.count 3 e)

    module _ (g : x.count ≡ 3 → ⊥) where
      pub text_two : x.count ≡ 2 → x.c ∷ x.d ∷ 32 ∷ [] ≡ digits_text x
      unfolding digits_text
      text_two e = rw (ne_eqb x.count 4 f, ne_eqb x.count 3 g, eq-eqb x.count 2 e)

      pub text_one : (x.count ≡ 2 → ⊥) → x.d ∷ 32 ∷ [] ≡ digits_text x
      unfolding digits_text
      text_one h = rw (ne_eqb x.count 4 f, ne_eqb x.count 3 g, ne_eqb x.count 2 h)

  pub digits_short : length (digits_text x) ≤ 5
  unfolding digits_text
  digits_short = go (eqb x.count 4) (eqb x.count 3) (eqb x.count 2)
    where
      go : (p q r : Bool)
          → length (cond p (x.a ∷ x.b ∷ x.c ∷ x.d ∷ 32 ∷ []) (cond q (x.b ∷ x.c ∷ x.d ∷ 32 ∷ []) (cond r (x.c ∷ x.d ∷ 32 ∷ []) (x.d ∷ 32 ∷ [])))) ≤ 5
      go true q r = omega arith
      go false true r = omega arith
      go false false true = omega arith
      go false false false = omega arith

  -- ---- store by store

  module _ (b : List ℕ) (r : length (digits_text x) ≤ length b) where
    room : {t : List ℕ} → t ≡ digits_text x → length t ≤ length b
    room e = subst (λ (t : List ℕ). length t ≤ length b) (sym e) r

    pub four_room : x.count ≡ 4 → 5 ≤ length b
    four_room e = room (text_four e)

    pub four_stores : x.count ≡ 4 → Wrote (digits_text x) b (set (set (set (set (set b 0 x.a) 1 x.b) 2 x.c) 3 x.d) 4 32) 5
    four_stores e =
        wrote_as (text_four e)
        (wrote_byte
        (wrote_byte
        (wrote_byte (wrote_byte (wrote_byte (wrote_none b) x.a (omega (arith, four_room e))) x.b (omega (arith, four_room e))) x.c (omega (arith, four_room e)))
        x.d (omega (arith, four_room e)))
        32 (omega (arith, four_room e)))

    module _ (f : x.count ≡ 4 → ⊥) where
      pub three_room : x.count ≡ 3 → 4 ≤ length b
      three_room e = room (text_three f e)

      pub three_stores : x.count ≡ 3 → Wrote (digits_text x) b (set (set (set (set b 0 x.b) 1 x.c) 2 x.d) 3 32) 4
      three_stores e =
          wrote_as (text_three f e)
          (wrote_byte
          (wrote_byte (wrote_byte (wrote_byte (wrote_none b) x.b (omega (arith, three_room e))) x.c (omega (arith, three_room e))) x.d (omega (arith, three_room e)))
          32 (omega (arith, three_room e)))

      module _ (g : x.count ≡ 3 → ⊥) where
        pub two_room : x.count ≡ 2 → 3 ≤ length b
        two_room e = room (text_two f g e)

        pub two_stores : x.count ≡ 2 → Wrote (digits_text x) b (set (set (set b 0 x.c) 1 x.d) 2 32) 3
        two_stores e =
            wrote_as (text_two f g e)
            (wrote_byte (wrote_byte (wrote_byte (wrote_none b) x.c (omega (arith, two_room e))) x.d (omega (arith, two_room e))) 32 (omega (arith, two_room e)))

        pub one_room : (x.count ≡ 2 → ⊥) → 2 ≤ length b
        one_room h = room (text_one f g h)

        pub one_stores : (x.count ≡ 2 → ⊥) → Wrote (digits_text x) b (set (set b 0 x.d) 1 32) 2
        one_stores h =
            wrote_as (text_one f g h)
            (wrote_byte (wrote_byte (wrote_none b) x.d (omega (arith, one_room h))) 32 (omega (arith, one_room h)))

pub room_at : (k : ℕ) {m : ℕ} (b : List ℕ) → k < m → m ≤ length b → k < length b
room_at k b l h = omega (arith, l, h)

-- ---- the number's text

module _ (n : ℕ) where
  two_digits : 9 < n → n ≤ 99 → decimal n ≡ (48 + n / 10 % 10) ∷ (48 + n % 10) ∷ []
  two_digits l h =
      decimal_large n l ∙ ap (λ (t : List ℕ). t ++ ((48 + n % 10) ∷ [])) (decimal_small (n / 10) (omega (arith, h)) ∙ ap (λ (v : ℕ). v ∷ []) (last h))
    where
      last : n ≤ 99 → 48 + n / 10 ≡ 48 + n / 10 % 10
      last h = omega (arith, h)

three_digits : (n : ℕ) → 99 < n → n ≤ 999 → decimal n ≡ (48 + n / 100 % 10) ∷ (48 + n / 10 % 10) ∷ (48 + n % 10) ∷ []
three_digits n l h =
    decimal_large n (omega (arith, l))
    ∙ ap (λ (t : List ℕ). t ++ ((48 + n % 10) ∷ []))
    (two_digits (n / 10) (omega (arith, l)) (omega (arith, h)) ∙ ap (λ (v : ℕ). v ∷ (48 + n / 10 % 10) ∷ []) (hundreds n))
  where
    hundreds : (n : ℕ) → 48 + n / 10 / 10 % 10 ≡ 48 + n / 100 % 10
    hundreds n = omega arith

four_digits : (n : ℕ) → 999 < n → n < 10000 → decimal n ≡ (48 + n / 1000) ∷ (48 + n / 100 % 10) ∷ (48 + n / 10 % 10) ∷ (48 + n % 10) ∷ []
four_digits n l h =
    decimal_large n (omega (arith, l))
    ∙ ap (λ (t : List ℕ). t ++ ((48 + n % 10) ∷ []))
    (three_digits (n / 10) (omega (arith, l)) (omega (arith, h))
    ∙ ap₂ (λ (u v : ℕ). u ∷ v ∷ (48 + n / 10 % 10) ∷ []) (thousands n h) (hundreds n))
  where
    thousands : (n : ℕ) → n < 10000 → 48 + n / 10 / 100 % 10 ≡ 48 + n / 1000
    thousands n h = omega (arith, h)

    hundreds : (n : ℕ) → 48 + n / 10 / 10 % 10 ≡ 48 + n / 100 % 10
    hundreds n = omega arith

-- the digits as code finds them
module _ (n : ℕ) where
  pub decimal_one : n < 10 → {a : ℕ} → a ≡ 48 + n % 10 → a ∷ [] ≡ decimal n
  decimal_one h p = ap (λ (v : ℕ). v ∷ []) (p ∙ last n h) ∙ sym (decimal_small n h)
    where
      last : (n : ℕ) → n < 10 → 48 + n % 10 ≡ 48 + n
      last n h = omega (arith, h)

  pub decimal_two : 9 < n → n ≤ 99 → {a b : ℕ} → a ≡ 48 + n / 10 % 10 → b ≡ 48 + n % 10 → a ∷ b ∷ [] ≡ decimal n
  decimal_two l h p q = ap₂ (λ (u v : ℕ). u ∷ v ∷ []) p q ∙ sym (two_digits n l h)

  pub decimal_three : 99 < n → n ≤ 999 → {a b c : ℕ} → a ≡ 48 + n / 100 % 10 → b ≡ 48 + n / 10 % 10 → c ≡ 48 + n % 10 → a ∷ b ∷ c ∷ [] ≡ decimal n
  decimal_three l h p q r = (λ i. p i ∷ q i ∷ r i ∷ []) ∙ sym (three_digits n l h)

  pub decimal_four : 999 < n → n < 10000 → {a b c d : ℕ} → a ≡ 48 + n / 1000 % 10 → b ≡ 48 + n / 100 % 10 → c ≡ 48 + n / 10 % 10 → d ≡ 48 + n % 10
      → a ∷ b ∷ c ∷ d ∷ [] ≡ decimal n
  decimal_four l h p q r s = (λ i. (p ∙ first n h) i ∷ q i ∷ r i ∷ s i ∷ []) ∙ sym (four_digits n l h)
    where
      first : (n : ℕ) → n < 10000 → 48 + n / 1000 % 10 ≡ 48 + n / 1000
      first n h = omega (arith, h)

pub digits_text_lem : (n : ℕ) → n < 10000 → digits_text (digits_of n) ≡ decimal n ++ (32 ∷ [])
digits_text_lem n h = ⊎_elim (λ (l : n ≤ 999). ⊎_elim (λ (k : n ≤ 99). ⊎_elim (one l k) (two l k) (le_or_lt n 9)) (three l) (le_or_lt n 99)) four (le_or_lt n 999)
  where
    x : Digits
    x = digits_of n

    -- a number has one count of digits
    other : (k j : ℕ) → (k ≡ j → ⊥) → k ≡ x.count → x.count ≡ j → ⊥
    other k j f e q = f (e ∙ q)

    spaced : {s : List ℕ} → s ++ (32 ∷ []) ≡ digits_text x → decimal n ≡ s → digits_text x ≡ decimal n ++ (32 ∷ [])
    spaced e q = sym e ∙ ap (λ (t : List ℕ). t ++ (32 ∷ [])) (sym q)

    four : 999 < n → digits_text x ≡ decimal n ++ (32 ∷ [])
    four l = spaced (text_four x (sym (size_four n l))) (four_digits n l h)

    three : n ≤ 999 → 99 < n → digits_text x ≡ decimal n ++ (32 ∷ [])
    three l k = spaced (text_three x (other 3 4 (λ e. omega (arith, e)) (size_three n l k)) (sym (size_three n l k))) (three_digits n k l)

    two : n ≤ 999 → n ≤ 99 → 9 < n → digits_text x ≡ decimal n ++ (32 ∷ [])
    two l k j =
        spaced
        (text_two x (other 2 4 (λ e. omega (arith, e)) (size_two n l k j)) (other 2 3 (λ e. omega (arith, e)) (size_two n l k j)) (sym (size_two n l k j)))
        (two_digits n j k)

    one : n ≤ 999 → n ≤ 99 → n ≤ 9 → digits_text x ≡ decimal n ++ (32 ∷ [])
    one l k j =
        spaced
        (text_one x (other 1 4 (λ e. omega (arith, e)) (size_one n l k j)) (other 1 3 (λ e. omega (arith, e)) (size_one n l k j)) (other 1 2 (λ e. omega (arith, e)) (size_one n l k j)))
        (decimal_small n (omega (arith, j)) ∙ ap (λ (v : ℕ). v ∷ []) (last n j))
      where
        last : (n : ℕ) → n ≤ 9 → 48 + n ≡ 48 + n % 10
        last n j = omega (arith, j)
