-- A literal in its common form is the next literal.
--   first_digit           a digit from 1 to 9 is a digit, not 0 and no minus
--   digit_size, first_size, first_least  the bytes of digits, and of digits from 1 to 9
--   quick_none, quick_long                        no digit from 1 to 9 at the front; more than four digits
--   quick_one, quick_two, quick_three, quick_four     so many digits
--   five_bytes            the bytes from i on, where five are left
--   quick_other, quick_here     no space; a space and what follows it
--   Taken, quick_taken    what it says that a literal is taken
--   some_is, minus_is_of  the code's answers
-- Assumes nothing.
use Prim.Native.Nat.{ℕ, ◌+◌, ◌*◌, ◌-◌, ◌≤◌, ◌<◌}
use native.Mathlib.Omega.{arith}
use native.Mathlib.Nat.{add_assoc}
use mathlib.Core.Path.{◌≡◌, refl, sym, ◌∙◌, ap, ap₂, subst}
use mathlib.Core.Logic.{◌⊎◌, inl, inr}
use mathlib.Core.Bool.{Bool, true, false, not, ◌&&◌, cond, false≢true}
use mathlib.Core.List.{List, [], ◌∷◌}
use lib.Dec.{eqb, ltb, leb}
use lib.ListN.{length, get_or, drop}
use borrow.Author.Tests.{ltb-false, lt-leb, le-ltb, leb-true, eq-eqb, ne_eqb, eqb-true, not-true, not-false}
use Rattle.std.specs.Prelude.{Option, Some}
use Rattle.std.specs.Int.{from_bool}
use Rattle.encoding.specs.Literal.{Literal}
use Literal.{var, −◌}
use Rattle.reader_form.specs.Automaton.{digit_test}
use Rattle.reader_form.proofs.Digits.{digit_of_lem}
use Rattle.answer_form.specs.Automaton.{seek_step}
use Rattle.answer_form.specs.Pieces.{Next, next_literal, seek_from, literal_from, minus_from, digits_value, behind_digits}
use Rattle.answer_form.proofs.Turns.{byte_at}
use Rattle.answer_quick.specs.declared.Quick.{Quick}
use Rattle.answer_quick.specs.Quick.{Spelt, some_quick, first_test, minus_of, no_quick, quick_of, quick_at}

pub first_digit : (b : ℕ) → first_test b ≡ true → (digit_test b ≡ true) × (eqb b 48 ≡ false) × (eqb b 45 ≡ false) × (49 ≤ b)
unfolding first_test digit_test
first_digit b e = go (ltb b 49) refl e
  where
    go : (x : Bool) → ltb b 49 ≡ x → cond x false (ltb b 58) ≡ true
        → (cond (ltb b 48) false (ltb b 58) ≡ true) × (eqb b 48 ≡ false) × (eqb b 45 ≡ false) × (49 ≤ b)
    go true q e = absurd (false≢true e)
    go false q e =
        let h : 49 ≤ b = ltb-false b 49 q in
        (rw (le-ltb b 48 (omega (arith, h)), e), ne_eqb b 48 (λ (z : b ≡ 48). omega (arith, h, z)), ne_eqb b 45 (λ (z : b ≡ 45). omega (arith, h, z)), h)

-- the bytes of digits
pub digit_size : (b : ℕ) (d : Bool) → d ≡ digit_test b → not d ≡ false → (48 ≤ b) × (b ≤ 57)
digit_size b d e f = let w = digit_of_lem b (sym e ∙ not-false d f) in (omega (arith, w.1), omega (arith, w.1, w.2))

pub first_least : (b : ℕ) (d : Bool) → d ≡ first_test b → not d ≡ false → 49 ≤ b
first_least b d e f = (first_digit b (sym e ∙ not-false d f)).3

pub first_size : (b : ℕ) (d : Bool) → d ≡ first_test b → not d ≡ false → (48 ≤ b) × (b ≤ 57)
first_size b d e f = digit_size b true (sym (first_digit b (sym e ∙ not-false d f)).0) refl

-- ---- the digits at the front

pub quick_none : (m a : ℕ) (f : Bool) → f ≡ first_test a → not f ≡ true → (u : List ℕ) → no_quick ≡ quick_of m (a ∷ u)
unfolding quick_of
quick_none m a f e g u = rw (← e, not-true f g)

-- by the number of digits
quick_by : (m : ℕ) (u : List ℕ) → first_test (get_or u 0 0) ≡ true → (k v s : ℕ) → behind_digits 0 u ≡ k → leb k 4 ≡ true → s ≡ m + 1 + k → v ≡ digits_value 0 u
    → record { value = v; minus = m; size = s } ≡ quick_of m u
unfolding quick_of
quick_by m u f k v s b l e d = rw (f, b, l, e, d)

quick_over : (m : ℕ) (u : List ℕ) → 4 < behind_digits 0 u → no_quick ≡ quick_of m u
unfolding quick_of
quick_over m u h = rw (lt-leb (behind_digits 0 u) 4 h) (go (first_test (get_or u 0 0)))
  where
    go : (x : Bool) → no_quick ≡ cond (x && false) (record { value = digits_value 0 u; minus = m; size = m + 1 + behind_digits 0 u }) no_quick
    go true = refl
    go false = refl

behind_from : (i : ℕ) (u : List ℕ) → i ≤ behind_digits i u
unfolding behind_digits
behind_from i [] = omega arith
behind_from i (b ∷ u) = go (digit_test b) (behind_from (i + 1) u)
  where
    go : (x : Bool) → i + 1 ≤ behind_digits (i + 1) u → i ≤ cond x (behind_digits (i + 1) u) i
    go true h = omega (arith, h)
    go false h = omega arith

-- one digit more
behind_digit : (i b : ℕ) (u : List ℕ) → digit_test b ≡ true → behind_digits i (b ∷ u) ≡ behind_digits (i + 1) u
unfolding behind_digits
behind_digit i b u e = rw e

behind_other : (i b : ℕ) (u : List ℕ) → digit_test b ≡ false → behind_digits i (b ∷ u) ≡ i
unfolding behind_digits
behind_other i b u e = rw e

value_digit : (v b n : ℕ) (u : List ℕ) → digit_test b ≡ true → n ≡ v * 10 + (b - 48) → digits_value v (b ∷ u) ≡ digits_value n u
unfolding digits_value
value_digit v b n u e d = rw (e, d)

value_other : (v b : ℕ) (u : List ℕ) → digit_test b ≡ false → digits_value v (b ∷ u) ≡ v
unfolding digits_value
value_other v b u e = rw e

module _ (m a : ℕ) (f : Bool) (fe : f ≡ first_test a) (ft : not f ≡ false) (w : ℕ) (we : w ≡ 0 * 10 + (a - 48)) where
  first : first_test a ≡ true
  first = sym fe ∙ not-false f ft

  behind1 : (u : List ℕ) → behind_digits 0 (a ∷ u) ≡ behind_digits 1 u
  behind1 u = behind_digit 0 a u (first_digit a first).0

  value1 : (u : List ℕ) → digits_value 0 (a ∷ u) ≡ digits_value w u
  value1 u = value_digit 0 a w u (first_digit a first).0 we

  module _ (b : ℕ) (g : Bool) (ge : g ≡ digit_test b) where
    pub quick_one : not g ≡ true → (u : List ℕ) → record { value = w; minus = m; size = m + 2 } ≡ quick_of m (a ∷ b ∷ u)
    quick_one gt u =
        let no = sym ge ∙ not-true g gt in
        quick_by m (a ∷ b ∷ u) first 1 w (m + 2) (behind1 (b ∷ u) ∙ behind_other 1 b u no) refl (omega arith) (sym (value1 (b ∷ u) ∙ value_other w b u no))

    module _ (gt : not g ≡ false) (x : ℕ) (xe : x ≡ w * 10 + (b - 48)) where
      behind2 : (u : List ℕ) → behind_digits 0 (a ∷ b ∷ u) ≡ behind_digits 2 u
      behind2 u = behind1 (b ∷ u) ∙ behind_digit 1 b u (sym ge ∙ not-false g gt)

      value2 : (u : List ℕ) → digits_value 0 (a ∷ b ∷ u) ≡ digits_value x u
      value2 u = value1 (b ∷ u) ∙ value_digit w b x u (sym ge ∙ not-false g gt) xe

      module _ (c : ℕ) (h : Bool) (he : h ≡ digit_test c) where
        pub quick_two : not h ≡ true → (u : List ℕ) → record { value = x; minus = m; size = m + 3 } ≡ quick_of m (a ∷ b ∷ c ∷ u)
        quick_two ht u =
            let no = sym he ∙ not-true h ht in
            quick_by m (a ∷ b ∷ c ∷ u) first 2 x (m + 3) (behind2 (c ∷ u) ∙ behind_other 2 c u no) refl (omega arith)
            (sym (value2 (c ∷ u) ∙ value_other x c u no))

        module _ (ht : not h ≡ false) (y : ℕ) (ye : y ≡ x * 10 + (c - 48)) where
          behind3 : (u : List ℕ) → behind_digits 0 (a ∷ b ∷ c ∷ u) ≡ behind_digits 3 u
          behind3 u = behind2 (c ∷ u) ∙ behind_digit 2 c u (sym he ∙ not-false h ht)

          value3 : (u : List ℕ) → digits_value 0 (a ∷ b ∷ c ∷ u) ≡ digits_value y u
          value3 u = value2 (c ∷ u) ∙ value_digit x c y u (sym he ∙ not-false h ht) ye

          module _ (d : ℕ) (k : Bool) (ke : k ≡ digit_test d) where
            pub quick_three : not k ≡ true → (u : List ℕ) → record { value = y; minus = m; size = m + 4 } ≡ quick_of m (a ∷ b ∷ c ∷ d ∷ u)
            quick_three kt u =
                let no = sym ke ∙ not-true k kt in
                quick_by m (a ∷ b ∷ c ∷ d ∷ u) first 3 y (m + 4) (behind3 (d ∷ u) ∙ behind_other 3 d u no) refl (omega arith)
                (sym (value3 (d ∷ u) ∙ value_other y d u no))

            module _ (kt : not k ≡ false) (e : ℕ) (l : Bool) (le : l ≡ digit_test e) where
              behind4 : (u : List ℕ) → behind_digits 0 (a ∷ b ∷ c ∷ d ∷ u) ≡ behind_digits 4 u
              behind4 u = behind3 (d ∷ u) ∙ behind_digit 3 d u (sym ke ∙ not-false k kt)

              pub quick_long : l ≡ true → (u : List ℕ) → no_quick ≡ quick_of m (a ∷ b ∷ c ∷ d ∷ e ∷ u)
              quick_long lt u = quick_over m (a ∷ b ∷ c ∷ d ∷ e ∷ u) (omega (arith, behind4 (e ∷ u) ∙ behind_digit 4 e u (sym le ∙ lt), behind_from 5 u))

              pub quick_four : l ≡ false → (z : ℕ) → z ≡ y * 10 + (d - 48) → (u : List ℕ)
                  → record { value = z; minus = m; size = m + 5 } ≡ quick_of m (a ∷ b ∷ c ∷ d ∷ e ∷ u)
              quick_four lf z ze u =
                  quick_by m (a ∷ b ∷ c ∷ d ∷ e ∷ u) first 4 z (m + 5) (behind4 (e ∷ u) ∙ behind_other 4 e u (sym le ∙ lf)) refl (omega arith)
                  (sym (value3 (d ∷ e ∷ u) ∙ value_digit y d z (e ∷ u) (sym ke ∙ not-false k kt) ze ∙ value_other z e u (sym le ∙ lf)))

-- ---- in a text

-- the bytes from i on, where five are left
pub five_bytes : (t : List ℕ) (i : ℕ) → i + 5 ≤ length t
    → drop i t ≡ get_or t i 0 ∷ get_or t (i + 1) 0 ∷ get_or t (i + 2) 0 ∷ get_or t (i + 3) 0 ∷ get_or t (i + 4) 0 ∷ drop (i + 5) t
five_bytes t i h =
    byte_at t i (omega (arith, h))
    ∙ ap (λ (u : List ℕ). get_or t i 0 ∷ u) (next 1 (omega (arith, h))
    ∙ ap (λ (u : List ℕ). get_or t (i + 1) 0 ∷ u) (next 2 (omega (arith, h))
    ∙ ap (λ (u : List ℕ). get_or t (i + 2) 0 ∷ u) (next 3 (omega (arith, h))
    ∙ ap (λ (u : List ℕ). get_or t (i + 3) 0 ∷ u) (next 4 (omega (arith, h))))))
  where
    next : (k : ℕ) → i + k < length t → drop (i + k) t ≡ get_or t (i + k) 0 ∷ drop (i + (k + 1)) t
    next k g = byte_at t (i + k) g ∙ ap (λ (j : ℕ). get_or t (i + k) 0 ∷ drop j t) (add_assoc i k 1)

pub minus_most : (b : ℕ) (m : ℕ) → m ≡ minus_of b → m ≤ 1
unfolding minus_of
minus_most b m e = go (eqb b 45) e
  where
    go : (x : Bool) → m ≡ cond x 1 0 → m ≤ 1
    go true e = omega (arith, e)
    go false e = omega (arith, e)

module _ (t : List ℕ) (p : ℕ) where
  pub quick_other : (get_or t p 0 ≡ 32 → ⊥) → no_quick ≡ quick_at t p
  unfolding quick_at
  quick_other n = rw (ne_eqb (get_or t p 0) 32 n)

  here_is : get_or t p 0 ≡ 32 → (m : ℕ) → m ≡ minus_of (get_or t (p + 1) 0) → (i : ℕ) → i ≡ p + 1 + m → quick_of m (drop i t) ≡ quick_at t p
  unfolding quick_at
  here_is s m e i j = ap (λ (k : ℕ). quick_of m (drop k t)) j ∙ sym (rw (eq-eqb (get_or t p 0) 32 s, ← e))

  pub quick_here : get_or t p 0 ≡ 32 → (m : ℕ) → m ≡ minus_of (get_or t (p + 1) 0) → (i : ℕ) → i ≡ p + 1 + m → i + 5 ≤ length t → (r : Option Quick)
      → ((u : List ℕ) → r ≡ some_quick (quick_of m (get_or t i 0 ∷ get_or t (i + 1) 0 ∷ get_or t (i + 2) 0 ∷ get_or t (i + 3) 0 ∷ get_or t (i + 4) 0 ∷ u)))
      → r ≡ some_quick (quick_at t p)
  quick_here s m e i j h r q = q (drop (i + 5) t) ∙ ap some_quick (sym (ap (quick_of m) (five_bytes t i h)) ∙ here_is s m e i j)

-- ---- the next literal

behind_shift : (i j : ℕ) (u : List ℕ) → behind_digits (i + j) u ≡ i + behind_digits j u
unfolding behind_digits
behind_shift i j [] = refl
behind_shift i j (b ∷ u) = go (digit_test b) (behind_shift i (j + 1) u)
  where
    go : (x : Bool) → behind_digits (i + (j + 1)) u ≡ i + behind_digits (j + 1) u
        → cond x (behind_digits (i + j + 1) u) (i + j) ≡ i + cond x (behind_digits (j + 1) u) j
    go true h = ap (λ (k : ℕ). behind_digits k u) (add_assoc i j 1) ∙ h
    go false h = refl

-- where a literal is taken, its digits
record Digits (m : ℕ) (u : List ℕ) (x : Spelt) : Type 0 where
  begins : first_test (get_or u 0 0) ≡ true
  few : behind_digits 0 u ≤ 4
  value_is : x.value ≡ digits_value 0 u
  minus_is : x.minus ≡ m
  size_is : x.size ≡ m + 1 + behind_digits 0 u

digits_taken : (m : ℕ) (u : List ℕ) (x : Spelt) → x ≡ quick_of m u → (x.value ≡ 0 → ⊥) → Digits m u x
unfolding quick_of
digits_taken m u x e n = go (first_test (get_or u 0 0)) (leb (behind_digits 0 u) 4) refl refl e
  where
    go : (c d : Bool) → first_test (get_or u 0 0) ≡ c → leb (behind_digits 0 u) 4 ≡ d
        → x ≡ cond (c && d) (record { value = digits_value 0 u; minus = m; size = m + 1 + behind_digits 0 u }) no_quick → Digits m u x
    go true true p q e = record {
      begins = p;
      few = leb-true (behind_digits 0 u) 4 q;
      value_is = ap (λ (y : Spelt). y.value) e;
      minus_is = ap (λ (y : Spelt). y.minus) e;
      size_is = ap (λ (y : Spelt). y.size) e;
    }
    go true false p q e = absurd (n (ap (λ (y : Spelt). y.value) e))
    go false d p q e = absurd (n (ap (λ (y : Spelt). y.value) e))

-- a literal is taken at p: it is the next one, and it ends within nine bytes
pub record Taken (t : List ℕ) (p : ℕ) (x : Spelt) : Type 0 where
  pub some : 2 ≤ x.size
  pub most : x.size ≤ 6
  pub next : ((x.minus ≡ 0) × (next_literal t p ≡ Next.literal (var x.value) (p + 1) (p + x.size)))
      ⊎ ((x.minus ≡ 1) × (next_literal t p ≡ Next.literal (− x.value) (p + 1) (p + x.size)))

var_here : (i b : ℕ) (u : List ℕ) → first_test b ≡ true → literal_from i (b ∷ u) ≡ Next.literal (var (digits_value 0 (b ∷ u))) i (behind_digits i (b ∷ u))
unfolding literal_from
var_here i b u f = let d = first_digit b f in rw (d.2, d.1, d.0)

minus_here : (i b : ℕ) (u : List ℕ) → first_test b ≡ true → minus_from i (b ∷ u) ≡ Next.literal (− (digits_value 0 (b ∷ u))) (i - 1) (behind_digits i (b ∷ u))
unfolding minus_from
minus_here i b u f = let d = first_digit b f in rw (d.1, d.0)

module _ (t : List ℕ) where
  space_next : (p : ℕ) → p < length t → get_or t p 0 ≡ 32 → next_literal t p ≡ literal_from (p + 1) (drop (p + 1) t)
  unfolding next_literal seek_from seek_step
  space_next p h e =
      let s : seek_step 35 (get_or t p 0) ≡ 36 = ap (seek_step 35) e in
      ap (seek_from 35 p) (byte_at t p h) ∙ rw (eq-eqb (seek_step 35 (get_or t p 0)) 36 s)

  literal_minus : (i : ℕ) → i < length t → get_or t i 0 ≡ 45 → literal_from i (drop i t) ≡ minus_from (i + 1) (drop (i + 1) t)
  unfolding literal_from
  literal_minus i h e = ap (literal_from i) (byte_at t i h) ∙ rw (eq-eqb (get_or t i 0) 45 e)

  at_front : (i : ℕ) → i < length t → first_test (get_or (drop i t) 0 0) ≡ true → first_test (get_or t i 0) ≡ true
  at_front i h f = sym (ap (λ (u : List ℕ). first_test (get_or u 0 0)) (byte_at t i h)) ∙ f

  var_at : (i : ℕ) → i < length t → first_test (get_or (drop i t) 0 0) ≡ true
      → literal_from i (drop i t) ≡ Next.literal (var (digits_value 0 (drop i t))) i (behind_digits i (drop i t))
  var_at i h f =
      subst (λ (u : List ℕ). literal_from i u ≡ Next.literal (var (digits_value 0 u)) i (behind_digits i u)) (sym (byte_at t i h))
      (var_here i (get_or t i 0) (drop (i + 1) t) (at_front i h f))

  minus_at : (i : ℕ) → i < length t → first_test (get_or (drop i t) 0 0) ≡ true
      → minus_from i (drop i t) ≡ Next.literal (− (digits_value 0 (drop i t))) (i - 1) (behind_digits i (drop i t))
  minus_at i h f =
      subst (λ (u : List ℕ). minus_from i u ≡ Next.literal (− (digits_value 0 u)) (i - 1) (behind_digits i u)) (sym (byte_at t i h))
      (minus_here i (get_or t i 0) (drop (i + 1) t) (at_front i h f))

  some_digits : (i : ℕ) → i < length t → first_test (get_or (drop i t) 0 0) ≡ true → 1 ≤ behind_digits 0 (drop i t)
  some_digits i h f =
      let one = behind_digit 0 (get_or t i 0) (drop (i + 1) t) (first_digit (get_or t i 0) (at_front i h f)).0 in
      omega (arith, ap (behind_digits 0) (byte_at t i h) ∙ one, behind_from 1 (drop (i + 1) t))

  -- the position after the digits
  ended : (i p s m : ℕ) → i ≡ p + 1 + m → s ≡ m + 1 + behind_digits 0 (drop i t) → behind_digits i (drop i t) ≡ p + s
  ended i p s m e f = omega (arith, from_zero, e, f)
    where
      from_zero : behind_digits i (drop i t) ≡ i + behind_digits 0 (drop i t)
      from_zero = ap (λ (k : ℕ). behind_digits k (drop i t)) (omega arith) ∙ behind_shift i 0 (drop i t)

  module _ (p : ℕ) (h : p + 9 ≤ length t) (x : Spelt) (n : x.value ≡ 0 → ⊥) (s : get_or t p 0 ≡ 32) where
    by_minus : (b : Bool) → eqb (get_or t (p + 1) 0) 45 ≡ b → x ≡ quick_of (cond b 1 0) (drop (p + 1 + cond b 1 0) t) → Taken t p x
    by_minus true m e =
        let d = digits_taken 1 (drop (p + 1 + 1) t) x e n in
        let i : p + 1 + 1 < length t = omega (arith, h) in
        let k : (p + 1 + 1) - 1 ≡ p + 1 = omega arith in
        record {
          some = omega (arith, d.size_is);
          most = omega (arith, d.size_is, d.few);
          next = inr (
            d.minus_is,
            space_next p (omega (arith, h)) s ∙ literal_minus (p + 1) (omega (arith, h)) (eqb-true (get_or t (p + 1) 0) 45 m) ∙ minus_at (p + 1 + 1) i d.begins
                ∙ ap₂ (λ (v f : ℕ). Next.literal (− v) f (behind_digits (p + 1 + 1) (drop (p + 1 + 1) t))) (sym d.value_is) k
                ∙ ap (Next.literal (− x.value) (p + 1)) (ended (p + 1 + 1) p x.size 1 refl d.size_is),
          );
        }
    by_minus false m e =
        let d = digits_taken 0 (drop (p + 1 + 0) t) x e n in
        let i : p + 1 + 0 < length t = omega (arith, h) in
        let k : p + 1 ≡ p + 1 + 0 = omega arith in
        record {
          some = omega (arith, d.size_is, some_digits (p + 1 + 0) i d.begins);
          most = omega (arith, d.size_is, d.few);
          next = inl (
            d.minus_is,
            space_next p (omega (arith, h)) s ∙ ap (λ (j : ℕ). literal_from j (drop j t)) k ∙ var_at (p + 1 + 0) i d.begins
                ∙ ap₂ (λ (v f : ℕ). Next.literal (var v) f (behind_digits (p + 1 + 0) (drop (p + 1 + 0) t))) (sym d.value_is) (sym k)
                ∙ ap (Next.literal (var x.value) (p + 1)) (ended (p + 1 + 0) p x.size 0 refl d.size_is),
          );
        }

  pub quick_taken : (p : ℕ) → p + 9 ≤ length t → (x : Spelt) → x ≡ quick_at t p → (x.value ≡ 0 → ⊥) → Taken t p x
  unfolding quick_at minus_of
  quick_taken p h x e n = go (eqb (get_or t p 0) 32) refl e
    where
      go : (b : Bool) → eqb (get_or t p 0) 32 ≡ b
          → x ≡ cond b (quick_of (minus_of (get_or t (p + 1) 0)) (drop (p + 1 + minus_of (get_or t (p + 1) 0)) t)) no_quick → Taken t p x
      go true s e = by_minus p h x n (eqb-true (get_or t p 0) 32 s) (eqb (get_or t (p + 1) 0) 45) refl e
      go false s e = absurd (n (ap (λ (y : Spelt). y.value) e))

-- ---- the code's answers

pub some_is : (minus : Bool) (v s : ℕ) (x : Spelt) → record { value = v; minus = from_bool minus; size = s } ≡ x → 0 < v
    → Some (record { value = v; minus = minus; size = s }) ≡ some_quick x
some_is minus v s x e h = go minus (ne_eqb v 0 (λ (z : v ≡ 0). omega (arith, h, z))) ∙ ap some_quick e
  where
    go : (d : Bool) → eqb v 0 ≡ false → Some (record { value = v; minus = d; size = s }) ≡ some_quick (record { value = v; minus = from_bool d; size = s })
    go true f = rw f
    go false f = rw f

pub minus_is_of : (b : ℕ) → from_bool (eqb b 45) ≡ minus_of b
unfolding minus_of
minus_is_of b = go (eqb b 45)
  where
    go : (d : Bool) → from_bool d ≡ cond d 1 0
    go true = refl
    go false = refl
