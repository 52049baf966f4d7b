-- A number of one to three digits against the automaton: its digits are read one by one, and no cap is met.
--   byte_read           one byte of the text, with the place that the automaton goes to
--   Item k mode         a number may begin at place k with that mode
--   short_number_read   the reading over such a number; a byte is left after it
-- Assumes nothing.
use Prim.Native.Nat.{ℕ, ◌+◌, ◌-◌, ◌*◌, ◌≤◌, ◌<◌}
use native.Mathlib.Nat.{zero-add}
use native.Mathlib.Numerals.{add-one}
use native.Mathlib.Omega.{arith}
use mathlib.Core.Path.{◌≡◌, refl, sym, ◌∙◌, subst}
use mathlib.Core.Bool.{Bool, true, false, cond, false≢true}
use mathlib.Core.List.{List}
use lib.Dec.{eqb, ltb}
use lib.ListN.{length, get_or, drop}
use lib.Seq.{drop-cons}
use borrow.Author.Tests.{ltb-true, ltb-false, le-ltb}
use Rattle.std.specs.Prelude.{Option, Some, None}
use Rattle.reader_form.specs.Automaton.{Step, placed, digit_test, form_step}
use Rattle.reader_words.specs.declared.ShortNumber.{ShortNumber}
use Rattle.reader_work.specs.Work.{grown_of, value_after, begin_after, work_of, work_heads, work_starts, work_bodies}
use Rattle.reader_work.specs.Fold.{State, read_from}
use Rattle.reader_words.specs.Standing.{short_number_of, short_number_at}

-- ---- digits

digit_between : (b : ℕ) → digit_test b ≡ true → (48 ≤ b) × (b < 58)
unfolding digit_test
digit_between b h = go (ltb b 48) refl h
  where
    go : (e : Bool) → ltb b 48 ≡ e → cond e false (ltb b 58) ≡ true → (48 ≤ b) × (b < 58)
    go true e g = absurd (false≢true g)
    go false e g = (ltb-false b 48 e, ltb-true b 58 g)

pub digit_low : (b : ℕ) (e : Bool) → e ≡ digit_test b → e ≡ true → 48 ≤ b
digit_low b e p q = (digit_between b (sym p ∙ q)).0

grown_digit : (v b : ℕ) → v < 100 → 48 ≤ b → b < 58 → grown_of v b ≡ v * 10 + (b - 48)
unfolding grown_of
grown_digit v b h l u = rw (le-ltb 999 v (omega arith), le-ltb b 48 l, le-ltb 1000 (v * 10 + (b - 48)) (omega arith))

-- ---- one byte of the text, at i

-- the state after a byte that the automaton takes to place p
abbrev pub moved : State → ℕ → ℕ → Step → State
moved s i b p =
    record {
      k = p.k;
      mode = p.mode;
      value = value_after p.act s.value b;
      begin = begin_after p.act s.begin i;
      counts = work_of p.act s.k s.value s.begin i s.counts;
      heads = work_heads p.act s.k s.value s.counts s.heads;
      starts = work_starts p.act s.counts s.starts;
      bodies = work_bodies p.act s.k s.value s.counts s.bodies;
    }

pub byte_read : (t : List ℕ) (i : ℕ) (s : State) (p : Step) → i < length t → form_step s.k s.mode (get_or t i 0) ≡ p → eqb p.mode 4 ≡ false
    → read_from s i (drop i t) ≡ read_from (moved s i (get_or t i 0) p) (i + 1) (drop (i + 1) t)
unfolding read_from
byte_read t i s p h e d = rw (drop-cons t i 0 h, add-one, e, d)

-- ---- a number

-- a number may begin at place k with the given mode, and goes on with every digit
pub record Item (k mode : ℕ) : Type 0 where
  pub begins_with : (b : ℕ) → 49 ≤ b → b < 58 → form_step k mode b ≡ placed k 2 1
  pub goes_with : (b : ℕ) → digit_test b ≡ true → form_step k 2 b ≡ placed k 2 2

-- the state in a number of that value, which begins at i
abbrev pub within : State → ℕ → ℕ → State
within s value i =
    record { k = s.k; mode = 2; value = value; begin = i; counts = s.counts; heads = s.heads; starts = s.starts; bodies = s.bodies }

pub record Read (t : List ℕ) (i : ℕ) (s : State) (n : ShortNumber) : Type 0 where
  pub same : read_from s i (drop i t) ≡ read_from (within s n.value i) (i + n.count) (drop (i + n.count) t)
  pub some : 0 < n.value
  pub left : i + n.count < length t

by_cond : (P : Option ShortNumber → Type 0) (b : Bool) (x y : Option ShortNumber) → (b ≡ true → P x) → (b ≡ false → P y) → P (cond b x y)
by_cond P true x y f g = f refl
by_cond P false x y f g = g refl

module _ (t : List ℕ) (i : ℕ) (s : State) (m : Item s.k s.mode) where
  first_read_lem : i < length t → 49 ≤ get_or t i 0 → get_or t i 0 < 58
      → read_from s i (drop i t) ≡ read_from (within s (get_or t i 0 - 48) i) (i + 1) (drop (i + 1) t)
  unfolding value_after begin_after work_of work_heads work_starts work_bodies
  first_read_lem h l u =
      byte_read t i s (placed s.k 2 1) h (m.begins_with (get_or t i 0) l u) refl
      ∙ rw (grown_digit 0 (get_or t i 0) (omega arith) (omega arith) u, zero-add)

  next_read : (v j j' : ℕ) → v < 100 → j < length t → digit_test (get_or t j 0) ≡ true → j + 1 ≡ j'
      → read_from (within s v i) j (drop j t) ≡ read_from (within s (v * 10 + (get_or t j 0 - 48)) i) j' (drop j' t)
  unfolding value_after begin_after work_of work_heads work_starts work_bodies
  next_read v j j' g l d e =
      byte_read t j (within s v i) (placed s.k 2 2) l (m.goes_with (get_or t j 0) d) refl
      ∙ rw (grown_digit v (get_or t j 0) g (digit_between (get_or t j 0) d).0 (digit_between (get_or t j 0) d).1, e)

  -- a number of one, two or three digits
  module _ (h : i + 4 ≤ length t) (l : 49 ≤ get_or t i 0) (u : get_or t i 0 < 58) where
    one_digit : Read t i s (record { value = get_or t i 0 - 48; count = 1 })
    one_digit = record { same = first_read_lem (omega arith) l u; some = omega arith; left = omega arith }

    module _ (d : digit_test (get_or t (i + 1) 0) ≡ true) where
      two_digits : Read t i s (record { value = (get_or t i 0 - 48) * 10 + (get_or t (i + 1) 0 - 48); count = 2 })
      two_digits =
          record {
            same = first_read_lem (omega arith) l u ∙ next_read (get_or t i 0 - 48) (i + 1) (i + 2) (omega arith) (omega arith) d (omega arith);
            some = omega arith;
            left = omega arith;
          }

      three_digits : digit_test (get_or t (i + 2) 0) ≡ true
          → Read t i s (record { value = ((get_or t i 0 - 48) * 10 + (get_or t (i + 1) 0 - 48)) * 10 + (get_or t (i + 2) 0 - 48); count = 3 })
      three_digits f =
          record {
            same =
                two_digits.same
                ∙ next_read ((get_or t i 0 - 48) * 10 + (get_or t (i + 1) 0 - 48)) (i + 2) (i + 3) (omega (arith, digit_between (get_or t (i + 1) 0) d)) (omega arith) f (omega arith);
            some = omega arith;
            left = omega arith;
          }

  abbrev Found : Option ShortNumber → Type 0
  Found None = Unit {0}
  Found (Some n) = Read t i s n

  short_number_whole : Found (short_number_at t i)
  unfolding short_number_at short_number_of
  short_number_whole =
      by_cond Found (ltb (length t) 4) _ _ (λ e. tt)
      (λ e.
      by_cond Found (ltb (length t - 4) i) _ _ (λ f. tt)
      (λ f.
      let h : i + 4 ≤ length t = omega (arith, ltb-false (length t) 4 e, ltb-false (length t - 4) i f) in
      by_cond Found (ltb (get_or t i 0) 49) _ _ (λ g. tt)
      (λ g.
      let l : 49 ≤ get_or t i 0 = ltb-false (get_or t i 0) 49 g in
      by_cond Found (ltb 57 (get_or t i 0)) _ _ (λ p. tt)
      (λ p.
      let u : get_or t i 0 < 58 = omega (arith, ltb-false 57 (get_or t i 0) p) in
      by_cond Found (digit_test (get_or t (i + 1) 0)) _ _
      (λ d. by_cond Found (digit_test (get_or t (i + 2) 0)) _ _ (λ c. three_digits h l u d c) (λ c. two_digits h l u d))
      (λ d. one_digit h l u)))))

  pub short_number_read : (n : ShortNumber) → Some n ≡ short_number_at t i → Read t i s n
  short_number_read n e = subst Found (sym e) short_number_whole

-- a byte is left after a number
abbrev Inside : List ℕ → ℕ → Option ShortNumber → Type 0
Inside t i None = Unit {0}
Inside t i (Some n) = i + n.count < length t

short_number_in_whole : (t : List ℕ) (i : ℕ) → Inside t i (short_number_at t i)
unfolding short_number_at short_number_of
short_number_in_whole t i =
    by_cond (Inside t i) (ltb (length t) 4) _ _ (λ e. tt)
    (λ e.
    by_cond (Inside t i) (ltb (length t - 4) i) _ _ (λ f. tt)
    (λ f.
    let h : i + 4 ≤ length t = omega (arith, ltb-false (length t) 4 e, ltb-false (length t - 4) i f) in
    by_cond (Inside t i) (ltb (get_or t i 0) 49) _ _ (λ g. tt)
    (λ g.
    by_cond (Inside t i) (ltb 57 (get_or t i 0)) _ _ (λ p. tt)
    (λ p.
    by_cond (Inside t i) (digit_test (get_or t (i + 1) 0)) _ _
    (λ d. by_cond (Inside t i) (digit_test (get_or t (i + 2) 0)) _ _ (λ c. omega arith) (λ c. omega arith))
    (λ d. omega arith)))))

pub short_number_in : (t : List ℕ) (i : ℕ) (n : ShortNumber) → Some n ≡ short_number_at t i → i + n.count < length t
short_number_in t i n e = subst (Inside t i) (sym e) (short_number_in_whole t i)
