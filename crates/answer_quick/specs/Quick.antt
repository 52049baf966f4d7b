-- Literals of a solver answer in their common form (document 01, "Solver answer"): a space, a minus or none, one to four digits of which the first is not 0,
-- and a byte that is no digit. The byte of variable v stands at v - 1: 1 or 0 is its value, 2 says that it has none yet.
--   first_test b          b is a digit from 1 to 9
--   minus_of b            1 for the byte of a minus, else 0
--   sign_value m            the value that a literal gives its variable; m is 1 if it has a minus, else 0
--   Spelt, some_quick x   a literal with its space, and the code's answer for it
--   no_quick              what is answered where no literal stands in the common form
--   quick_of m u          the literal whose digits begin u, with its minus if m is 1 and its space
--   quick_at t p          the literal that stands in t at p
--   takes n t p b         it is of a variable up to n that has no value in b, and nine bytes of t are left
--   Gives t n p b q c     each literal of t from position p up to q is one that `takes` allows, and they give the buffer b their values: c
--   Passes t n p b q c    and the one at q is not: so q and c are fixed
-- Assumes nothing.
use Rattle.std.specs.Prelude.{ℕ, ◌+◌, ◌-◌, ◌≤◌, ◌≡◌, Bool, true, false, not, ◌&&◌, cond, List, eqb, ltb, leb, length, get_or, set, drop, Option, Some, None}
use Rattle.encoding.specs.Literal.{Literal}
use Literal.{var, −◌}
use Rattle.answer_form.specs.Pieces.{Next, next_literal, digits_value, behind_digits}
use Rattle.answer_quick.specs.declared.Quick.{Quick}

unfoldable pub first_test : ℕ → Bool
first_test b = cond (ltb b 49) false (ltb b 58)

unfoldable pub minus_of : ℕ → ℕ
minus_of b = cond (eqb b 45) 1 0

unfoldable pub sign_value : ℕ → ℕ
sign_value m = cond (eqb m 0) 1 0

-- a literal with its space: its variable, or 0 where none stands in the common form; 1 for a minus, else 0; and how many bytes it has
pub record Spelt : Type 0 where
  pub value : ℕ
  pub minus : ℕ
  pub size : ℕ

-- the code's answer for it
abbrev pub some_quick : Spelt → Option Quick
some_quick x = cond (eqb x.value 0) None (Some (record { value = x.value; minus = eqb x.minus 1; size = x.size }))

abbrev pub no_quick : Spelt
no_quick = record { value = 0; minus = 0; size = 0 }

unfoldable pub quick_of : ℕ → List ℕ → Spelt
quick_of m u =
    cond (first_test (get_or u 0 0) && leb (behind_digits 0 u) 4) (record { value = digits_value 0 u; minus = m; size = m + 1 + behind_digits 0 u }) no_quick

unfoldable pub quick_at : List ℕ → ℕ → Spelt
quick_at t p = cond (eqb (get_or t p 0) 32) (quick_of (minus_of (get_or t (p + 1) 0)) (drop (p + 1 + minus_of (get_or t (p + 1) 0)) t)) no_quick

-- ---- one after the other

-- literal x is one, and of a variable up to n that has no value in b
unfoldable pub takes_quick : ℕ → Spelt → List ℕ → Bool
takes_quick n x b = not (eqb x.value 0) && (not (ltb n x.value) && eqb (get_or b (x.value - 1) 0) 2)

unfoldable pub takes : ℕ → List ℕ → ℕ → List ℕ → Bool
takes n t p b = leb 9 (length t - p) && takes_quick n (quick_at t p) b

pub data Gives (t : List ℕ) (n p : ℕ) (b : List ℕ) : (q : ℕ) (c : List ℕ) → Type 0 where
  none : Gives t n p b p b
  plus : {q : ℕ} {c : List ℕ} (k first behind : ℕ) → Gives t n p b q c → takes n t q c ≡ true → next_literal t q ≡ Next.literal (var k) first behind → k ≤ n
      → get_or c (k - 1) 0 ≡ 2 → Gives t n p b behind (set c (k - 1) 1)
  minus : {q : ℕ} {c : List ℕ} (k first behind : ℕ) → Gives t n p b q c → takes n t q c ≡ true → next_literal t q ≡ Next.literal (− k) first behind → k ≤ n
      → get_or c (k - 1) 0 ≡ 2 → Gives t n p b behind (set c (k - 1) 0)

pub record Passes (t : List ℕ) (n p : ℕ) (b : List ℕ) (q : ℕ) (c : List ℕ) : Type 0 where
  pub each : Gives t n p b q c
  pub ends : takes n t q c ≡ false
