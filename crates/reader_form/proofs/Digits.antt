-- Bytes that are digits.
--   is_digit      48 and a number below ten is one
--   digit_of_lem  and each is such a sum
--   ascii_digit   std's test is the same
-- Assumes nothing.
use Prim.Native.Nat.{ℕ, ◌+◌, ◌-◌, ◌≤◌, ◌<◌}
use native.Mathlib.Omega.{arith}
use mathlib.Core.Path.{◌≡◌, refl}
use mathlib.Core.Bool.{Bool, true, false, cond, false≢true}
use mathlib.Core.Logic.{⊎_elim}
use lib.Dec.{ltb}
use borrow.Author.Tests.{lt-ltb, le-ltb, ltb-true, ltb-false, le-leb, lt-leb}
use Rattle.std.specs.Char.{is_ascii_digit}
use Rattle.lists.proofs.Tests.{le_or_lt}
use Rattle.reader_form.specs.Automaton.{digit_test}

pub is_digit : (d : ℕ) → d < 10 → digit_test (48 + d) ≡ true
unfolding digit_test
is_digit d h = rw (le-ltb (48 + d) 48 (omega arith), lt-ltb (48 + d) 58 (omega arith))

pub digit_of_lem : (b : ℕ) → digit_test b ≡ true → (d : ℕ) × (b ≡ 48 + d) × (d < 10)
unfolding digit_test
digit_of_lem b e = go (ltb b 48) refl e
  where
    go : (x : Bool) → ltb b 48 ≡ x → cond x false (ltb b 58) ≡ true → (d : ℕ) × (b ≡ 48 + d) × (d < 10)
    go true q e = absurd (false≢true e)
    go false q e = (b - 48, omega (arith, ltb-false b 48 q), omega (arith, ltb-true b 58 e, ltb-false b 48 q))

pub ascii_digit : (b : ℕ) → is_ascii_digit b ≡ digit_test b
unfolding digit_test
ascii_digit b =
    ⊎_elim
    (λ (h : 48 ≤ b).
    ⊎_elim (λ (g : 58 ≤ b). rw (le-leb 48 b h, lt-leb b 57 (omega arith), le-ltb b 48 h, le-ltb b 58 g))
    (λ (g : b < 58). rw (le-leb 48 b h, le-leb b 57 (omega arith), le-ltb b 48 h, lt-ltb b 58 g)) (le_or_lt 58 b))
    (λ (h : b < 48). rw (lt-leb 48 b h, lt-ltb b 48 h)) (le_or_lt 48 b)
