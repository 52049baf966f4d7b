-- Numbers of which 0 stands for none, as options.
--   some_found, none_found    a number above 0, and 0
--   found_is, found_some      the number that there is
--   found_none                there is none
-- Assumes nothing.
use Prim.Native.Nat.{ℕ, zero, suc, ◌<◌}
use native.Mathlib.Nat.{not-suc-le-zero}
use native.Mathlib.Omega.{arith}
use mathlib.Core.Path.{◌≡◌, refl, ◌∙◌, ap}
use Rattle.std.specs.Prelude.{Option, Some, None}
use Rattle.numbers.specs.Nonzero.{nonzero}

nonzero_some : (j : ℕ) → 0 < j → Some j ≡ nonzero j
nonzero_some zero h = absurd (not-suc-le-zero h)
nonzero_some (suc j) h = refl

pub some_found : (j : ℕ) {k : ℕ} → 0 < j → j ≡ k → Some j ≡ nonzero k
some_found j h e = nonzero_some j h ∙ ap nonzero e

pub none_found : {k : ℕ} → 0 ≡ k → None ≡ nonzero k
none_found e = ap nonzero e

pub found_is : (k : ℕ) {j : ℕ} → Some j ≡ nonzero k → j ≡ k
found_is zero e = cc
found_is (suc k) e = cc

pub found_some : (k : ℕ) {j : ℕ} → Some j ≡ nonzero k → 0 < j
found_some zero e = cc
found_some (suc k) {j} e = omega (arith, found_is (suc k) e)

pub found_none : (k : ℕ) → None ≡ nonzero k → 0 ≡ k
found_none zero e = refl
found_none (suc k) e = cc
