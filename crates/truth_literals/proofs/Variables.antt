-- The numbers of variables are at most V.
--   count_grows                          more pairs have more variables
--   atom_in, body_in, founds_in          the variables of an atom and of a rule have bytes where V variables have
--   level_fits, next_fits                bit i of a level and of a next
--   below_fits, next_below_fits          bit i of pair k, level below and next below
--   level_in_lem, next_in                those of a level and of a next have bytes
-- Assumes nothing.
use Prim.Native.Nat.{ℕ, zero, suc, ◌+◌, ◌*◌, ◌≤◌, ◌<◌}
use native.Mathlib.Nat.{mul-le-mul_right, mul_assoc}
use native.Mathlib.Omega.{arith}
use mathlib.Core.Path.{◌≡◌}
use Rattle.encoding.specs.Variables.{Sizes, body_var, founds_var, level_var, next_var, below_var, next_below_var, var_count}

module _ (S : Sizes) where
  pub count_grows : (k n : ℕ) → k ≤ n → var_count S k ≤ var_count S n
  count_grows k n h = omega (arith, mul-le-mul_right S.w (twice k n h))
    where
      twice : (k n : ℕ) → k ≤ n → 2 * k ≤ 2 * n
      twice k n h = omega (arith, h)

  -- n bytes, at least one for each variable of k pairs
  module _ (k : ℕ) {n : ℕ} (f : var_count S k ≤ n) where
    pub atom_in : (a : ℕ) → 0 < a → a ≤ S.n → {v : ℕ} → v ≡ a → (0 < v) × (v ≤ n)
    atom_in a p h e = (omega (arith, e, p), omega (arith, e, f, h))

    pub body_in : (r : ℕ) → 0 < r → r ≤ S.m → {v : ℕ} → v ≡ body_var S r → (0 < v) × (v ≤ n)
    body_in r p h e = (omega (arith, e, p), omega (arith, e, f, h))

    pub founds_in : (r : ℕ) → 0 < r → r ≤ S.m → {v : ℕ} → v ≡ founds_var S r → (0 < v) × (v ≤ n)
    founds_in r p h e = (omega (arith, e, p), omega (arith, e, f, h))

  pub level_fits : (a i k : ℕ) → 0 < a → a ≤ S.n → i ≤ S.w → level_var S a i ≤ var_count S k
  level_fits zero i k p h g = absurd (omega (arith, p))
  level_fits (suc a) i k p h g = omega (arith, mul-le-mul_right S.w h, mul_assoc 2 S.n S.w, g)

  pub next_fits : (a i k : ℕ) → 0 < a → a ≤ S.n → i ≤ S.w → next_var S a i ≤ var_count S k
  next_fits zero i k p h g = absurd (omega (arith, p))
  next_fits (suc a) i k p h g = omega (arith, mul-le-mul_right S.w h, mul_assoc 2 S.n S.w, g)

  pub next_below_fits : (k i n : ℕ) → 0 < k → k ≤ n → i ≤ S.w → next_below_var S k i ≤ var_count S n
  next_below_fits zero i n p h g = absurd (omega (arith, p))
  next_below_fits (suc k) i n p h g = omega (arith, mul-le-mul_right S.w (twice k n h), g)
    where
      twice : (k n : ℕ) → suc k ≤ n → 2 * suc k ≤ 2 * n
      twice k n h = omega (arith, h)

  pub below_fits : (k i n : ℕ) → 0 < k → k ≤ n → i ≤ S.w → below_var S k i ≤ var_count S n
  below_fits k i n p h g = omega (arith, next_below_fits k i n p h g)

  pub level_in_lem : (a i k : ℕ) → 0 < a → a ≤ S.n → i < S.w → {n : ℕ} → var_count S k ≤ n → {v : ℕ} → v ≡ level_var S a (i + 1) → (0 < v) × (v ≤ n)
  level_in_lem a i k p h g f e = (omega (arith, e), omega (arith, e, f, level_fits a (i + 1) k p h (omega (arith, g))))

  pub next_in : (a i k : ℕ) → 0 < a → a ≤ S.n → i < S.w → {n : ℕ} → var_count S k ≤ n → {v : ℕ} → v ≡ next_var S a (i + 1) → (0 < v) × (v ≤ n)
  next_in a i k p h g f e = (omega (arith, e), omega (arith, e, f, next_fits a (i + 1) k p h (omega (arith, g))))
