-- The products in the numbers of the variables are bounded (document 01, "Variables").
-- Assumes nothing.
use Prim.Native.Nat.{ℕ, pred, ◌*◌, ◌-◌, ◌≤◌}
use native.Mathlib.Nat.{mul-le-mul}
use native.Mathlib.Omega.{arith}
use mathlib.Core.Path.{◌≡◌}
use Rattle.encoding.specs.Variables.{Sizes, below_var}
use Rattle.clause_literals.specs.Sizes.{Bounded}

pub one_before : (k : ℕ) → k - 1 ≡ pred k
one_before k = omega arith

module _ (s : Sizes) (b : Bounded s) where
  product : (k x : ℕ) → x ≤ k → x * s.w ≤ k * 7
  product k x h = mul-le-mul {n₂ = k} {m₂ = 7} h b.bits

  -- n * w and 2 * n * w
  pub atoms_fit : s.n * s.w ≤ 882
  atoms_fit = product 126 s.n b.atoms

  pub twice_atoms_fit : 2 * s.n * s.w ≤ 1764
  twice_atoms_fit = product 252 (2 * s.n) (omega (arith, b.atoms))

  -- p(k,i) is small enough that q(k,i), w more, fits
  pub below_fits : (k i : ℕ) → k ≤ 500 → i ≤ 7 → below_var s k i ≤ 9883
  below_fits k i h l = omega (arith, b.atoms, b.rules, twice_atoms_fit, product 998 (2 * pred k) (omega (arith, h)), l)
