-- The products in document 01's number of clauses are bounded.
-- Assumes nothing.
use Prim.Native.Nat.{ℕ, ◌+◌, ◌*◌, ◌-◌, ◌≤◌}
use native.Mathlib.Nat.{mul-le-mul}
use native.Mathlib.Omega.{arith}

pub bits_fit : (w e : ℕ) → w ≤ 7 → e ≤ 500 → w * e ≤ 3500
bits_fit w e h l = mul-le-mul {n₂ = 7} {m₂ = 500} h l

pub atoms_fit : (n w : ℕ) → n ≤ 126 → w ≤ 7 → n * w ≤ 882
atoms_fit n w h l = mul-le-mul {n₂ = 126} {m₂ = 7} h l

pub squares_fit : (n w : ℕ) → n ≤ 126 → w ≤ 7 → n * w * (w + 2) ≤ 7938
squares_fit n w h l = mul-le-mul {n₂ = 882} {m₂ = 9} (atoms_fit n w h l) (omega (arith, l))

pub pairs_fit : (k w : ℕ) → k ≤ 500 → w ≤ 7 → k * (12 * w - 5) ≤ 39500
pairs_fit k w h l = mul-le-mul {n₂ = 500} {m₂ = 79} h (omega (arith, l))
