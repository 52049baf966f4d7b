-- A list filled up with zeros to n elements has n elements.
-- Assumes nothing.
use Prim.Native.Nat.{ℕ, ◌-◌, ◌≤◌}
use native.Mathlib.Omega.{arith}
use mathlib.Core.Path.{◌≡◌, ◌∙◌}
use mathlib.Core.List.{List}
use lib.ListN.{length, replicate, length-append, length-replicate}
use Rattle.program.specs.Arrays.{pad}

pub length_pad : (n : ℕ) (xs : List ℕ) → length xs ≤ n → length (pad n xs) ≡ n
length_pad n xs h = length-append xs (replicate (n - length xs) 0) ∙ omega (arith, h, length-replicate {A = ℕ} (n - length xs) 0)
