-- A buffer with a text at its front counts its bytes.
-- Assumes nothing.
use Prim.Native.Nat.{ℕ, ◌≤◌}
use native.Mathlib.Omega.{arith}
use mathlib.Core.Path.{sym, ap}
use mathlib.Core.List.{List}
use lib.ListN.{length, drop, length-append}
use lib.Seq.{length-take-le}
use Rattle.digits.specs.Bytes.{Wrote}
use Rattle.io.specs.Counts.{IsPrefixLen}

pub wrote_counts : {x b l : List ℕ} {r : ℕ} → Wrote x b l r → IsPrefixLen r l
wrote_counts {x} {b} {l} {r} u = (within, sym (length-take-le r l within))
  where
    within : r ≤ length l
    within = omega (arith, u.count, ap length u.bytes, length-append x (drop r b))
