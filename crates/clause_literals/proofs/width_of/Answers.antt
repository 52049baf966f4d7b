use Rattle.theory.proofs.Widths.{width_zeros}
use native.Mathlib.Omega.{arith}
use mathlib.Core.Path.{sym, ap}
use Prim.Native.Nat.{ℕ, ◌+◌, ◌-◌}
use lib.Count.{count_leading_zeros}
use mathlib.Core.Path.{◌∙◌}
use Rattle.clause_literals.proofs.width_of.Goals as goal

pub returns : goal.returns
returns c = ap (λ (n : ℕ). 32 - count_leading_zeros 32 (n + 1)) c.from.ensures ∙ sym (width_zeros 32 c.args.n (omega (arith, c.ranges.n)))
