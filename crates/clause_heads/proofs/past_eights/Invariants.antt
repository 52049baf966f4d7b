use Prim.Native.Nat.{◌-◌, ◌<◌, ◌^◌}
use mathlib.Core.Path.{◌≡◌}
use lib.ListN.{length}
use Rattle.clause_heads.specs.NextHead.{next_head}
use Rattle.clause_heads.proofs.past_eights.Given as goal

abbrev pub invariant-loop-i : goal.invariant-loop-i
invariant-loop-i l = (l.i < 2 ^ 16) × (next_head l.heads l.a.0 l.i ≡ next_head l.heads l.a.0 l.from)

abbrev pub decreases-loop-i : goal.decreases-loop-i
decreases-loop-i l = length l.heads - l.i
