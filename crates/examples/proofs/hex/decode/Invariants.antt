use Rattle.std.proofs.Common.{◌≤◌, length}
use Rattle.examples.proofs.hex.decode.Given as goal

abbrev pub invariant-loop-left : goal.invariant-loop-left
invariant-loop-left l = l.n ≤ length l.bytes

abbrev pub decreases-loop-left : goal.decreases-loop-left
decreases-loop-left l = length l.left
