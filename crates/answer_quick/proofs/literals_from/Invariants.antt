use Rattle.answer_quick.specs.Quick.{Gives}
use lib.ListN.{length}
use Prim.Native.Nat.{◌-◌, ◌≤◌}
use Rattle.answer_quick.proofs.literals_from.Given as goal

abbrev pub invariant-loop-p : goal.invariant-loop-p
invariant-loop-p l = (l.p ≤ length l.answer) × Gives l.answer (length l.initial.values) l.from l.initial.values l.p l.values

abbrev pub decreases-loop-p : goal.decreases-loop-p
decreases-loop-p l = length l.answer - l.p
