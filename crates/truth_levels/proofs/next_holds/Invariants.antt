use Rattle.truth_levels.specs.Levels.{next_true}
use Rattle.truth_literals.specs.Values.{value_in}
use Rattle.lists.specs.Lists.{all_to}
use mathlib.Core.Path.{◌≡◌}
use Rattle.truth_levels.proofs.next_holds.Given as goal

abbrev pub invariant-loop-i : goal.invariant-loop-i
invariant-loop-i l = l.ok ≡ all_to l.i (next_true (value_in l.assignment) l.s l.a.0)
