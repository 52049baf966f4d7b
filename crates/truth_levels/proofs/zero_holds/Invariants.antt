use Rattle.truth_levels.specs.Levels.{zero_clause}
use Rattle.truth_literals.specs.Values.{value_in}
use Rattle.lists.specs.Lists.{all_to}
use mathlib.Core.Path.{◌≡◌}
use Rattle.truth_levels.proofs.zero_holds.Given as goal

abbrev pub invariant-loop-y : goal.invariant-loop-y
invariant-loop-y l = l.ok ≡ all_to l.y (zero_clause (value_in l.assignment) l.s l.a.0)
