use Rattle.truth_rules.specs.Rules.{not_next}
use Rattle.truth_literals.specs.Values.{value_in}
use Rattle.lists.specs.Lists.{any_to}
use mathlib.Core.Path.{◌≡◌}
use mathlib.Core.Bool.{◌||◌}
use Rattle.truth_rules.proofs.bound_holds.Given as goal

abbrev pub invariant-loop-j : goal.invariant-loop-j
invariant-loop-j l = l.low ≡ (l.initial.low || any_to l.j (not_next (value_in l.assignment) l.s l.k))
