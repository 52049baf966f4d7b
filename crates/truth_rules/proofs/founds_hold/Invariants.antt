use Rattle.truth_rules.specs.Rules.{below_true, not_below}
use Rattle.truth_literals.specs.Values.{value_in}
use Rattle.lists.specs.Lists.{all_to, any_to}
use mathlib.Core.Path.{◌≡◌}
use mathlib.Core.Bool.{◌&&◌, ◌||◌}
use Rattle.truth_rules.proofs.founds_hold.Given as goal

abbrev pub invariant-loop-j : goal.invariant-loop-j
invariant-loop-j l = (l.ok ≡ (l.initial.ok && all_to l.j (below_true (value_in l.assignment) l.s l.k l.f.0))) × (l.long ≡ (l.initial.long || any_to l.j (not_below (value_in l.assignment) l.s l.k)))
