use Rattle.truth_rules.specs.Rules.{fact_clause}
use Rattle.truth_literals.specs.Values.{value_in}
use Rattle.lists.specs.Lists.{all_to}
use mathlib.Core.Path.{◌≡◌}
use Rattle.truth_rules.proofs.fact_holds.Given as goal

abbrev pub invariant-loop-j : goal.invariant-loop-j
invariant-loop-j l = l.ok ≡ all_to l.j (fact_clause (value_in l.assignment) l.s l.h.0 l.t.0)
