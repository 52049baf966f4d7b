use Rattle.truth_rules.specs.Rules.{body_clause, body_fails}
use Rattle.truth_literals.specs.Values.{value_in}
use Rattle.lists.specs.Lists.{all_to, any_to}
use mathlib.Core.Path.{◌≡◌}
use mathlib.Core.Bool.{◌||◌}
use Rattle.truth_rules.proofs.body_holds.Given as goal

abbrev pub invariant-loop-j : goal.invariant-loop-j
invariant-loop-j l = (l.ok ≡ all_to l.j (body_clause (value_in l.assignment) l.t.0 l.atoms l.p)) × (l.long ≡ (l.initial.long || any_to l.j (body_fails (value_in l.assignment) l.atoms l.p)))
