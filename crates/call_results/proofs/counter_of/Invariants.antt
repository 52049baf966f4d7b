use Rattle.call_results.proofs.Counting.{Counted}
use Rattle.encoding.specs.Variables.{level_var}
use Rattle.truth_clauses.specs.Truth.{value_in}
use Rattle.call_results.proofs.counter_of.Given as goal

abbrev pub invariant-loop-i : goal.invariant-loop-i
invariant-loop-i l = Counted (λ j. value_in l.assignment (level_var l.s l.a.0 j)) l.i l.x l.power
