use lib.ListN.{drop}
use mathlib.Core.List.{◌++◌}
use mathlib.Core.Path.{◌≡◌}
use Rattle.truth_clauses.specs.Truth.{value_in}
use Rattle.lists.specs.Lists.{tab}
use Rattle.encoding.specs.Fill.{counter}
use Rattle.call_results.proofs.put_counters.Given as goal

abbrev pub invariant-loop-a : goal.invariant-loop-a
invariant-loop-a l = l.levels ≡ tab l.a (counter l.s (value_in l.assignment)) ++ drop l.a l.initial.levels
