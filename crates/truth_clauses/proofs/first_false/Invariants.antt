use Rattle.truth_clauses.specs.Truth.{value_in, group_true}
use Rattle.clause_tables.specs.Tables.{code_in}
use Rattle.lists.specs.Lists.{all_to}
use mathlib.Core.Path.{◌≡◌}
use mathlib.Core.Bool.{true}
use Rattle.truth_clauses.proofs.first_false.Given as goal

abbrev pub invariant-loop-g : goal.invariant-loop-g
invariant-loop-g l = all_to l.g (group_true (code_in l.valued.table.cells.now) (value_in l.valued.values.now)) ≡ true
