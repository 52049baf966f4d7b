use Rattle.truth_clauses.specs.Truth.{value_in}
use Rattle.truth_literals.specs.Items.{item_true}
use Rattle.clause_tables.specs.Tables.{code_in}
use Rattle.lists.specs.Lists.{all_to}
use mathlib.Core.Path.{◌≡◌}
use mathlib.Core.Bool.{true}
use Rattle.truth_clauses.proofs.false_item.Given as goal

abbrev pub invariant-loop-a : goal.invariant-loop-a
invariant-loop-a l = all_to l.a (item_true (code_in l.valued.table.cells.now) (value_in l.valued.values.now) l.g) ≡ true
