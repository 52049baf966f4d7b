use Rattle.clause_counts.specs.Counts.{item_size}
use Rattle.clause_tables.specs.Tables.{code_in}
use Rattle.lists.specs.Lists.{sum}
use mathlib.Core.Path.{◌≡◌}
use Rattle.clause_counts.proofs.rules_size.Given as goal

abbrev pub invariant-loop-r : goal.invariant-loop-r
invariant-loop-r l = l.n ≡ sum l.r (item_size (code_in l.table.cells.now) l.g)
