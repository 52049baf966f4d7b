use Rattle.clause_counts.specs.Counts.{group_size}
use Rattle.clause_tables.specs.Tables.{code_in}
use Rattle.lists.specs.Lists.{sum}
use mathlib.Core.Path.{◌≡◌}
use Prim.Native.Nat.{pred}
use Rattle.clause_counts.proofs.groups_size.Given as goal

abbrev pub invariant-loop-h : goal.invariant-loop-h
invariant-loop-h l = l.n ≡ sum (pred l.h) (group_size (code_in l.table.cells.now))
