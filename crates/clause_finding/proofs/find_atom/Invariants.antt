use Rattle.clause_counts.specs.Counts.{item_size}
use Rattle.clause_finding.specs.Falls.{Between}
use Rattle.clause_walk.specs.Walk.{item_count}
use Rattle.clause_tables.specs.Tables.{code_in}
use Prim.Native.Nat.{◌-◌}
use Rattle.clause_finding.proofs.find_atom.Given as goal

abbrev pub invariant-loop-low : goal.invariant-loop-low
invariant-loop-low l = Between (item_count (code_in l.table.cells.now) 2) (item_size (code_in l.table.cells.now) 2) l.left l.low l.high

abbrev pub decreases-loop-low : goal.decreases-loop-low
decreases-loop-low l = l.high - l.low
