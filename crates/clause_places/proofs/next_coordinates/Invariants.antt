use mathlib.Core.Path.{◌≡◌}
use Rattle.clause_tables.specs.Tables.{code_in}
use Rattle.clause_places.specs.Ahead.{ahead, In, steps_left}
use Rattle.clause_places.proofs.next_coordinates.Given as goal

abbrev pub invariant-loop-at : goal.invariant-loop-at
invariant-loop-at l = In (code_in l.table.cells.now) l.at × (ahead (code_in l.table.cells.now) l.at ≡ ahead (code_in l.table.cells.now) l.initial.at)

abbrev pub decreases-loop-at : goal.decreases-loop-at
decreases-loop-at l = steps_left l.at
