use Rattle.truth_clauses.specs.Standing.{Standing}
use Rattle.clause_tables.specs.Tables.{code_in, totals_in, clauses_in}
use Prim.Native.Nat.{suc, ◌-◌}
use Rattle.truth_clauses.proofs.false_from.Given as goal

abbrev pub invariant-loop-at : goal.invariant-loop-at
invariant-loop-at l = Standing (code_in l.valued.table.cells.now) (totals_in l.valued.table.cells.now) l.valued.values.now l.at

abbrev pub decreases-loop-at : goal.decreases-loop-at
decreases-loop-at l = suc (clauses_in l.valued.table.cells.now) - l.at.number
