use Rattle.clause_tables.specs.Tables.{code_in, totals_in}
use Rattle.level_stages.proofs.Turns.{Turned}
use Rattle.level_stages.proofs.round.Given as goal

abbrev pub invariant-loop-r : goal.invariant-loop-r
invariant-loop-r l = Turned (code_in l.set.table.cells.now) (totals_in l.set.table.cells.now) l.set.bytes.now l.initial.levels l.i l.r l.levels l.given
