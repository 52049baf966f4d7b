use Rattle.clause_tables.specs.Tables.{code_in, totals_in}
use Rattle.level_stages.proofs.Turns.{Staged}
use Rattle.level_stages.proofs.rounds.Given as goal

abbrev pub invariant-loop-i : goal.invariant-loop-i
invariant-loop-i l = Staged (code_in l.set.table.cells.now) (totals_in l.set.table.cells.now) l.set.bytes.now l.initial.levels l.i l.levels
