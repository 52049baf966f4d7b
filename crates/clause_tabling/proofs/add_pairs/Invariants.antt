use Rattle.clause_tabling.proofs.Turns.{Filled}
use Rattle.clause_tabling.proofs.add_pairs.Given as goal

abbrev pub invariant-loop-r : goal.invariant-loop-r
invariant-loop-r l = Filled l.p l.r l.table l.tally
