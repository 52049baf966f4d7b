use Rattle.clause_links.proofs.Linking.{Linking}
use Rattle.clause_links.proofs.add_links.Given as goal

abbrev pub invariant-loop-r : goal.invariant-loop-r
invariant-loop-r l = Linking l.heads l.initial.table l.r l.table
