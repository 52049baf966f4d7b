use Rattle.truth_clauses.proofs.Clauses.{found_asks, found_true}
use Rattle.clause_table_laws.proofs.Cells.{arrays}
use Rattle.truth_clauses.proofs.clause_true.Goals as goal

pub invariant_of-line : goal.invariant_of-line
invariant_of-line c = let q = found_asks (arrays c.args.valued.table.ready) c.place_of.ensures c.requires.0 c.requires.1 in record { stands = q.0; within = q.2 }

pub line_holds-requires : goal.line_holds-requires
line_holds-requires c = ((found_asks (arrays c.args.valued.table.ready) c.place_of.ensures c.requires.0 c.requires.1).1, c.args.valued.long)

pub returns : goal.returns
returns c = found_true (arrays c.args.valued.table.ready) c.args.valued.values.now c.place_of.ensures c.line_holds.ensures
