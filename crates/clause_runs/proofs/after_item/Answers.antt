use Rattle.clause_runs.proofs.Steps.{end_block, end_adds, end_fits, end_asks, item_some, item_past}
use Rattle.clause_table_laws.proofs.Cells.{arrays}
use native.Mathlib.Omega.{arith}
use Rattle.clause_runs.proofs.after_item.Goals as goal

pub overflow_add-block : goal.overflow_add-block
overflow_add-block c = omega (arith, end_adds (arrays c.args.line.table.ready) c.args.line.stands c.args.line.within c.requires.0 c.requires.1 c.requires.2)

pub overflow_sub-last : goal.overflow_sub-last
overflow_sub-last c = item_some (arrays c.args.line.table.ready) c.args.line.stands c.args.line.within c.requires.0 c.requires.1 c.requires.2 c.requires.3

pub overflow_add-last : goal.overflow_add-last
overflow_add-last c = omega (arith, end_fits (arrays c.args.line.table.ready) c.args.line.stands c.args.line.within c.requires.0 c.requires.1 c.requires.2 c.requires.3)

pub invariant_of-block : goal.invariant_of-block
invariant_of-block c = record { stands = end_block (arrays c.args.line.table.ready) c.args.line.stands c.args.line.within c.requires.0 c.requires.1 c.requires.2 }

pub invariant_of-last : goal.invariant_of-last
invariant_of-last c = let q = end_asks (arrays c.args.line.table.ready) c.args.line.stands c.args.line.within c.requires.0 c.requires.1 c.requires.2 c.requires.3 c.size.ensures in record { stands = q.0; within = q.1 }

pub returns : goal.returns
returns c = item_past (arrays c.args.line.table.ready) c.args.line.stands c.args.line.within c.requires.0 c.requires.1 c.requires.2 c.requires.3 c.next.ensures
