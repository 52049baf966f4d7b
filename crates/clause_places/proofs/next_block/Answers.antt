use Rattle.clause_table_laws.proofs.Elements.{bounded}
use Rattle.clause_places.proofs.Steps.{block_adds, block_at, block_onward}
use Rattle.clause_places.proofs.HeadBlock.{block_in, head_block_onward}
use native.Mathlib.Omega.{arith}
use Rattle.clause_table_laws.proofs.Cells.{arrays, opened}
use Rattle.clause_places.proofs.next_block.Goals as goal

pub head_block-requires : goal.head_block-requires
head_block-requires c = ((bounded _ _ _ _ _ _ _ _ (opened c.args.table.ready c.s.view_is c.totals-s.ensures)).rules, block_in (opened c.args.table.ready c.s.view_is c.totals-s.ensures) c.requires.0 c.requires.1 c.requires.2 c.if-c-eq2.true)

pub returns-then-c-eq2 : goal.returns-then-c-eq2
returns-then-c-eq2 c = head_block_onward (opened c.args.table.ready c.s.view_is c.totals-s.ensures) c.requires.0 c.requires.1 c.requires.2 c.if-c-eq2.true c.head_block.ensures

pub overflow_add-block : goal.overflow_add-block
overflow_add-block c = omega (arith, block_adds (arrays c.args.table.ready) c.requires.0 c.requires.1 c.requires.2)

pub invariant_of-block : goal.invariant_of-block
invariant_of-block c = record { stands = block_at (arrays c.args.table.ready) c.requires.0 c.requires.1 c.requires.2 }

pub returns : goal.returns
returns c = block_onward (arrays c.args.table.ready) c.requires.0 c.requires.1 c.requires.2 c.size.ensures
