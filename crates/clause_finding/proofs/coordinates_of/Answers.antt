use Rattle.clause_finding.proofs.Coded.{blocks_left, items_left, coordinates_is}
use Rattle.clause_table_laws.proofs.Cells.{told}
use Rattle.clause_finding.proofs.coordinates_of.Goals as goal

pub returns : goal.returns
returns c = coordinates_is (told c.args.c.block.table.ready c.totals-t.ensures) c.args.c.stands c.size.ensures c.block_count.ensures c.items.ensures

pub overflow_sub-result-2 : goal.overflow_sub-result-2
overflow_sub-result-2 c = blocks_left (told c.args.c.block.table.ready c.totals-t.ensures) c.args.c.stands c.block_count.ensures

pub overflow_sub-result-3 : goal.overflow_sub-result-3
overflow_sub-result-3 c = items_left (told c.args.c.block.table.ready c.totals-t.ensures) c.args.c.stands c.items.ensures
