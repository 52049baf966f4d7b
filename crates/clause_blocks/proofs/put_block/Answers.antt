use Rattle.clause_table_laws.proofs.Cells.{told, opened}
use Rattle.clause_blocks.proofs.BlockTexts.{bit_block_lem, bit_short, next_block, next_block_asks}
use Rattle.clause_text.proofs.BlockLaws.{blockwise_not_five}
use Rattle.digits.proofs.Wrote.{room_as, wrote_as}
use Rattle.clause_blocks.proofs.put_block.Goals as goal

pub put_bit-requires : goal.put_bit-requires
put_bit-requires c = (bit_short (opened c.args.b.table.ready c.s.view_is c.totals-s.ensures) c.args.b.stands c.if-b-eq5.true c.chain.ensures c.chain_bit.ensures, room_as (bit_block_lem (opened c.args.b.table.ready c.s.view_is c.totals-s.ensures) c.args.b.stands c.if-b-eq5.true c.chain.ensures c.chain_bit.ensures) c.requires.1)

pub returns-then-b-eq5 : goal.returns-then-b-eq5
returns-then-b-eq5 c = wrote_as (bit_block_lem (opened c.args.b.table.ready c.s.view_is c.totals-s.ensures) c.args.b.stands c.if-b-eq5.true c.chain.ensures c.chain_bit.ensures) c.put_bit.ensures

pub put_next_block-requires : goal.put_next_block-requires
put_next_block-requires c = next_block_asks (told c.args.b.table.ready c.totals-s.ensures) c.args.b.stands (blockwise_not_five _ c.requires.0 c.if-b-eq5.false) c.requires.1

pub returns : goal.returns
returns c = wrote_as (next_block (told c.args.b.table.ready c.totals-s.ensures) c.args.b.stands (blockwise_not_five _ c.requires.0 c.if-b-eq5.false)) c.put_next_block.ensures
