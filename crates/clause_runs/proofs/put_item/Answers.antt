use borrow.Author.Rules.{rules}
use Rattle.clause_runs.proofs.ItemTexts.{block_in}
use Rattle.clause_finding.proofs.Coded.{block_below, blocks_within, blocks_end}
use Rattle.clause_text.specs.Blocks.{block_text}
use Rattle.clause_table_laws.proofs.Cells.{told}
use Rattle.clause_tables.specs.Tables.{code_in}
use Rattle.digits.proofs.Wrote.{wrote_row, row_start, row_room, row_sum, rows_whole, rows_kept}
use mathlib.Core.Path.{refl}
use Rattle.clause_runs.proofs.put_item.Goals as goal

pub slice_bounds-put_block-count : goal.slice_bounds-put_block-count
slice_bounds-put_block-count c = row_start (block_text (code_in c.args.table.cells.now) c.args.g c.args.a) c.loop-i.i c.loop-i.invariant refl (block_below (told c.args.table.ready c.totals.ensures) c.args.g c.block_count-n.ensures c.loop-i-test.true) c.requires.5

pub slice_bounds-put_block-start : goal.slice_bounds-put_block-start
slice_bounds-put_block-start c = row_start (block_text (code_in c.args.table.cells.now) c.args.g c.args.a) c.loop-i.i c.loop-i.invariant refl (block_below (told c.args.table.ready c.totals.ensures) c.args.g c.block_count-n.ensures c.loop-i-test.true) c.requires.5

pub invariant_of-block : goal.invariant_of-block
invariant_of-block c = record { stands = block_in (told c.args.table.ready c.totals.ensures) c.requires.0 c.requires.1 c.requires.2 c.requires.3 c.block_count-n.ensures c.loop-i-test.true }

pub put_block-at-requires : goal.put_block-at-requires
put_block-at-requires c = (c.requires.4, row_room (block_text (code_in c.args.table.cells.now) c.args.g c.args.a) c.loop-i.i c.loop-i.invariant refl (block_below (told c.args.table.ready c.totals.ensures) c.args.g c.block_count-n.ensures c.loop-i-test.true) c.requires.5)

pub overflow_add-at : goal.overflow_add-at
overflow_add-at c = search (rules, row_sum (block_text (code_in c.args.table.cells.now) c.args.g c.args.a) c.loop-i.i c.loop-i.invariant refl (block_below (told c.args.table.ready c.totals.ensures) c.args.g c.block_count-n.ensures c.loop-i-test.true) c.requires.5 c.put_block-at.ensures.count)

pub loop-i-preserved : goal.loop-i-preserved
loop-i-preserved c = wrote_row (block_text (code_in c.args.table.cells.now) c.args.g c.args.a) c.loop-i.i c.loop-i.invariant refl c.put_block-at.ensures

pub shape_of-buf : goal.shape_of-buf
shape_of-buf c = rows_kept (block_text (code_in c.args.table.cells.now) c.args.g c.args.a) (blocks_within (told c.args.table.ready c.totals.ensures) c.args.g c.block_count-n.ensures c.loop-i.auto.i-end) c.requires.5 c.loop-i.invariant

pub returns : goal.returns
returns c = rows_whole (block_text (code_in c.args.table.cells.now) c.args.g c.args.a) (blocks_within (told c.args.table.ready c.totals.ensures) c.args.g c.block_count-n.ensures c.loop-i.auto.i-end) (blocks_end (told c.args.table.ready c.totals.ensures) c.args.g c.block_count-n.ensures c.loop-i-test.false) c.loop-i.invariant
