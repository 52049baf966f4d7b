use Rattle.clause_numerals.proofs.Numerals.{lower_word_lem}
use Rattle.clause_blocks.specs.Texts.{lower_word}
use Rattle.digits.proofs.Wrote.{wrote_row, row_start, row_room, rows_whole, rows_kept}
use native.Mathlib.Omega.{arith}
use Rattle.clause_blocks.proofs.NextBlock.put_lower.Goals as goal

pub level_numeral-x-requires : goal.level_numeral-x-requires
level_numeral-x-requires c = (c.args.self.now.atom_some, c.args.self.now.atom_in, omega arith, omega (arith, c.loop-j-test.true, c.args.self.now.lower_few))

pub slice_bounds-put-count : goal.slice_bounds-put-count
slice_bounds-put-count c = row_start (lower_word c.args.self.now.sizes c.args.self.now.atom.0) c.loop-j.j c.loop-j.invariant (lower_word_lem c.opposite.result c.opposite.ensures c.level_numeral-x.ensures) c.loop-j-test.true c.requires

pub slice_bounds-put-start : goal.slice_bounds-put-start
slice_bounds-put-start c = row_start (lower_word c.args.self.now.sizes c.args.self.now.atom.0) c.loop-j.j c.loop-j.invariant (lower_word_lem c.opposite.result c.opposite.ensures c.level_numeral-x.ensures) c.loop-j-test.true c.requires

pub put-at-requires : goal.put-at-requires
put-at-requires c = (row_room (lower_word c.args.self.now.sizes c.args.self.now.atom.0) c.loop-j.j c.loop-j.invariant (lower_word_lem c.opposite.result c.opposite.ensures c.level_numeral-x.ensures) c.loop-j-test.true c.requires)

pub loop-j-preserved : goal.loop-j-preserved
loop-j-preserved c = wrote_row (lower_word c.args.self.now.sizes c.args.self.now.atom.0) c.loop-j.j c.loop-j.invariant (lower_word_lem c.opposite.result c.opposite.ensures c.level_numeral-x.ensures) c.put-at.ensures

pub shape_of-buf : goal.shape_of-buf
shape_of-buf c = rows_kept (lower_word c.args.self.now.sizes c.args.self.now.atom.0) c.loop-j.auto.j-end c.requires c.loop-j.invariant

pub returns : goal.returns
returns c = rows_whole (lower_word c.args.self.now.sizes c.args.self.now.atom.0) c.loop-j.auto.j-end c.loop-j-test.false c.loop-j.invariant
