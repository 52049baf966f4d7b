use Rattle.clause_blocks.specs.Texts.{pair_text, pair_at}
use Rattle.clause_numerals.specs.Numerals.{held}
use Rattle.digits.proofs.Wrote.{wrote_row, row_start, row_room, rows_whole, rows_kept}
use Rattle.encoding.specs.Literal.{Literal}
use mathlib.Core.Path.{ap}
use Rattle.clause_blocks.proofs.NextBlock.put_pairs.Goals as goal

pub slice_bounds-put_pair-count : goal.slice_bounds-put_pair-count
slice_bounds-put_pair-count c = row_start (pair_at c.args.self.now.sizes c.args.self.now.atom.0 (held c.args.self.now.u) (held c.args.self.now.v)) c.loop-j.j c.loop-j.invariant (ap (λ (x : Literal). pair_text x (held c.args.self.now.u) (held c.args.self.now.v)) c.level_numeral.ensures) c.loop-j-test.true c.requires

pub slice_bounds-put_pair-start : goal.slice_bounds-put_pair-start
slice_bounds-put_pair-start c = row_start (pair_at c.args.self.now.sizes c.args.self.now.atom.0 (held c.args.self.now.u) (held c.args.self.now.v)) c.loop-j.j c.loop-j.invariant (ap (λ (x : Literal). pair_text x (held c.args.self.now.u) (held c.args.self.now.v)) c.level_numeral.ensures) c.loop-j-test.true c.requires

pub put_pair-at-requires : goal.put_pair-at-requires
put_pair-at-requires c = (row_room (pair_at c.args.self.now.sizes c.args.self.now.atom.0 (held c.args.self.now.u) (held c.args.self.now.v)) c.loop-j.j c.loop-j.invariant (ap (λ (x : Literal). pair_text x (held c.args.self.now.u) (held c.args.self.now.v)) c.level_numeral.ensures) c.loop-j-test.true c.requires)

pub loop-j-preserved : goal.loop-j-preserved
loop-j-preserved c = wrote_row (pair_at c.args.self.now.sizes c.args.self.now.atom.0 (held c.args.self.now.u) (held c.args.self.now.v)) c.loop-j.j c.loop-j.invariant (ap (λ (x : Literal). pair_text x (held c.args.self.now.u) (held c.args.self.now.v)) c.level_numeral.ensures) c.put_pair-at.ensures

pub shape_of-buf : goal.shape_of-buf
shape_of-buf c = rows_kept (pair_at c.args.self.now.sizes c.args.self.now.atom.0 (held c.args.self.now.u) (held c.args.self.now.v)) c.loop-j.auto.j-end c.requires c.loop-j.invariant

pub returns : goal.returns
returns c = rows_whole (pair_at c.args.self.now.sizes c.args.self.now.atom.0 (held c.args.self.now.u) (held c.args.self.now.v)) c.loop-j.auto.j-end c.loop-j-test.false c.loop-j.invariant
