use native.Mathlib.Omega.{arith}
use Rattle.clause_blocks.proofs.Opposites.{longs_as}
use Rattle.clause_blocks.specs.Texts.{long_text}
use Rattle.clause_numerals.specs.Numerals.{held}
use Rattle.digits.proofs.Wrote.{room_as, room_front, wrote_as, wrote_after, after_start, after_room, after_sum, after_kept}
use Rattle.clause_blocks.proofs.NextBlock.put_longs.Goals as goal

pub put_long-at-requires : goal.put_long-at-requires
put_long-at-requires c = room_front (long_text c.args.self.now.sizes c.args.self.now.atom.0 c.args.self.now.lower (held c.opposite-negated.result) (held c.opposite-negated-2.result)) (long_text c.args.self.now.sizes c.args.self.now.atom.0 c.args.self.now.lower (held c.args.self.now.u) (held c.args.self.now.v)) (room_as (longs_as c.args.self.now.sizes c.args.self.now.atom.0 c.args.self.now.lower (held c.args.self.now.u) (held c.args.self.now.v) c.opposite-negated.ensures c.opposite-negated-2.ensures) c.requires)

pub slice_bounds-put_long-count : goal.slice_bounds-put_long-count
slice_bounds-put_long-count c = after_start c.put_long-at.ensures (long_text c.args.self.now.sizes c.args.self.now.atom.0 c.args.self.now.lower (held c.args.self.now.u) (held c.args.self.now.v)) (room_as (longs_as c.args.self.now.sizes c.args.self.now.atom.0 c.args.self.now.lower (held c.args.self.now.u) (held c.args.self.now.v) c.opposite-negated.ensures c.opposite-negated-2.ensures) c.requires)

pub slice_bounds-put_long-start : goal.slice_bounds-put_long-start
slice_bounds-put_long-start c = after_start c.put_long-at.ensures (long_text c.args.self.now.sizes c.args.self.now.atom.0 c.args.self.now.lower (held c.args.self.now.u) (held c.args.self.now.v)) (room_as (longs_as c.args.self.now.sizes c.args.self.now.atom.0 c.args.self.now.lower (held c.args.self.now.u) (held c.args.self.now.v) c.opposite-negated.ensures c.opposite-negated-2.ensures) c.requires)

pub put_long-requires : goal.put_long-requires
put_long-requires c = after_room c.put_long-at.ensures (long_text c.args.self.now.sizes c.args.self.now.atom.0 c.args.self.now.lower (held c.args.self.now.u) (held c.args.self.now.v)) (room_as (longs_as c.args.self.now.sizes c.args.self.now.atom.0 c.args.self.now.lower (held c.args.self.now.u) (held c.args.self.now.v) c.opposite-negated.ensures c.opposite-negated-2.ensures) c.requires)

pub overflow_add-result : goal.overflow_add-result
overflow_add-result c = omega (arith, after_sum c.put_long-at.ensures (long_text c.args.self.now.sizes c.args.self.now.atom.0 c.args.self.now.lower (held c.args.self.now.u) (held c.args.self.now.v)) (room_as (longs_as c.args.self.now.sizes c.args.self.now.atom.0 c.args.self.now.lower (held c.args.self.now.u) (held c.args.self.now.v) c.opposite-negated.ensures c.opposite-negated-2.ensures) c.requires) c.put_long.ensures.count)

pub shape_of-buf : goal.shape_of-buf
shape_of-buf c = after_kept c.put_long-at.ensures (long_text c.args.self.now.sizes c.args.self.now.atom.0 c.args.self.now.lower (held c.args.self.now.u) (held c.args.self.now.v)) (room_as (longs_as c.args.self.now.sizes c.args.self.now.atom.0 c.args.self.now.lower (held c.args.self.now.u) (held c.args.self.now.v) c.opposite-negated.ensures c.opposite-negated-2.ensures) c.requires) c.put_long.ensures

pub returns : goal.returns
returns c = wrote_as (longs_as c.args.self.now.sizes c.args.self.now.atom.0 c.args.self.now.lower (held c.args.self.now.u) (held c.args.self.now.v) c.opposite-negated.ensures c.opposite-negated-2.ensures) (wrote_after c.put_long-at.ensures (long_text c.args.self.now.sizes c.args.self.now.atom.0 c.args.self.now.lower (held c.args.self.now.u) (held c.args.self.now.v)) c.put_long.ensures)
