use Rattle.clause_blocks.proofs.NextBlocks.{next_short, number_short, block_is}
use Rattle.clause_blocks.specs.Texts.{pairs_text, longs_text}
use Rattle.clause_numerals.specs.Numerals.{held}
use Rattle.digits.proofs.Wrote.{room_as, room_front, wrote_as, wrote_after, after_start, after_room, after_sum, after_kept}
use Rattle.encoding.specs.Literal.{var}
use Prim.Native.Nat.{◌-◌}
use Rattle.clause_literals.specs.Sizes.{Bounded}
use mathlib.Core.Path.{subst, ap, ◌∙◌}
use native.Mathlib.Omega.{arith}
use Rattle.clause_blocks.proofs.put_next_block.Goals as goal

pub new-u-requires : goal.new-u-requires
new-u-requires c = number_short c.next_var.ensures (next_short c.args.s (subst Bounded c.s.view_is c.s.invariant) c.args.a.0 c.requires.1 c.args.i c.requires.2 c.requires.3)

pub level_numeral-v-requires : goal.level_numeral-v-requires
level_numeral-v-requires c = (c.requires.0, c.requires.1, c.requires.2, c.requires.3)

pub put_pairs-at-requires : goal.put_pairs-at-requires
put_pairs-at-requires c = room_front (pairs_text c.args.s c.args.a.0 (c.args.i - 1) (held c.new-u.result) (held c.level_numeral-v.result)) (longs_text c.args.s c.args.a.0 (c.args.i - 1) (held c.new-u.result) (held c.level_numeral-v.result)) (room_as (block_is c.args.s c.args.a.0 c.args.i (c.new-u.ensures ∙ ap var c.next_var.ensures) c.level_numeral-v.ensures) c.requires.4)

pub slice_bounds-put_longs-count : goal.slice_bounds-put_longs-count
slice_bounds-put_longs-count c = after_start c.put_pairs-at.ensures (longs_text c.args.s c.args.a.0 (c.args.i - 1) (held c.new-u.result) (held c.level_numeral-v.result)) (room_as (block_is c.args.s c.args.a.0 c.args.i (c.new-u.ensures ∙ ap var c.next_var.ensures) c.level_numeral-v.ensures) c.requires.4)

pub slice_bounds-put_longs-start : goal.slice_bounds-put_longs-start
slice_bounds-put_longs-start c = after_start c.put_pairs-at.ensures (longs_text c.args.s c.args.a.0 (c.args.i - 1) (held c.new-u.result) (held c.level_numeral-v.result)) (room_as (block_is c.args.s c.args.a.0 c.args.i (c.new-u.ensures ∙ ap var c.next_var.ensures) c.level_numeral-v.ensures) c.requires.4)

pub put_longs-requires : goal.put_longs-requires
put_longs-requires c = after_room c.put_pairs-at.ensures (longs_text c.args.s c.args.a.0 (c.args.i - 1) (held c.new-u.result) (held c.level_numeral-v.result)) (room_as (block_is c.args.s c.args.a.0 c.args.i (c.new-u.ensures ∙ ap var c.next_var.ensures) c.level_numeral-v.ensures) c.requires.4)

pub overflow_add-result : goal.overflow_add-result
overflow_add-result c = omega (arith, c.well_formed.1.1.1.0, after_sum c.put_pairs-at.ensures (longs_text c.args.s c.args.a.0 (c.args.i - 1) (held c.new-u.result) (held c.level_numeral-v.result)) (room_as (block_is c.args.s c.args.a.0 c.args.i (c.new-u.ensures ∙ ap var c.next_var.ensures) c.level_numeral-v.ensures) c.requires.4) c.put_longs.ensures.count)

pub shape_of-buf : goal.shape_of-buf
shape_of-buf c = after_kept c.put_pairs-at.ensures (longs_text c.args.s c.args.a.0 (c.args.i - 1) (held c.new-u.result) (held c.level_numeral-v.result)) (room_as (block_is c.args.s c.args.a.0 c.args.i (c.new-u.ensures ∙ ap var c.next_var.ensures) c.level_numeral-v.ensures) c.requires.4) c.put_longs.ensures

pub returns : goal.returns
returns c = wrote_as (block_is c.args.s c.args.a.0 c.args.i (c.new-u.ensures ∙ ap var c.next_var.ensures) c.level_numeral-v.ensures) (wrote_after c.put_pairs-at.ensures (longs_text c.args.s c.args.a.0 (c.args.i - 1) (held c.new-u.result) (held c.level_numeral-v.result)) c.put_longs.ensures)
