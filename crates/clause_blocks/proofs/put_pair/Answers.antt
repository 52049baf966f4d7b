use Rattle.clause_blocks.proofs.Opposites.{pair_as}
use Rattle.clause_numerals.specs.Numerals.{held, opposed}
use Rattle.digits.proofs.Wrote.{room_as, room_front, wrote_as, wrote_after, after_start, after_room, after_sum, after_kept}
use Rattle.digits.specs.Bytes.{line_text}
use mathlib.Core.List.{[], ◌∷◌}
use mathlib.Core.Path.{refl}
use borrow.Author.Rules.{rules}
use Rattle.clause_blocks.proofs.put_pair.Goals as goal

pub put_three-at-requires : goal.put_three-at-requires
put_three-at-requires c = (room_front (line_text (held c.args.x ∷ (held c.opposite.result) ∷ held c.args.v ∷ [])) (line_text (held c.args.x ∷ held c.args.u ∷ opposed (held c.args.v) ∷ [])) (room_as (pair_as (held c.args.x) (held c.args.u) (held c.args.v) c.opposite.ensures refl) c.requires))

pub slice_bounds-put_three-count : goal.slice_bounds-put_three-count
slice_bounds-put_three-count c = after_start c.put_three-at.ensures (line_text (held c.args.x ∷ held c.args.u ∷ (held c.opposite-2.result) ∷ [])) (room_as (pair_as (held c.args.x) (held c.args.u) (held c.args.v) c.opposite.ensures c.opposite-2.ensures) c.requires)

pub slice_bounds-put_three-start : goal.slice_bounds-put_three-start
slice_bounds-put_three-start c = after_start c.put_three-at.ensures (line_text (held c.args.x ∷ held c.args.u ∷ (held c.opposite-2.result) ∷ [])) (room_as (pair_as (held c.args.x) (held c.args.u) (held c.args.v) c.opposite.ensures c.opposite-2.ensures) c.requires)

pub put_three-requires : goal.put_three-requires
put_three-requires c = (after_room c.put_three-at.ensures (line_text (held c.args.x ∷ held c.args.u ∷ (held c.opposite-2.result) ∷ [])) (room_as (pair_as (held c.args.x) (held c.args.u) (held c.args.v) c.opposite.ensures c.opposite-2.ensures) c.requires))

pub overflow_add-result : goal.overflow_add-result
overflow_add-result c = search (rules, after_sum c.put_three-at.ensures (line_text (held c.args.x ∷ held c.args.u ∷ (held c.opposite-2.result) ∷ [])) (room_as (pair_as (held c.args.x) (held c.args.u) (held c.args.v) c.opposite.ensures c.opposite-2.ensures) c.requires) c.put_three.ensures.count)

pub shape_of-buf : goal.shape_of-buf
shape_of-buf c = after_kept c.put_three-at.ensures (line_text (held c.args.x ∷ held c.args.u ∷ (held c.opposite-2.result) ∷ [])) (room_as (pair_as (held c.args.x) (held c.args.u) (held c.args.v) c.opposite.ensures c.opposite-2.ensures) c.requires) c.put_three.ensures

pub returns : goal.returns
returns c = wrote_as (pair_as (held c.args.x) (held c.args.u) (held c.args.v) c.opposite.ensures c.opposite-2.ensures) (wrote_after c.put_three-at.ensures (line_text (held c.args.x ∷ held c.args.u ∷ (held c.opposite-2.result) ∷ [])) c.put_three.ensures)
