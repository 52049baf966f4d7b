use Rattle.clause_blocks.specs.Texts.{lower_text, long_text}
use Rattle.clause_numerals.specs.Numerals.{held}
use Rattle.digits.proofs.Wrote.{room_front, wrote_after, after_start, after_room, after_sum, after_kept}
use Rattle.digits.specs.Bytes.{line_text}
use mathlib.Core.List.{[], ◌∷◌}
use borrow.Author.Rules.{rules}
use Rattle.clause_blocks.proofs.NextBlock.put_long.Goals as goal

pub put_lower-at-requires : goal.put_lower-at-requires
unfolding long_text
put_lower-at-requires c = room_front (lower_text c.args.self.now.sizes c.args.self.now.atom.0 c.args.self.now.lower) (line_text (held c.args.self.now.u ∷ held c.args.self.now.v ∷ [])) c.requires

pub slice_bounds-put_two-count : goal.slice_bounds-put_two-count
unfolding long_text
slice_bounds-put_two-count c = after_start c.put_lower-at.ensures (line_text (held c.args.self.now.u ∷ held c.args.self.now.v ∷ [])) c.requires

pub slice_bounds-put_two-start : goal.slice_bounds-put_two-start
unfolding long_text
slice_bounds-put_two-start c = after_start c.put_lower-at.ensures (line_text (held c.args.self.now.u ∷ held c.args.self.now.v ∷ [])) c.requires

pub put_two-requires : goal.put_two-requires
unfolding long_text
put_two-requires c = (after_room c.put_lower-at.ensures (line_text (held c.args.self.now.u ∷ held c.args.self.now.v ∷ [])) c.requires)

pub overflow_add-result : goal.overflow_add-result
unfolding long_text
overflow_add-result c = search (rules, after_sum c.put_lower-at.ensures (line_text (held c.args.self.now.u ∷ held c.args.self.now.v ∷ [])) c.requires c.put_two.ensures.count)

pub shape_of-buf : goal.shape_of-buf
unfolding long_text
shape_of-buf c = after_kept c.put_lower-at.ensures (line_text (held c.args.self.now.u ∷ held c.args.self.now.v ∷ [])) c.requires c.put_two.ensures

pub returns : goal.returns
unfolding long_text
returns c = wrote_after c.put_lower-at.ensures (line_text (held c.args.self.now.u ∷ held c.args.self.now.v ∷ [])) c.put_two.ensures
