use mathlib.Core.Path.{refl, ◌∙◌}
use mir.Facts.{to_z-of_z}
use Rattle.digits.proofs.Writing.{below_zero_is, word_negative, any_put}
use Rattle.digits.proofs.put_literal.Goals as goal

pub returns-then-is_negative : goal.returns-then-is_negative
returns-then-is_negative c =
    any_put c.args.buf.now
    (word_negative (to_z-of_z c.ranges.x) (c.is_negative.ensures ∙ below_zero_is _) c.if-is_negative.true c.unsigned_abs-n.ensures.value)
    c.requires.1 _ c.put_number.ensures refl
