use mir.Facts.{to_z-of_z}
use Rattle.truth_literals.proofs.Values.{true_negative, true_positive, place_asks}
use Rattle.truth_literals.proofs.holds.Goals as goal

pub byte_set-v-requires : goal.byte_set-v-requires
byte_set-v-requires c = place_asks c.args.assignment.now (to_z-of_z c.ranges.x) c.magnitude.ensures c.requires.1 c.requires.2

pub returns-then-is_negative : goal.returns-then-is_negative
returns-then-is_negative c = true_negative c.args.assignment.now _ _ _ _ _ (to_z-of_z c.ranges.x) c.is_negative.ensures c.magnitude.ensures c.byte_set-v.ensures c.if-is_negative.true

pub returns-else-is_negative : goal.returns-else-is_negative
returns-else-is_negative c = true_positive c.args.assignment.now _ _ _ _ _ (to_z-of_z c.ranges.x) c.is_negative.ensures c.magnitude.ensures c.byte_set-v.ensures c.if-is_negative.false
