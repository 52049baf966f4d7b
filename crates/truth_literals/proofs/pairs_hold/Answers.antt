use Rattle.truth_literals.proofs.Values.{pairs_read}
use mir.Facts.{to_z-of_z}
use Rattle.truth_literals.proofs.pairs_hold.Goals as goal

pub returns : goal.returns
returns c = pairs_read c.args.assignment.now (to_z-of_z c.ranges.z) (to_z-of_z c.ranges.x) (to_z-of_z c.ranges.y) (to_z-of_z c.ranges.g) c.three_hold.ensures c.three_hold-2.ensures c.three_hold-3.ensures
