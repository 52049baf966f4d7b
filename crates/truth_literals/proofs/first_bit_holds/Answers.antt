use Rattle.truth_literals.proofs.BitLaws.{first_bit}
use Rattle.truth_literals.proofs.Values.{positive_size, negated_size, says}
use Rattle.encoding.specs.Literal.{var, −◌}
use native.Mathlib.Omega.{arith}
use Rattle.truth_literals.proofs.first_bit_holds.Goals as goal

pub two_hold-requires : goal.two_hold-requires
two_hold-requires c = omega (arith, positive_size c.literal-z.type_inv c.literal-z.ensures, positive_size c.literal-x.type_inv c.literal-x.ensures, positive_size c.literal-y.type_inv c.literal-y.ensures, negated_size c.args.c.z.0 c.negated-no_z.type_inv c.negated-no_z.ensures, negated_size c.args.c.x.0 c.negated-no_x.type_inv c.negated-no_x.ensures, negated_size c.args.c.y.0 c.negated-no_y.type_inv c.negated-no_y.ensures)

pub two_hold-requires-2 : goal.two_hold-requires-2
two_hold-requires-2 c = omega (arith, positive_size c.literal-z.type_inv c.literal-z.ensures, positive_size c.literal-x.type_inv c.literal-x.ensures, positive_size c.literal-y.type_inv c.literal-y.ensures, negated_size c.args.c.z.0 c.negated-no_z.type_inv c.negated-no_z.ensures, negated_size c.args.c.x.0 c.negated-no_x.type_inv c.negated-no_x.ensures, negated_size c.args.c.y.0 c.negated-no_y.type_inv c.negated-no_y.ensures)

pub three_hold-requires : goal.three_hold-requires
three_hold-requires c = omega (arith, positive_size c.literal-z.type_inv c.literal-z.ensures, positive_size c.literal-x.type_inv c.literal-x.ensures, positive_size c.literal-y.type_inv c.literal-y.ensures, negated_size c.args.c.z.0 c.negated-no_z.type_inv c.negated-no_z.ensures, negated_size c.args.c.x.0 c.negated-no_x.type_inv c.negated-no_x.ensures, negated_size c.args.c.y.0 c.negated-no_y.type_inv c.negated-no_y.ensures)

pub returns : goal.returns
returns c = first_bit c.args.assignment.now c.args.c (says (var _) c.literal-z.type_inv c.literal-z.ensures c.requires.z_in.0) (says (var _) c.literal-x.type_inv c.literal-x.ensures c.requires.x_in.0) (says (var _) c.literal-y.type_inv c.literal-y.ensures c.requires.y_in.0) (says (− _) c.negated-no_z.type_inv c.negated-no_z.ensures c.requires.z_in.0) (says (− _) c.negated-no_x.type_inv c.negated-no_x.ensures c.requires.x_in.0) (says (− _) c.negated-no_y.type_inv c.negated-no_y.ensures c.requires.y_in.0) c.two_hold.ensures c.two_hold-2.ensures c.three_hold.ensures
