use Rattle.truth_literals.proofs.Values.{positive_size, negated_size, says, three_true_lem}
use mathlib.Core.Path.{ap₂}
use mathlib.Core.Bool.{◌&&◌}
use Rattle.encoding.specs.Literal.{var, −◌}
use native.Mathlib.Omega.{arith}
use Rattle.truth_levels.proofs.lower_holds.Goals as goal

pub three_hold-requires : goal.three_hold-requires
three_hold-requires c = omega (arith, positive_size c.literal.type_inv c.literal.ensures, negated_size c.args.u.0 c.negated.type_inv c.negated.ensures, positive_size c.literal-2.type_inv c.literal-2.ensures)

pub three_hold-requires-2 : goal.three_hold-requires-2
three_hold-requires-2 c = omega (arith, positive_size c.literal-3.type_inv c.literal-3.ensures, positive_size c.literal-4.type_inv c.literal-4.ensures, negated_size c.args.v.0 c.negated-2.type_inv c.negated-2.ensures)

pub returns : goal.returns
returns c = ap₂ ◌&&◌ (three_true_lem c.args.assignment.now (says (var _) c.literal.type_inv c.literal.ensures c.requires.0.0) (says (− _) c.negated.type_inv
    c.negated.ensures c.requires.1.0) (says (var _) c.literal-2.type_inv c.literal-2.ensures c.requires.2.0) c.three_hold.ensures) (three_true_lem c.args.assignment.now (says (var _) c.literal-3.type_inv c.literal-3.ensures c.requires.0.0) (says (var _) c.literal-4.type_inv c.literal-4.ensures c.requires.1.0)
    (says (− _) c.negated-2.type_inv c.negated-2.ensures c.requires.2.0) c.three_hold-2.ensures)
