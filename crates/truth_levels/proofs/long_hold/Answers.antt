use Rattle.truth_literals.proofs.Values.{positive_size, negated_size, says, two_true_lem}
use mathlib.Core.Path.{ap₂}
use mathlib.Core.Bool.{Bool, ◌&&◌, ◌||◌}
use Rattle.encoding.specs.Literal.{var, −◌}
use native.Mathlib.Omega.{arith}
use Rattle.truth_levels.proofs.long_hold.Goals as goal

pub two_hold-requires : goal.two_hold-requires
two_hold-requires c = omega (arith, negated_size c.args.u.0 c.negated.type_inv c.negated.ensures, negated_size c.args.v.0 c.negated-2.type_inv c.negated-2.ensures)

pub two_hold-requires-2 : goal.two_hold-requires-2
two_hold-requires-2 c = omega (arith, positive_size c.literal.type_inv c.literal.ensures, positive_size c.literal-2.type_inv c.literal-2.ensures)

pub returns : goal.returns
returns c = ap₂ (λ (p q : Bool). (c.args.low || p) && (c.args.low || q)) (two_true_lem c.args.assignment.now (says (− _) c.negated.type_inv c.negated.ensures
    c.requires.0.0) (says (− _) c.negated-2.type_inv c.negated-2.ensures c.requires.1.0) c.two_hold.ensures) (two_true_lem c.args.assignment.now (says (var _)
    c.literal.type_inv c.literal.ensures c.requires.0.0) (says (var _) c.literal-2.type_inv c.literal-2.ensures c.requires.1.0) c.two_hold-2.ensures)
