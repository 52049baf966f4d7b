use Rattle.truth_literals.proofs.Values.{negated_size, signed_size, signed_some, says, two_true_lem}
use Rattle.clause_walk.specs.Walk.{signed}
use Rattle.encoding.specs.Literal.{−◌}
use native.Mathlib.Omega.{arith}
use Rattle.truth_literals.proofs.implies.Goals as goal

pub two_hold-requires : goal.two_hold-requires
two_hold-requires c = omega (arith, negated_size c.args.x.0 c.negated.type_inv c.negated.ensures, signed_size c.args.on c.args.v.0 c.with_sign.type_inv c.with_sign.ensures)

pub returns : goal.returns
returns c = two_true_lem c.args.assignment.now (says (− _) c.negated.type_inv c.negated.ensures c.requires.0.0) (says (signed c.args.on c.args.v.0) c.with_sign.type_inv c.with_sign.ensures (signed_some c.args.on c.requires.1.0)) c.two_hold.ensures
