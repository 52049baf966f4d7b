use Rattle.truth_literals.proofs.Values.{signed_size, signed_some, says, one_true}
use Rattle.clause_walk.specs.Walk.{signed}
use native.Mathlib.Omega.{arith}
use Rattle.truth_literals.proofs.stands.Goals as goal

pub holds-requires : goal.holds-requires
holds-requires c = omega (arith, signed_size c.args.on c.args.v.0 c.with_sign.type_inv c.with_sign.ensures)

pub returns : goal.returns
returns c = one_true c.args.assignment.now (says (signed c.args.on c.args.v.0) c.with_sign.type_inv c.with_sign.ensures (signed_some c.args.on c.requires.0)) c.holds.ensures
