use Rattle.truth_literals.proofs.Values.{value_is}
use Rattle.truth_literals.proofs.byte_set.Goals as goal

pub returns : goal.returns
returns c = value_is c.args.assignment.now c.args.v
