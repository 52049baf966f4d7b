use Rattle.clause_tabling.proofs.Stores.{rest_starts, rest_goes, rest_ends}
use Rattle.clause_tabling.proofs.copy.Goals as goal

pub loop-i-init : goal.loop-i-init
loop-i-init c = rest_starts c.args.table.now c.args.from.now c.args.at

pub loop-i-preserved : goal.loop-i-preserved
loop-i-preserved c = rest_goes c.loop-i.table c.args.from.now _ c.args.at c.loop-i.i c.loop-i-test.true c.loop-i.invariant

pub returns : goal.returns
returns c = rest_ends c.loop-i.table c.args.from.now _ c.args.at c.loop-i.i c.loop-i-test.false c.loop-i.invariant
