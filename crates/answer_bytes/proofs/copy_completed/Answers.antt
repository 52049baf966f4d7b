use Rattle.answer_bytes.proofs.Turns.{copy_goes}
use native.Mathlib.Omega.{arith}
use Rattle.answer_bytes.proofs.copy_completed.Goals as goal

pub loop-i-preserved : goal.loop-i-preserved
loop-i-preserved c = copy_goes c.args.from.now _ _ _ _ (omega (arith, c.requires)) (omega arith) c.loop-i.invariant c.completed_value.ensures
