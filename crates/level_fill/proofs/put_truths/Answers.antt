use lib.ListN.{length-set}
use mathlib.Core.Path.{◌∙◌}
use native.Mathlib.Omega.{arith}
use Rattle.level_bits.proofs.Writes.{put_next}
use Rattle.level_fill.proofs.Families.{is_byte, truth_row, truths_room}
use Rattle.level_fill.proofs.put_truths.Goals as goal

pub loop-k-preserved : goal.loop-k-preserved
loop-k-preserved g c = (
  length-set c.loop-k.buf _ _ ∙ c.loop-k.invariant.0,
  λ p t. put_next p c.args.n (truths_room c.args.n p _ c.requires.1) (c.loop-k.invariant.1 p t) c.loop-k-test.true c.from-in-loop-k.ensures
      (truth_row p c.loop-k.k (t _ _ (omega arith) (omega (arith, c.loop-k-test.true)) c.test.ensures) (c.from.ensures ∙ is_byte _)),
)
