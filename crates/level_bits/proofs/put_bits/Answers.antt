use Rattle.level_bits.proofs.Steps.{rest_next, bit_is}
use Rattle.encoding.specs.Counter.{bit}
use mathlib.Core.Path.{refl}
use Rattle.level_bits.proofs.Writes.{put_room, put_next}
use Rattle.level_bits.proofs.put_bits.Goals as goal

pub bounds-buf-i : goal.bounds-buf-i
bounds-buf-i c = put_room (bit c.args.x) c.args.w c.requires c.loop-i.invariant.1 c.loop-i-test.true

pub loop-i-preserved : goal.loop-i-preserved
loop-i-preserved c = (rest_next c.args.x c.loop-i.i c.loop-i.invariant.0, put_next (bit c.args.x) c.args.w c.requires c.loop-i.invariant.1 c.loop-i-test.true refl (bit_is c.args.x c.loop-i.i c.loop-i.invariant.0))
