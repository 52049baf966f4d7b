use Rattle.level_bits.specs.Bits.{byte_of, truth_bytes}
use Rattle.encoding.specs.Fill.{less_at}
use mathlib.Core.Path.{◌≡◌}
use Prim.Native.Nat.{◌^◌, ◌/◌}
use Rattle.digits.specs.Bytes.{Wrote}
use Rattle.level_bits.proofs.put_less.Given as goal

abbrev pub invariant-loop-i : goal.invariant-loop-i
invariant-loop-i l = (l.p ≡ l.x / 2 ^ l.i) × (l.q ≡ l.y / 2 ^ l.i) × (l.less ≡ byte_of (less_at l.x l.y l.i)) × Wrote (truth_bytes l.i (less_at l.x l.y)) l.initial.buf l.buf l.i
