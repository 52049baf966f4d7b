use Rattle.level_bits.specs.Bits.{truth_bytes}
use Rattle.encoding.specs.Counter.{bit}
use mathlib.Core.Path.{◌≡◌}
use Prim.Native.Nat.{◌^◌, ◌/◌}
use Rattle.digits.specs.Bytes.{Wrote}
use Rattle.level_bits.proofs.put_bits.Given as goal

abbrev pub invariant-loop-i : goal.invariant-loop-i
invariant-loop-i l = (l.rest ≡ l.x / 2 ^ l.i) × Wrote (truth_bytes l.i (bit l.x)) l.initial.buf l.buf l.i
