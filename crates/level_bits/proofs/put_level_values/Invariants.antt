use Rattle.level_bits.specs.Bits.{level_at_bytes}
use Rattle.level_lists.specs.Bytes.{level_byte}
use Rattle.lists.specs.Lists.{each}
use Rattle.digits.specs.Bytes.{Wrote}
use Rattle.level_bits.proofs.put_level_values.Given as goal

abbrev pub invariant-loop-level : goal.invariant-loop-level
invariant-loop-level l = Wrote (each (l.level-index) (level_at_bytes l.w l.d (level_byte l.levels))) l.initial.buf l.buf l.to
