use Rattle.lists.specs.Lists.{each}
use Rattle.level_fill.specs.Values.{family_of}
use Rattle.digits.specs.Bytes.{Wrote}
use Rattle.level_fill.proofs.put_values.Given as goal

abbrev pub invariant-loop-k : goal.invariant-loop-k
invariant-loop-k l = Wrote (each l.k (family_of l.set l.levels)) l.initial.buf l.buf l.to
