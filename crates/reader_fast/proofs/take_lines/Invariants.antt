use Prim.Native.Nat.{◌-◌}
use lib.ListN.{length}
use mathlib.Core.Path.{◌≡◌}
use Rattle.reader_work.specs.Numbers.{SameCounts}
use Rattle.reader_words.specs.Standing.{read_rest}
use Rattle.reader_fast.proofs.take_lines.Given as goal

abbrev pub invariant-loop-p : goal.invariant-loop-p
invariant-loop-p l =
    (read_rest l.p l.program.heads l.program.starts l.program.bodies l.text
    ≡ read_rest l.initial.p l.initial.program.heads l.initial.program.starts l.initial.program.bodies l.text)
    × SameCounts l.initial.program l.program

abbrev pub decreases-loop-p : goal.decreases-loop-p
decreases-loop-p l = length l.text - l.p.at
