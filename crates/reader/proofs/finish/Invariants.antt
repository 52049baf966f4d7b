use Rattle.reader_form.specs.Numbers.{mode_number}
use Rattle.reader_work.specs.Fold.{read_from}
use Rattle.reader_work.specs.Numbers.{tally, SameCounts}
use Rattle.reader_words.specs.Standing.{read_rest}
use Prim.Native.Nat.{◌≤◌, max}
use lib.ListN.{length, drop}
use mathlib.Core.Path.{◌≡◌}
use Rattle.reader.proofs.finish.Given as goal

abbrev pub invariant-loop-i : goal.invariant-loop-i
invariant-loop-i l =
    (read_from (record { k = l.x.k; mode = mode_number l.mode; value = l.x.value; begin = l.x.begin; counts = tally l.c; heads = l.program.heads; starts = l.program.starts; bodies = l.program.bodies }) l.i (drop l.i l.text)
    ≡ read_rest l.fn.s l.fn.program.heads l.fn.program.starts l.fn.program.bodies l.fn.text)
    × (l.i ≤ max (length l.text) l.fn.s.at)
    × SameCounts l.fn.program l.program
