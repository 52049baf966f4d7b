use Rattle.answer_bytes.specs.Bytes.{completed}
use lib.ListN.{take, drop}
use mathlib.Core.List.{◌++◌}
use mathlib.Core.Path.{◌≡◌}
use Rattle.answer_bytes.proofs.copy_completed.Given as goal

abbrev pub invariant-loop-i : goal.invariant-loop-i
invariant-loop-i l = l.values ≡ completed (take l.i l.from) ++ drop l.i l.initial.values
