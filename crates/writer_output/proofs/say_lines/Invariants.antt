use Rattle.clause_tables.specs.Tables.{code_in}
use Rattle.writer_output.specs.Output.{Stands}
use lib.ListN.{length}
use mathlib.Core.Path.{◌≡◌}
use Prim.Native.Nat.{suc, ◌-◌}
use Rattle.writer_output.proofs.say_lines.Given as goal

abbrev pub invariant-loop-c : goal.invariant-loop-c
invariant-loop-c l = (65536 ≡ length l.out) × Stands (code_in l.table.cells.now) l.c l.said

abbrev pub decreases-loop-c : goal.decreases-loop-c
decreases-loop-c l = suc l.t.clauses - l.c.number
