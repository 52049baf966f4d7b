use Rattle.clause_runs.proofs.Runs.{Going}
use Rattle.clause_runs.specs.Lines.{code_lines}
use Rattle.clause_places.specs.Places.{place_at}
use Rattle.clause_tables.specs.Tables.{code_in}
use Prim.Native.Nat.{suc, ◌-◌, ◌≤◌}
use mathlib.Core.Path.{◌≡◌}
use Rattle.clause_runs.proofs.put_lines.Given as goal

abbrev pub invariant-loop-run : goal.invariant-loop-run
invariant-loop-run l = (l.run.place ≡ place_at (code_in l.table.cells.now) l.run.place.number) × (l.run.place.number ≤ suc l.t.clauses) × Going (code_lines (code_in l.table.cells.now)) l.initial.run.place.number l.initial.buf l.run.place.number l.run.lines l.run.bytes l.buf

abbrev pub decreases-loop-run : goal.decreases-loop-run
decreases-loop-run l = suc l.t.clauses - l.run.place.number
