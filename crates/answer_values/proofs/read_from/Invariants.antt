use mathlib.Core.Path.{◌≡◌}
use lib.ListN.{length}
use Prim.Native.Nat.{◌-◌, ◌≤◌}
use Rattle.answer_reader.specs.Results.{model_from}
use Rattle.answer_values.specs.Assign.{literals_from, assigned_of, assigned_bytes, next_answer, next_bytes}
use Rattle.answer_bytes.specs.Bytes.{assigned_for}
use Rattle.answer_values.proofs.read_from.Given as goal

abbrev pub invariant-loop-x : goal.invariant-loop-x
invariant-loop-x l = (l.p ≤ length l.answer) × (model_from l.from l.p l.answer ≡ model_from l.from l.from l.answer)
    × (next_answer l.outcome (assigned_of (length l.initial.values) (literals_from l.answer l.p) l.values) ≡ assigned_for (assigned_of (length l.initial.values) (literals_from l.answer l.from) l.initial.values))
    × (next_bytes l.outcome (assigned_bytes (length l.initial.values) (literals_from l.answer l.p) l.values) l.values ≡ assigned_bytes (length l.initial.values) (literals_from l.answer l.from) l.initial.values)

abbrev pub decreases-loop-x : goal.decreases-loop-x
decreases-loop-x l = length l.answer - l.p
