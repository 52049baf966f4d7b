use Rattle.call_check_rows.proofs.Rows.{front_zeroed, assigned_judged, assigned_refused}
use Rattle.clause_table_laws.proofs.Cells.{told}
use Rattle.clause_tables.specs.declared.Totals.{Totals}
use Rattle.std.specs.Prelude.{ℕ, List, ◌++◌, drop, Err}
use mathlib.Core.Path.{◌∙◌, ap}
use native.Mathlib.Omega.{arith}
use Rattle.call_check_judge.proofs.assigned.Goals as goal

pub returns-in-Err : goal.returns-in-Err
returns-in-Err c =
    assigned_refused (told c.args.valued.table.ready c.totals-v.ensures) c.args.valued.values.now c.args.assignment.now c.args.levels.now c.in-Err.is
    (c.refuse_zeroed.ensures.0 ∙ ap Err c.from.ensures, front_zeroed _ c.args.assignment.now (omega (arith, ap (λ (t : Totals). t.vars) c.totals-v.ensures)) c.refuse_zeroed.ensures.1)

pub returns-in-Ok : goal.returns-in-Ok
returns-in-Ok c = assigned_judged (told c.args.valued.table.ready c.totals-v.ensures) c.args.valued.values.now c.args.assignment.now c.args.levels.now c.in-Ok.is (omega (arith, ap (λ (t : Totals). t.vars) c.totals-v.ensures)) (ap (λ (u : List ℕ). u ++ drop c.totals-v.result.vars c.args.assignment.now) c.copy_completed.ensures) c.judge.ensures
