use Rattle.call_fill_rows.proofs.Steps.{short_assignment, short_levels, wrong_size, bad_at, set_founded}
use native.Mathlib.Omega.{arith}
use Rattle.clause_table_laws.proofs.Cells.{told, opened, arrays}
use mathlib.Core.Path.{ap}
use Rattle.clause_tables.specs.declared.Totals.{Totals}
use Rattle.encoding.specs.Variables.{Sizes}
use Rattle.call_fill.proofs.fill_in.Goals as goal

pub returns-then-assignment-t : goal.returns-then-assignment-t
returns-then-assignment-t c = short_assignment (told c.args.table.ready c.totals-t.ensures) c.args.set.now c.args.assignment.now c.args.levels.now c.if-assignment-t.true

pub returns-then-levels-n : goal.returns-then-levels-n
returns-then-levels-n c = rw c.from-n.ensures (short_levels (opened c.args.table.ready c.s.view_is c.totals-t.ensures) c.args.set.now c.args.assignment.now c.args.levels.now c.if-assignment-t.false (omega arith))

pub returns-then-set-n : goal.returns-then-set-n
returns-then-set-n c = rw c.from-n.ensures (wrong_size (opened c.args.table.ready c.s.view_is c.totals-t.ensures) c.args.set.now c.args.assignment.now c.args.levels.now c.if-assignment-t.false (omega arith) (λ e. c.if-set-n.true (omega (arith, e))))

pub returns-in-Some : goal.returns-in-Some
returns-in-Some c = bad_at (opened c.args.table.ready c.s.view_is c.totals-t.ensures) c.args.set.now c.args.assignment.now c.args.levels.now c.if-assignment-t.false (omega arith) (omega arith) c.in-Some.ensures

pub returns : goal.returns
returns c = set_founded (arrays c.args.table.ready) c.args.set.now c.args.assignment.now c.args.levels.now (omega (arith, c.if-assignment-t.false, ap (λ (t : Totals). t.vars) c.totals-t.ensures)) (omega (arith, c.if-levels-n.false, ap (λ (s : Sizes). s.n) c.s.view_is, ap (λ (t : Totals). t.sizes.n) c.totals-t.ensures)) (omega (arith, c.if-set-n.false, ap (λ (s : Sizes). s.n) c.s.view_is, ap (λ (t : Totals). t.sizes.n) c.totals-t.ensures)) c.in_default.ensures c.fill_founded.ensures
