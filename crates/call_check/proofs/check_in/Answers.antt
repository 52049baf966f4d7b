use Rattle.call_check_rows.proofs.Rows.{short_assignment, short_levels, overlong, form_refused, form_model, vars_few, fresh, fresh_length}
use Rattle.answer_reader.specs.Results.{Formed}
use Rattle.answer_values.specs.Assign.{answer_read}
use Rattle.clause_tables.specs.declared.Totals.{Totals}
use Rattle.encoding.specs.Variables.{Sizes}
use Rattle.std.proofs.lemmas.Result.{err_from_is_err_and}
use native.Mathlib.Omega.{arith}
use mathlib.Core.Path.{sym, ap}
use Rattle.clause_table_laws.proofs.Cells.{told, opened}
use Rattle.call_check.proofs.check_in.Goals as goal

pub returns-then-assignment-t : goal.returns-then-assignment-t
returns-then-assignment-t c = short_assignment (told c.args.table.ready c.totals-t.ensures) c.args.answer.now c.args.total c.args.assignment.now c.args.levels.now c.if-assignment-t.true

pub returns-then-levels-n : goal.returns-then-levels-n
returns-then-levels-n c = rw c.from-n.ensures (short_levels (opened c.args.table.ready c.s.view_is c.totals-t.ensures) c.args.answer.now c.args.total c.args.assignment.now c.args.levels.now c.if-assignment-t.false (omega arith))

pub returns-then-total-gt-MAX_TEXT : goal.returns-then-total-gt-MAX_TEXT
returns-then-total-gt-MAX_TEXT c = overlong (opened c.args.table.ready c.s.view_is c.totals-t.ensures) c.args.answer.now c.args.total c.args.assignment.now c.args.levels.now c.if-assignment-t.false (omega arith) (omega arith)

pub slice_bounds-array-end : goal.slice_bounds-array-end
slice_bounds-array-end c = vars_few (opened c.args.table.ready c.s.view_is c.totals-t.ensures)

pub slice_bounds-values-end : goal.slice_bounds-values-end
slice_bounds-values-end c = sym (fresh_length (opened c.args.table.ready c.s.view_is c.totals-t.ensures))

pub read_form-read-requires : goal.read_form-read-requires
read_form-read-requires c = omega (arith, fresh_length (opened c.args.table.ready c.s.view_is c.totals-t.ensures), vars_few (opened c.args.table.ready c.s.view_is c.totals-t.ensures))

pub invariant_of-valued : goal.invariant_of-valued
invariant_of-valued c = record { long = omega (arith, fresh_length (opened c.args.table.ready c.s.view_is c.totals-t.ensures), ap (λ (t : Totals). t.vars) c.totals-t.ensures, c.read_form-read.auto.values) }

pub assigned-requires : goal.assigned-requires
assigned-requires c = (omega (arith, c.if-assignment-t.false, ap (λ (t : Totals). t.vars) c.totals-t.ensures), omega (arith, ap (λ (s : Sizes). s.n) c.s.view_is, ap (λ (t : Totals). t.sizes.n) c.totals-t.ensures))

pub returns-in_err-read : goal.returns-in_err-read
returns-in_err-read c = let p = err_from_is_err_and c.from_residual.result c.from_residual.ensures.1 in rw (p.1, p.2)
    (form_refused (opened c.args.table.ready c.s.view_is c.totals-t.ensures) c.args.answer.now c.args.total c.args.assignment.now c.args.levels.now c.if-assignment-t.false (omega arith) (omega arith) _ c.read_form-read.ensures.2 (ap (λ (f : Formed). answer_read f c.read_form-read.result.values) c.in_err-read.was))

pub returns : goal.returns
returns c = form_model (opened c.args.table.ready c.s.view_is c.totals-t.ensures) c.args.answer.now c.args.total c.args.assignment.now c.args.levels.now c.if-assignment-t.false (omega arith) (omega arith) c.read_form-read.ensures.2 (ap (λ (f : Formed). answer_read f c.read_form-read.result.values) c.in_ok-read.was) (fresh (opened c.args.table.ready c.s.view_is c.totals-t.ensures)) c.read_form-read.ensures.3 c.assigned.ensures
