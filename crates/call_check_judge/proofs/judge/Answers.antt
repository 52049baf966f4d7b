use Rattle.numbers.proofs.Found.{found_is, found_some, found_none}
use Rattle.call_check_rows.proofs.Rows.{counters_asks, atoms_room, front_zeroed, judged_false, judged_accepted}
use Rattle.call_results.proofs.Counting.{count_taken, highest_taken}
use Rattle.clause_table_laws.proofs.Cells.{told, opened}
use native.Mathlib.Omega.{arith}
use mathlib.Core.Path.{sym, ◌∙◌, ap}
use Prim.Native.Nat.{◌≤◌}
use lib.ListN.{length}
use lib.Seq.{length-take-le}
use Rattle.clause_tables.specs.declared.Totals.{Totals}
use Rattle.encoding.specs.Variables.{Sizes}
use Rattle.call_check_judge.proofs.judge.Goals as goal

pub returns-in-Some : goal.returns-in-Some
returns-in-Some c = judged_false (told c.args.table.ready c.totals-t.ensures) c.args.assignment.now c.args.levels.now c.args.assumed (found_is _ c.in-Some.ensures) (found_some _ c.in-Some.ensures) (c.refuse_zeroed.ensures.0, front_zeroed _ c.args.assignment.now (omega (arith, c.requires.0, ap (λ (t : Totals). t.vars) c.totals-t.ensures)) c.refuse_zeroed.ensures.1)

pub put_counters-requires : goal.put_counters-requires
put_counters-requires c = counters_asks (told c.args.table.ready c.totals-t.ensures) (omega (arith, c.requires.0, ap (λ (t : Totals). t.vars) c.totals-t.ensures)) (omega (arith, c.requires.1, ap (λ (t : Totals). t.sizes.n) c.totals-t.ensures))

pub slice_bounds-true_count-end : goal.slice_bounds-true_count-end
slice_bounds-true_count-end c =
    let h : c.s.inside.n ≤ length c.args.assignment.now = atoms_room (opened c.args.table.ready c.s.view_is c.totals-t.ensures) (omega (arith, c.requires.0, ap (λ (t : Totals). t.vars) c.totals-t.ensures)) in
    omega (arith, c.from-n.ensures, h)

pub slice_bounds-true_count-end-2 : goal.slice_bounds-true_count-end-2
slice_bounds-true_count-end-2 c =
    let h : c.s.inside.n ≤ length c.args.assignment.now = atoms_room (opened c.args.table.ready c.s.view_is c.totals-t.ensures) (omega (arith, c.requires.0, ap (λ (t : Totals). t.vars) c.totals-t.ensures)) in
    sym (length-take-le c.from-n.result c.args.assignment.now (omega (arith, c.from-n.ensures, h)))

pub returns : goal.returns
returns c =
    let h : c.s.inside.n ≤ length c.args.assignment.now = atoms_room (opened c.args.table.ready c.s.view_is c.totals-t.ensures) (omega (arith, c.requires.0, ap (λ (t : Totals). t.vars) c.totals-t.ensures)) in
    let g : c.s.inside.n ≤ length c.put_counters.new.levels = omega (arith, c.requires.1, ap (λ (s : Sizes). s.n) c.s.view_is, ap (λ (t : Totals). t.sizes.n) c.totals-t.ensures, c.put_counters.auto.levels) in
    judged_accepted (opened c.args.table.ready c.s.view_is c.totals-t.ensures) c.args.assignment.now c.args.levels.now c.args.assumed (found_none _ c.in_default.ensures) (omega arith) c.s.view_is c.put_counters.ensures
    (c.true_count.ensures ∙ count_taken c.s.inside.n c.args.assignment.now c.from-n.ensures h)
    (c.highest_of.ensures ∙ highest_taken c.s.inside.n c.put_counters.new.levels c.from-n.ensures g)
