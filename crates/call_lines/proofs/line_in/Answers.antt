use Rattle.call_lines_rows.proofs.Answer.{need_is, placed_within, placed_asks, placed_line, line_none, line_short, line_asks, line_written}
use Rattle.digits.proofs.Wrote.{wrote_as}
use Rattle.clause_places.proofs.Numbers.{own_number}
use Rattle.clause_table_laws.proofs.Cells.{told}
use Rattle.clause_tables.specs.declared.Totals.{Totals}
use native.Mathlib.Omega.{arith}
use mathlib.Core.Path.{ap}
use Rattle.clause_runs.proofs.Placed.{line_some}
use Rattle.call_lines.proofs.line_in.Goals as goal

pub returns-then-t-j : goal.returns-then-t-j
returns-then-t-j c = line_none (told c.args.table.ready c.totals-t.ensures) c.args.j c.args.from c.args.buf.now c.if-t-j.true

pub place_of-requires : goal.place_of-requires
place_of-requires c = (omega (arith, c.if-t-j.false, ap (λ (t : Totals). t.clauses) c.totals-t.ensures))

pub invariant_of-line : goal.invariant_of-line
invariant_of-line c = record { stands = own_number (told c.args.table.ready c.totals-t.ensures) c.place_of.ensures; within = omega (arith, placed_within (told c.args.table.ready c.totals-t.ensures) c.args.j c.place_of.ensures c.if-t-j.false, ap (λ (t : Totals). t.clauses) c.totals-t.ensures) }

pub returns-then-saturating_sub-need : goal.returns-then-saturating_sub-need
returns-then-saturating_sub-need c = line_short (told c.args.table.ready c.totals-t.ensures) c.args.j c.args.from c.args.buf.now c.if-t-j.false (need_is (told c.args.table.ready c.totals-t.ensures) c.args.j c.place_of.ensures c.line_length-need.ensures)
    (omega (arith, c.saturating_sub.ensures, c.if-saturating_sub-need.true))

pub slice_bounds-put_line-count : goal.slice_bounds-put_line-count
slice_bounds-put_line-count c = omega (arith, c.saturating_sub.ensures, c.if-saturating_sub-need.false, (need_is (told c.args.table.ready c.totals-t.ensures) c.args.j c.place_of.ensures c.line_length-need.ensures), line_some (told c.args.table.ready c.totals-t.ensures) c.args.j c.if-t-j.false)

pub slice_bounds-put_line-start : goal.slice_bounds-put_line-start
slice_bounds-put_line-start c = omega (arith, c.saturating_sub.ensures, c.if-saturating_sub-need.false, (need_is (told c.args.table.ready c.totals-t.ensures) c.args.j c.place_of.ensures c.line_length-need.ensures), line_some (told c.args.table.ready c.totals-t.ensures) c.args.j c.if-t-j.false)

pub put_line-requires : goal.put_line-requires
put_line-requires c = placed_asks (told c.args.table.ready c.totals-t.ensures) c.args.j c.place_of.ensures (line_asks (told c.args.table.ready c.totals-t.ensures) c.args.j c.args.from c.args.buf.now c.if-t-j.false (need_is (told c.args.table.ready c.totals-t.ensures) c.args.j c.place_of.ensures c.line_length-need.ensures) (omega (arith, c.saturating_sub.ensures, c.if-saturating_sub-need.false)))

pub returns : goal.returns
returns c = line_written (told c.args.table.ready c.totals-t.ensures) c.args.j c.args.from c.args.buf.now c.if-t-j.false (need_is (told c.args.table.ready c.totals-t.ensures) c.args.j c.place_of.ensures c.line_length-need.ensures) (omega (arith, c.saturating_sub.ensures, c.if-saturating_sub-need.false)) (wrote_as (placed_line (told c.args.table.ready c.totals-t.ensures) c.args.j c.place_of.ensures) c.put_line.ensures)
