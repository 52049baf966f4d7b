use Rattle.clause_table_laws.proofs.Cells.{told}
use Rattle.clause_tables.specs.declared.Totals.{Totals}
use Rattle.writer_output.proofs.Parts.{total_short, total_is, stands_end}
use native.Mathlib.Omega.{arith}
use mathlib.Core.Path.{ap}
use Rattle.writer_output.proofs.say_lines.Goals as goal

pub loop-c-init : goal.loop-c-init
loop-c-init c = (c.large_buffer-out.ensures, c.first_place-c.ensures)

pub next_part-part-requires : goal.next_part-part-requires
next_part-part-requires c = (c.loop-c.invariant.1, omega (arith, c.loop-c-test.true, ap (λ (t : Totals). t.clauses) c.totals-t.ensures), omega (arith, c.loop-c.invariant.0), omega (arith, c.loop-c.invariant.0))

pub slice_bounds-out-end : goal.slice_bounds-out-end
slice_bounds-out-end c = c.next_part-part.ensures.counts.0

pub slice_bounds-write_all-end : goal.slice_bounds-write_all-end
slice_bounds-write_all-end c = c.next_part-part.ensures.counts.1

pub overflow_add-said : goal.overflow_add-said
overflow_add-said c =
    let s = c.next_part-part.ensures.stands in
    omega (arith, s.bounded, s.within, total_short (told c.args.table.ready c.totals-t.ensures), total_is (told c.args.table.ready c.totals-t.ensures))

pub loop-c-smaller : goal.loop-c-smaller
loop-c-smaller c = omega (arith, c.next_part-part.ensures.onward, c.loop-c-test.true)

pub returns : goal.returns
returns c = stands_end (told c.args.table.ready c.totals-t.ensures) c.loop-c.invariant.1 (omega (arith, c.loop-c-test.false))
