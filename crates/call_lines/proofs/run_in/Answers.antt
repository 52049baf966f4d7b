use mathlib.Core.Path.{ap}
use native.Mathlib.Omega.{arith}
use Rattle.clause_runs.specs.declared.RunPart.{RunPart}
use Rattle.clause_places.proofs.Numbers.{own_number}
use Rattle.call_lines_rows.proofs.Answer.{need_is, placed_within, placed_part, run_past, run_refused, run_written}
use Rattle.clause_table_laws.proofs.Cells.{told}
use Rattle.clause_tables.specs.declared.Totals.{Totals}
use Rattle.call_lines.proofs.run_in.Goals as goal

pub returns-then-t-j : goal.returns-then-t-j
returns-then-t-j c = run_past (told c.args.table.ready c.totals-t.ensures) c.args.j c.args.buf.now c.if-t-j.true

pub place_of-place-requires : goal.place_of-place-requires
place_of-place-requires c = (omega (arith, c.if-t-j.false, ap (λ (t : Totals). t.clauses) c.totals-t.ensures))

pub put_lines-part-requires : goal.put_lines-part-requires
put_lines-part-requires c = (own_number (told c.args.table.ready c.totals-t.ensures) c.place_of-place.ensures, omega (arith, placed_within (told c.args.table.ready c.totals-t.ensures) c.args.j c.place_of-place.ensures c.if-t-j.false, ap (λ (t : Totals). t.clauses) c.totals-t.ensures))

pub invariant_of-line : goal.invariant_of-line
invariant_of-line c = record { stands = own_number (told c.args.table.ready c.totals-t.ensures) c.place_of-place.ensures; within = omega (arith, placed_within (told c.args.table.ready c.totals-t.ensures) c.args.j c.place_of-place.ensures c.if-t-j.false, ap (λ (t : Totals). t.clauses) c.totals-t.ensures) }

pub returns-then-part-eq0 : goal.returns-then-part-eq0
returns-then-part-eq0 c = (run_refused (told c.args.table.ready c.totals-t.ensures) c.args.j c.args.buf.now c.if-t-j.false (ap (λ (q : RunPart). q.lines) (placed_part (told c.args.table.ready c.totals-t.ensures) c.args.j c.place_of-place.ensures c.args.buf.now c.put_lines-part.ensures).0) c.if-part-eq0.true (need_is (told c.args.table.ready c.totals-t.ensures) c.args.j c.place_of-place.ensures c.line_length.ensures), (placed_part (told c.args.table.ready c.totals-t.ensures) c.args.j c.place_of-place.ensures c.args.buf.now c.put_lines-part.ensures).1)

pub returns : goal.returns
returns c = (run_written (told c.args.table.ready c.totals-t.ensures) c.args.j c.args.buf.now c.if-t-j.false (ap (λ (q : RunPart). q.lines) (placed_part (told c.args.table.ready c.totals-t.ensures) c.args.j c.place_of-place.ensures c.args.buf.now c.put_lines-part.ensures).0) (ap (λ (q : RunPart). q.bytes) (placed_part (told c.args.table.ready c.totals-t.ensures) c.args.j c.place_of-place.ensures c.args.buf.now c.put_lines-part.ensures).0) c.if-part-eq0.false, (placed_part (told c.args.table.ready c.totals-t.ensures) c.args.j c.place_of-place.ensures c.args.buf.now c.put_lines-part.ensures).1)
