use mathlib.Core.Path.{◌∙◌, ap}
use lib.ListN.{length}
use Rattle.clause_runs.proofs.Placed.{header_asks, header_line, clause_told, some_number}
use Rattle.clause_table_laws.proofs.Cells.{told, arrays}
use Rattle.clause_runs.proofs.line_length.Goals as goal

pub header_length-requires : goal.header_length-requires
header_length-requires c = header_asks (told c.args.line.table.ready c.totals-t.ensures)

pub returns-then-line-eq0 : goal.returns-then-line-eq0
returns-then-line-eq0 c = c.header_length.ensures ∙ ap length (header_line (told c.args.line.table.ready c.totals-t.ensures) c.if-line-eq0.true)

pub clause-requires : goal.clause-requires
clause-requires c = some_number c.if-line-eq0.false

pub returns : goal.returns
returns c = c.clause_length.ensures ∙ ap length (clause_told (arrays c.args.line.table.ready) c.args.line.place.number c.clause.ensures.0 (some_number c.if-line-eq0.false) c.args.line.within)
