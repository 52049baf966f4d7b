use Rattle.clause_runs.proofs.Placed.{header_asks, header_line, clause_told, some_number}
use Rattle.digits.proofs.Wrote.{room_as, wrote_as}
use Rattle.clause_table_laws.proofs.Cells.{told, arrays}
use Rattle.clause_runs.proofs.put_line.Goals as goal

pub put_header-requires : goal.put_header-requires
put_header-requires c = ((header_asks (told c.args.line.table.ready c.totals-t.ensures)).0, (header_asks (told c.args.line.table.ready c.totals-t.ensures)).1, room_as (header_line (told c.args.line.table.ready c.totals-t.ensures) c.if-line-eq0.true) c.requires)

pub returns-then-line-eq0 : goal.returns-then-line-eq0
returns-then-line-eq0 c = wrote_as (header_line (told c.args.line.table.ready c.totals-t.ensures) c.if-line-eq0.true) c.put_header.ensures

pub clause-requires : goal.clause-requires
clause-requires c = some_number c.if-line-eq0.false

pub put_clause-requires : goal.put_clause-requires
put_clause-requires c = room_as (clause_told (arrays c.args.line.table.ready) c.args.line.place.number c.clause.ensures.0 (some_number c.if-line-eq0.false) c.args.line.within) c.requires

pub returns : goal.returns
returns c = wrote_as (clause_told (arrays c.args.line.table.ready) c.args.line.place.number c.clause.ensures.0 (some_number c.if-line-eq0.false) c.args.line.within) c.put_clause.ensures
