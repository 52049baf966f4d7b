use Rattle.clause_places.proofs.Steps.{started}
use Rattle.clause_table_laws.proofs.Cells.{told}
use Rattle.clause_places.proofs.start.Goals as goal

pub returns : goal.returns
returns c = started (told c.args.table.ready c.totals-t.ensures) c.items.ensures c.group_start.ensures
