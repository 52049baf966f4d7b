use Rattle.clause_runs.proofs.Steps.{one_taken}
use Rattle.clause_table_laws.proofs.Cells.{arrays}
use Rattle.clause_runs.proofs.put_one.Goals as goal

pub returns : goal.returns
returns c = one_taken (arrays c.args.line.table.ready) c.args.line.stands c.args.line.within c.args.buf.now c.requires c.put_line-bytes.ensures c.next.ensures
