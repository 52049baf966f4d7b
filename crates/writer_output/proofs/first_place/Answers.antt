use Rattle.writer_output.proofs.Parts.{first_stands}
use Rattle.clause_table_laws.proofs.Cells.{arrays}
use Rattle.writer_output.proofs.first_place.Goals as goal

pub returns : goal.returns
returns c = first_stands (arrays c.args.table.ready) c.start.ensures
