use Rattle.clause_table_laws.proofs.Cells.{arrays}
use Rattle.clause_tables.specs.Tables.{totals_in}
use lib.ListN.{drop}
use Rattle.level_fill.proofs.Families.{levels_long, filled_is, values_written}
use mathlib.Core.Path.{refl}
use Rattle.level_fill.proofs.put_filled.Goals as goal

pub put_values-requires : goal.put_values-requires
put_values-requires c = (levels_long (arrays c.args.set.table.ready) c.args.set.bytes.now (drop (totals_in c.args.set.table.cells.now).sizes.n c.args.levels.now) c.requires.0, c.requires.1)

pub returns : goal.returns
returns c = values_written (arrays c.args.set.table.ready) c.args.set.bytes.now c.args.levels.now refl (filled_is (arrays c.args.set.table.ready) c.args.set.bytes.now (drop (totals_in c.args.set.table.cells.now).sizes.n c.args.levels.now) c.requires.0) c.put_values.ensures
