use Rattle.level_stages.proofs.Turns.{own_tail}
use Rattle.call_fill_rows.proofs.Steps.{atoms_few}
use Rattle.clause_tables.specs.Tables.{totals_in}
use Rattle.clause_table_laws.proofs.Cells.{arrays}
use Rattle.call_fill_found.proofs.fill_founded.Goals as goal

pub stage_levels-requires : goal.stage_levels-requires
stage_levels-requires c = atoms_few (arrays c.args.set.table.ready)

pub fill_found-requires : goal.fill_found-requires
fill_found-requires c = (own_tail (totals_in c.args.set.table.cells.now).sizes.n _ _ c.stage_levels.ensures, c.requires.0, c.requires.1)
