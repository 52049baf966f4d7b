-- The code that a table holds.
-- Assumes nothing.
use Rattle.encoding.specs.Code.{Code}
use Rattle.clause_tables.specs.Tables.{code_in}
use Rattle.clause_cells.specs.declared.Table.{Table}

abbrev pub table_code : Table → Code
table_code t = code_in t.cells.now
