-- A table with values of its variables.
--   valued_code t  the code that the table holds
--   valued_in t    which variables have 1: those whose byte is not 0
-- Assumes nothing.
use Rattle.encoding.specs.Code.{Code}
use Rattle.encoding.specs.Literal.{Assignment}
use Rattle.clause_cells.specs.Held.{table_code}
use Rattle.truth_literals.specs.Values.{value_in}
use Rattle.truth_literals.specs.declared.ValuedTable.{ValuedTable}

abbrev pub valued_code : ValuedTable → Code
valued_code t = table_code t.table

abbrev pub valued_in : ValuedTable → Assignment
valued_in t = value_in t.values.now
