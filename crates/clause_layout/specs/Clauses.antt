-- A clause by its place in the walk over a table: its slots, the literals in one of them, and all its literals.
--   slots_in c     how many slots clause c has
--   slot_in c l    the literal in slot l, if there is one
--   literals_of c  its literals
-- Assumes nothing.
use Rattle.std.specs.Prelude.{ℕ, List}
use Rattle.encoding.specs.Literal.{Literal}
use Rattle.clause_walk.specs.Walk.{slots, slot, clause_at}
use Rattle.clause_cells.specs.Held.{table_code}
use Rattle.clause_layout.specs.declared.TableClause.{TableClause}

abbrev pub slots_in : TableClause → ℕ
slots_in c = slots (table_code c.block.table) c.block.group c.block.item c.block.number c.number

abbrev pub slot_in : TableClause → ℕ → List Literal
slot_in c l = slot (table_code c.block.table) c.block.group c.block.item c.block.number c.number l

abbrev pub literals_of : TableClause → List Literal
literals_of c = clause_at (table_code c.block.table) c.block.group c.block.item c.block.number c.number
