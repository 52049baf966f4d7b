-- The literals of a clause that are left once some of its slots are done.
--   numbers_left s  their numbers, in the clause's order
--   passed_slots s  how many slots are done with the empty ones behind the last literal
-- Assumes nothing.
use Rattle.std.specs.Prelude.{ℕ, List, map, cond, eqb, drop, length, ℤ}
use Rattle.lists.specs.Lists.{each}
use Rattle.encoding.specs.Literal.{literal_number}
use Rattle.clause_tables.specs.Tables.{heads_in}
use Rattle.clause_heads.specs.NextHead.{past_empty}
use Rattle.clause_layout.specs.Clauses.{slot_in, literals_of}
use Rattle.clause_iter.specs.declared.Literals.{Literals}

abbrev pub numbers_left : Literals → List ℤ
numbers_left s = map literal_number (drop (length (each s.done (slot_in s.clause))) (literals_of s.clause))

abbrev pub passed_slots : Literals → ℕ
passed_slots s =
    let b = s.clause.block in
    cond (eqb s.done 0) 0 (past_empty s.rules (heads_in b.table.cells.now) b.group b.item b.number s.done)
