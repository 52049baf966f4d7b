-- A slot of a clause with a literal.
--   Held c l  clause c has a slot l, and it holds a literal
-- Assumes nothing.
use Rattle.std.specs.Prelude.{ℕ, ◌≤◌, ◌≢◌, []}
use Rattle.clause_layout.specs.declared.TableClause.{TableClause}
use Rattle.clause_layout.specs.Clauses.{slots_in, slot_in}

pub record Held (c : TableClause) (l : ℕ) : Type 0 where
  pub within : l ≤ slots_in c
  pub full : slot_in c l ≢ []
