-- The places of the clauses, in their order.
--   coordinates G g a i y   where clause y of block i of item a of group g stands
--   all_coordinates G       where the clauses stand, in the walk's order
--   place_at G j            the place of clause j, from 1; 0 is before the first clause, and what follows the last one is past all groups
--   clause_in G c           the clause that stands at c
-- Assumes nothing.
use Rattle.std.specs.Prelude.{ℕ, suc, ◌-◌, List, ◌∷◌, get_or}
use Rattle.lists.specs.Lists.{tab, each}
use Rattle.encoding.specs.Code.{Code}
use Rattle.encoding.specs.Literal.{Clause}
use Rattle.clause_walk.specs.Walk.{item_count, block_count, size, clause_at, group_count}
use Rattle.clause_places.specs.declared.Coordinates.{Coordinates}
use Rattle.clause_places.specs.declared.Place.{Place}

abbrev pub coordinates : Code → ℕ → ℕ → ℕ → ℕ → Coordinates
coordinates G g a i y =
    record {
      group = g;
      item = a;
      block = i;
      clause = y;
      clauses = size G g a i - y;
      blocks = block_count G g - i;
      items = item_count G g - a;
    }

abbrev pub block_coordinates : Code → ℕ → ℕ → ℕ → List Coordinates
block_coordinates G g a i = tab (size G g a i) (coordinates G g a i)

abbrev pub item_coordinates : Code → ℕ → ℕ → List Coordinates
item_coordinates G g a = each (block_count G g) (block_coordinates G g a)

abbrev pub group_coordinates : Code → ℕ → List Coordinates
group_coordinates G g = each (item_count G g) (item_coordinates G g)

unfoldable pub all_coordinates : Code → List Coordinates
all_coordinates G = each group_count (group_coordinates G)

-- before the first item of group g
abbrev pub group_start : Code → ℕ → Coordinates
group_start G g = record { group = g; item = 0; block = 0; clause = 0; clauses = 0; blocks = 0; items = item_count G g }

abbrev pub past : Coordinates
past = record { group = suc group_count; item = 0; block = 0; clause = 0; clauses = 0; blocks = 0; items = 0 }

unfoldable pub coordinates_at : Code → ℕ → Coordinates
coordinates_at G j = get_or (group_start G 1 ∷ all_coordinates G) j past

abbrev pub place_at : Code → ℕ → Place
place_at G j = record { number = j; coordinates = coordinates_at G j }

abbrev pub clause_in : Code → Coordinates → Clause
clause_in G c = clause_at G c.group c.item c.block c.clause
