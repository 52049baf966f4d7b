-- Whole items of the walk.
--   item_text G g a   the lines of item a of group g, block by block
-- Assumes nothing.
use Rattle.std.specs.Prelude.{ℕ, List}
use Rattle.encoding.specs.Code.{Code}
use Rattle.lists.specs.Lists.{each}
use Rattle.clause_walk.specs.Walk.{block_count}
use Rattle.clause_text.specs.Blocks.{block_text}

abbrev pub item_text : Code → ℕ → ℕ → List ℕ
item_text G g a = each (block_count G g) (block_text G g a)
