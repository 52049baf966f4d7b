-- Truth of whole blocks and items of the walk.
--   block_true G A g a i  every clause of block i of item a of group g is true
--   item_true G A g a     every clause of item a of group g is true
-- Assumes nothing.
use Rattle.std.specs.Prelude.{ℕ, Bool}
use Rattle.lists.specs.Lists.{all_to}
use Rattle.encoding.specs.Code.{Code}
use Rattle.encoding.specs.Literal.{Assignment, clause_true}
use Rattle.clause_walk.specs.Walk.{block_count, size, clause_at}

unfoldable pub block_true : Code → Assignment → ℕ → ℕ → ℕ → Bool
block_true G A g a i = all_to (size G g a i) (λ y. clause_true A (clause_at G g a i y))

unfoldable pub item_true : Code → Assignment → ℕ → ℕ → Bool
item_true G A g a = all_to (block_count G g) (block_true G A g a)
