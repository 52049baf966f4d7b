-- Whole blocks of the walk.
--   is_blockwise g        group g is 4 or 5, whose blocks have few variables and most of the clauses
--   block_text G g a i  the lines of block i of item a of group g
-- Assumes nothing.
use Rattle.std.specs.Prelude.{ℕ, Bool, true, cond, List, eqb}
use Rattle.encoding.specs.Code.{Code}
use Rattle.lists.specs.Lists.{each}
use Rattle.digits.specs.Bytes.{line_text}
use Rattle.clause_walk.specs.Walk.{size, clause_at}

abbrev pub is_blockwise : ℕ → Bool
is_blockwise g = cond (eqb g 4) true (eqb g 5)

abbrev pub block_text : Code → ℕ → ℕ → ℕ → List ℕ
block_text G g a i = each (size G g a i) (λ y. line_text (clause_at G g a i y))
