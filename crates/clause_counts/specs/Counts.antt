-- How many clauses items and groups have.
--   item_size G g a   item a of group g
--   group_size G g    group g
--   low_count m hs a    how many of the first m heads are at most a
--   is_fixed g          whether the items of group g have one size: not in groups 1, 2 and 6
--   fixed_size w g      that size
-- Assumes nothing.
use Rattle.std.specs.Prelude.{ℕ, pred, ◌+◌, ◌-◌, ◌*◌, Bool, false, not, cond, List, eqb, leb, get_or}
use Rattle.encoding.specs.Code.{Code}
use Rattle.lists.specs.Lists.{sum}
use Rattle.clause_walk.specs.Walk.{item_count, block_count, size}

abbrev pub item_size : Code → ℕ → ℕ → ℕ
item_size G g a = sum (block_count G g) (size G g a)

abbrev pub group_size : Code → ℕ → ℕ
group_size G g = sum (item_count G g) (item_size G g)

abbrev pub low_count : ℕ → List ℕ → ℕ → ℕ
low_count m hs a = sum m (λ r. cond (leb (get_or hs (pred r) 0) a) 1 0)

abbrev pub is_fixed : ℕ → Bool
is_fixed g = cond (eqb g 1) false (cond (eqb g 2) false (not (eqb g 6)))

abbrev pub fixed_size : ℕ → ℕ → ℕ
fixed_size w g = cond (eqb g 3) w (cond (eqb g 4) (w * (w + 1)) (cond (eqb g 5) (12 * w - 6) 1))
