-- Numbers of items, blocks and clauses, from the totals and the heads.
--   items_of t g     how many items group g has, from the totals
--   blocks_of s g    how many blocks an item of group g has, from the sizes
--   start_at ss r k  start k of rule r: where B begins (0), where C begins (1), where C ends (2)
--   implied_size     group 2: how many clauses block i of atom a has, from m and the heads
-- Assumes nothing.
use Rattle.std.specs.Prelude.{ℕ, suc, ◌+◌, ◌-◌, ◌*◌, cond, List, get_or, eqb, ltb}
use Rattle.clause_literals.specs.declared.Sizes.{Sizes}
use Rattle.clause_tables.specs.declared.Totals.{Totals}

abbrev pub items_of : Totals → ℕ → ℕ
items_of t g = cond (eqb g 1) t.sizes.m (cond (eqb g 5) t.pairs (cond (eqb g 6) t.sizes.m t.sizes.n))

abbrev pub blocks_of : Sizes → ℕ → ℕ
blocks_of s g = cond (eqb g 2) (suc s.m) (cond (eqb g 4) s.w (cond (eqb g 5) (s.w + s.w) 1))

abbrev pub implied_size : ℕ → List ℕ → ℕ → ℕ → ℕ
implied_size m hs a i = cond (ltb m i) 1 (cond (eqb (get_or hs (i - 1) 0) a) 1 0)

abbrev pub start_at : List ℕ → ℕ → ℕ → ℕ
start_at ss r k = get_or ss (2 * (r - 1) + k) 0
