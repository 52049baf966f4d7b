-- The variables of a chain's bit (document 01, group 5).
--   chain_of S k b h i   those of block i of pair k, of body atom b and head h: blocks 1 to w are the first chain's bits, w + 1 to 2w the second's
-- Assumes nothing.
use Rattle.std.specs.Prelude.{ℕ, pred, ◌-◌, cond, leb}
use Rattle.encoding.specs.Variables.{Sizes, level_var, next_var, below_var, next_below_var}
use Rattle.clause_chains.specs.declared.Chain.{Chain}

abbrev pub chain_with : ℕ → ℕ → ℕ → ℕ → Chain
chain_with z x y g = record { z = record { 0 = z }; x = record { 0 = x }; y = record { 0 = y }; g = record { 0 = g } }

abbrev pub chain_of : Sizes → ℕ → ℕ → ℕ → ℕ → Chain
chain_of S k b h i =
    cond (leb i S.w) (chain_with (below_var S k i) (level_var S b i) (level_var S h i) (below_var S k (pred i)))
    (chain_with (next_below_var S k (i - S.w)) (next_var S b (i - S.w)) (level_var S h (i - S.w)) (next_below_var S k (pred (i - S.w))))
