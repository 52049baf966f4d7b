-- The variables of a chain's bit, by its place in the walk.
--   chain_of_block G k i  those of block i of pair k
-- Assumes nothing.
use Rattle.std.specs.Prelude.{ℕ}
use Rattle.encoding.specs.Code.{Code, code_sizes, pair_body, pair_head}
use Rattle.clause_chains.specs.declared.Chain.{Chain}
use Rattle.clause_chains.specs.Chain.{chain_of}

unfoldable pub chain_of_block : Code → ℕ → ℕ → Chain
chain_of_block G k i = chain_of (code_sizes G) k (pair_body G k) (pair_head G k) i
