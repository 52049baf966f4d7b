-- The parts that runs of lines make of a clause file, each from where the last one ended.
--   parts_of n k ls   the first k parts of the lines ls: each is as many whole lines as fit n bytes
-- Assumes nothing.
use Rattle.std.specs.Prelude.{ℕ, zero, suc, List, [], ◌∷◌, take, drop}
use Rattle.lists.specs.Lists.{joined}
use Rattle.clause_runs.specs.Lines.{fitting}

abbrev pub parts_of : ℕ → ℕ → List (List ℕ) → List (List ℕ)
parts_of n zero ls = []
parts_of n (suc k) ls = joined (take (fitting n ls) ls) ∷ parts_of n k (drop (fitting n ls) ls)
