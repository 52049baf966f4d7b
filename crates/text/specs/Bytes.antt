-- Bytes.
--   are_bytes t   each number of t is a byte: below 256
-- Assumes nothing.
use Rattle.std.specs.Prelude.{ℕ, Bool, List, ltb}
use Rattle.lists.specs.Lists.{all}

abbrev pub are_bytes : List ℕ → Bool
are_bytes t = all (λ b. ltb b 256) t
