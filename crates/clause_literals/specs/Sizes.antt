-- The bounds of the sizes that the numbers of the variables depend on (document 01, "Variables").
--   Bounded s    at most 126 atoms and 500 rules, counters of at most 7 bits: every variable's number is below 2^16
-- Assumes nothing.
use Rattle.std.specs.Prelude.{◌≤◌}
use Rattle.encoding.specs.Variables.{Sizes as Of}

pub record Bounded (s : Of) : Type 0 where
  pub atoms : s.n ≤ 126
  pub rules : s.m ≤ 500
  pub bits : s.w ≤ 7
