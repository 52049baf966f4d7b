-- Numbers of which 0 stands for none, as options.
--   nonzero k    none for 0, else k
-- Assumes nothing.
use Rattle.std.specs.Prelude.{ℕ, zero, suc, Option, Some, None}

abbrev pub nonzero : ℕ → Option ℕ
nonzero zero = None
nonzero (suc k) = Some (suc k)
