-- The verdict of filling out.
--   FillVerdict        what the set filled out has, or why it is not
--   filled_out k h     the set is filled out: k atoms are true, and h is the highest level
-- Assumes nothing.
use Rattle.std.specs.Prelude.{ℕ, Result, Ok}
use Rattle.refusals.specs.declared.FillRefusal.{FillRefusal}
use Rattle.call_fill_rows.specs.declared.Filled.{Filled}

abbrev pub FillVerdict : Type 0
FillVerdict = Result Filled FillRefusal

abbrev pub filled_out : ℕ → ℕ → FillVerdict
filled_out k h = Ok (record { atoms = k; highest = h })
