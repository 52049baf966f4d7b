-- The verdict of the check.
--   CheckVerdict           what the answer's model shows, or why it shows none
--   model_shown k h c      a model is shown: k atoms are true, h is the highest level, and c variables are left out and read as false
-- Assumes nothing.
use Rattle.std.specs.Prelude.{ℕ, Result, Ok}
use Rattle.refusals.specs.declared.CheckRefusal.{CheckRefusal}
use Rattle.call_check_rows.specs.declared.Shown.{Shown}

abbrev pub CheckVerdict : Type 0
CheckVerdict = Result Shown CheckRefusal

abbrev pub model_shown : ℕ → ℕ → ℕ → CheckVerdict
model_shown k h c = Ok (record { atoms = k; highest = h; assumed = c })
