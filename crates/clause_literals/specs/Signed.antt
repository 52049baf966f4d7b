-- The sign of a literal's number (document 01, "Which places take which form": signed 32-bit literals).
--   is_negative x  x is below 0
-- Assumes nothing.
use Rattle.std.specs.Prelude.{Bool, true, false, ℤ, pos, negsuc}

abbrev pub is_negative : ℤ → Bool
is_negative (pos n) = false
is_negative (negsuc n) = true
