-- A literal's number and the digits of its variable (document 01, "Which places take which form").
--   Short v        v is from 1 to 9,999
--   Numbered z d   the variable of the literal z is, and d are the digits of its number
-- Assumes nothing.
use Rattle.std.specs.Prelude.{ℕ, ◌<◌, ◌≡◌, ℤ, nat_abs}
use Rattle.digits.specs.declared.Digits.{Digits}
use Rattle.digits.specs.Digits.{digits_of}

pub record Short (v : ℕ) : Type 0 where
  pub some : 0 < v
  pub fits : v < 10000

pub record Numbered (z : ℤ) (d : Digits) : Type 0 where
  pub short : Short (nat_abs z)
  pub written : d ≡ digits_of (nat_abs z)
