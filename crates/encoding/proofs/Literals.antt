-- The size of a literal's number is its variable.
-- Assumes nothing.
use Prim.Native.Nat.{zero, suc}
use mathlib.Core.Path.{◌≡◌, refl}
use lib.IntN.{nat_abs}
use Rattle.encoding.specs.Literal.{Literal, var, −◌, variable, literal_number}

pub number_size : (l : Literal) → nat_abs (literal_number l) ≡ variable l
number_size (var v) = refl
number_size (− zero) = refl
number_size (− (suc v)) = refl
