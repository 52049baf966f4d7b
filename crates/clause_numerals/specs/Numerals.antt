-- Literals as code has them in whole blocks: a signed number, with the digits of its variable (document 01, "Which places take which form").
--   literal_of z  the literal that a signed number stands for
--   held x        the literal of x
--   opposed l     the literal with the other sign
-- Assumes nothing.
use Rattle.std.specs.Prelude.{suc, ℤ, pos, negsuc}
use Rattle.encoding.specs.Literal.{Literal, var, −◌}
use Rattle.clause_numerals.specs.declared.Numeral.{Numeral}

abbrev pub literal_of : ℤ → Literal
literal_of (pos n) = var n
literal_of (negsuc n) = − (suc n)

abbrev pub held : Numeral → Literal
held x = literal_of x.literal

abbrev pub opposed : Literal → Literal
opposed (var v) = − v
opposed (− v) = var v
