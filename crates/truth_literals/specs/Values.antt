-- Truth of literals under an assignment of bytes (document 01, "Check and filling out").
--   value_in bs v     variable v has 1: its byte is not 0
--   number_true bs x  the literal with the number x is true
-- Assumes nothing.
use Rattle.std.specs.Prelude.{ℕ, suc, pred, Bool, not, List, eqb, ℤ, pos, negsuc, get_or}
use Rattle.encoding.specs.Literal.{Assignment}

abbrev pub value_in : List ℕ → Assignment
value_in bs v = not (eqb (get_or bs (pred v) 0) 0)

abbrev pub number_true : List ℕ → ℤ → Bool
number_true bs (pos v) = value_in bs v
number_true bs (negsuc v) = not (value_in bs (suc v))
