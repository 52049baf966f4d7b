-- The definitions compute the lines that document 01 gives.
-- Assumes nothing.
use mathlib.Core.Path.{◌≡◌, refl}
use mathlib.Core.List.{[], ◌∷◌}
use Rattle.lists.specs.Ascii.{ascii}
use Rattle.text.specs.Decimal.{decimal}
use Rattle.encoding.specs.Literal.{var, −◌}
use Rattle.digits.specs.Bytes.{line_text}

pub line_short : line_text (var 1 ∷ (− 2) ∷ []) ≡ ascii "1 -2 0\n"
unfolding ascii decimal
line_short = refl

pub line_long : line_text ((− 9890) ∷ var 10 ∷ var 99999 ∷ []) ≡ ascii "-9890 10 99999 0\n"
unfolding ascii decimal
line_long = refl

pub line_empty : line_text [] ≡ ascii "0\n"
unfolding ascii
line_empty = refl
