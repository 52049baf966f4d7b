-- A header and two refusals, as texts.
-- Assumes nothing.
use mathlib.Core.Path.{◌≡◌, refl}
use Rattle.lists.specs.Ascii.{ascii}
use Rattle.text.specs.Decimal.{decimal}
use Rattle.fixed_lines.specs.Lines.{header_text, refused_text}

pub header_small : header_text 7 16 ≡ ascii "p cnf 7 16\n"
unfolding header_text ascii decimal
header_small = refl

pub header_largest : header_text 9890 53690 ≡ ascii "p cnf 9890 53690\n"
unfolding header_text ascii decimal
header_largest = refl

pub refused_first : refused_text 2 0 ≡ ascii "(refused 2 0)\n"
unfolding refused_text ascii decimal
refused_first = refl

pub refused_wide : refused_text 25 18446744073709551615 ≡ ascii "(refused 25 18446744073709551615)\n"
unfolding refused_text ascii decimal
refused_wide = refl
