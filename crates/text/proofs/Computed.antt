-- The printed text of small programs, as it is written.
-- Assumes nothing.
use mathlib.Core.Path.{◌≡◌, refl}
use mathlib.Core.List.{[], ◌∷◌, map}
use Rattle.lists.specs.Ascii.{ascii}
use Rattle.meaning.specs.Samples.{nothing, fact, ring, blocked}
use Rattle.text.specs.Decimal.{decimal}
use Rattle.text.specs.Text.{text_of}

pub texts_written : map text_of (nothing ∷ fact ∷ ring ∷ blocked ∷ [])
    ≡ map ascii ("(atoms 0)\n" ∷ "(atoms 1)\n(rule 1 () ())\n" ∷ "(atoms 2)\n(rule 1 (2) ())\n(rule 2 (1) ())\n"
    ∷ "(atoms 2)\n(rule 2 () ())\n(rule 1 (2) (2))\n" ∷ [])
unfolding text_of decimal ascii
texts_written = refl

pub decimals_written : map decimal (0 ∷ 7 ∷ 10 ∷ 126 ∷ 65536 ∷ []) ≡ map ascii ("0" ∷ "7" ∷ "10" ∷ "126" ∷ "65536" ∷ [])
unfolding decimal ascii
decimals_written = refl
