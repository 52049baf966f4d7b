use mathlib.Core.Path.{◌≡◌}
use lib.ListN.{drop}
use Rattle.answer_words.specs.Words.{place_number, space_from}
use Rattle.answer_words.proofs.space_from.Given as goal

abbrev pub invariant-loop-i : goal.invariant-loop-i
invariant-loop-i l = space_from (place_number l.place) l.i (drop l.i l.answer) ≡ space_from 35 l.at (drop l.at l.answer)
