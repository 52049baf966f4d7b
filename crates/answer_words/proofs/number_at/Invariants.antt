use mathlib.Core.Path.{◌≡◌}
use lib.ListN.{drop}
use Rattle.answer_form.specs.Pieces.{capped_value, behind_digits}
use Rattle.answer_words.specs.Words.{most_number}
use Rattle.answer_words.proofs.number_at.Given as goal

abbrev pub invariant-loop-i : goal.invariant-loop-i
invariant-loop-i l = (capped_value most_number l.v (drop l.i l.answer) ≡ capped_value most_number l.value (drop l.at l.answer)) × (behind_digits l.i (drop l.i l.answer) ≡ behind_digits l.at (drop l.at l.answer))
