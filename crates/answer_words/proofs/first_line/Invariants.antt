use Rattle.answer_form.specs.Pieces.{first_line}
use Rattle.answer_words.specs.Words.{line_number}
use lib.ListN.{drop}
use mathlib.Core.Path.{◌≡◌}
use Rattle.answer_words.proofs.first_line.Given as goal

abbrev pub invariant-loop-i : goal.invariant-loop-i
invariant-loop-i l = first_line (line_number l.in_comment) l.i (drop l.i l.answer) ≡ first_line 0 0 l.answer
