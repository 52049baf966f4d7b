use Rattle.answer_form.specs.Pieces.{close_from, close_of}
use Rattle.answer_words.specs.Words.{tail_number}
use lib.ListN.{drop}
use mathlib.Core.Path.{◌≡◌}
use Rattle.answer_reader.proofs.close.Given as goal

abbrev pub invariant-loop-i : goal.invariant-loop-i
invariant-loop-i l = close_from (tail_number l.tail) l.i (drop l.i l.answer) ≡ close_of l.answer l.at
