use Rattle.answer_form.specs.Pieces.{common}
use lib.ListN.{drop}
use mathlib.Core.Path.{◌≡◌}
use Prim.Native.Nat.{◌+◌}
use Rattle.answer_words.proofs.common_bytes.Given as goal

abbrev pub invariant-loop-k : goal.invariant-loop-k
invariant-loop-k l = l.k + common (drop (l.at + l.k) l.answer) (drop l.k l.word) ≡ common (drop l.at l.answer) l.word
