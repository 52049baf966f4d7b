use native.Mathlib.Omega.{arith}
use Rattle.reader_fast.proofs.Pieces.{word_in, begun_goes}
use Rattle.reader_fast.proofs.take_rule_word.Goals as goal

pub overflow_add-result : goal.overflow_add-result
overflow_add-result c = omega (arith, word_in _ _ _ _ c.has.ensures c.if-not-has.false)

pub returns : goal.returns
returns c = begun_goes _ _ _ _ c.ready.ensures c.if-not-ready.false c.has.ensures c.if-not-has.false
