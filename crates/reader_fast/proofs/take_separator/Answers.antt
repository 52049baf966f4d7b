use native.Mathlib.Omega.{arith}
use Rattle.reader_fast.proofs.Pieces.{word_in, few_rules, between_goes}
use Rattle.reader_fast.proofs.take_separator.Goals as goal

pub bounds-starts-from : goal.bounds-starts-from
bounds-starts-from c = omega (arith, c.from.ensures, few_rules _ _ _ c.ready.ensures c.if-not-ready.false)

pub overflow_add-result : goal.overflow_add-result
overflow_add-result c = omega (arith, word_in _ _ _ _ c.has.ensures c.if-not-has.false)

pub returns : goal.returns
returns c = between_goes _ _ _ _ c.ready.ensures c.if-not-ready.false c.has.ensures c.if-not-has.false _ _ c.from.ensures
