use mathlib.Core.Path.{sym, ◌∙◌}
use native.Mathlib.Omega.{arith}
use Rattle.reader_words.proofs.Digits.{short_number_in}
use Rattle.reader_fast.proofs.Pieces.{word_in, few_rules, headed_goes}
use Rattle.reader_fast.proofs.take_head.Goals as goal

pub overflow_add-to : goal.overflow_add-to
overflow_add-to c = omega (arith, short_number_in _ _ _ (sym c.in-Some.is ∙ c.short_number_at.ensures))

pub overflow_add-s : goal.overflow_add-s
overflow_add-s c = omega (arith, few_rules _ _ _ c.ready.ensures c.if-not-ready.false)

pub put_head-requires : goal.put_head-requires
put_head-requires c = (omega arith, omega (arith, few_rules _ _ _ c.ready.ensures c.if-not-ready.false))

pub overflow_add-result : goal.overflow_add-result
overflow_add-result c = omega (arith, word_in _ _ _ _ c.has.ensures c.if-not-has.false)

pub returns : goal.returns
returns c = headed_goes _ _ _ _ _ c.ready.ensures c.if-not-ready.false (sym c.in-Some.is ∙ c.short_number_at.ensures) (omega (arith, c.if-from-n.false, c.from.ensures)) c.has.ensures c.if-not-has.false _ _ c.put_head.ensures
