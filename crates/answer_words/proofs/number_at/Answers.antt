use mathlib.Core.Bool.{not}
use mathlib.Core.Path.{ap}
use Rattle.answer_words.proofs.Digits.{digit_from, number_goes, number_ends, number_short}
use Rattle.answer_words.proofs.number_at.Goals as goal

pub returns-then-not-is_digit : goal.returns-then-not-is_digit
returns-then-not-is_digit c = number_ends c.args.answer.now _ _ _ _ c.loop-i.invariant _ c.loop-i-test.true c.is_digit.ensures (ap not c.if-not-is_digit.true)

pub with_digit-v-requires : goal.with_digit-v-requires
with_digit-v-requires c = digit_from _ _ c.is_digit.ensures (ap not c.if-not-is_digit.false)

pub loop-i-preserved : goal.loop-i-preserved
loop-i-preserved c = number_goes c.args.answer.now _ _ _ _ c.loop-i.invariant _ _ c.loop-i-test.true c.is_digit.ensures (ap not c.if-not-is_digit.false) c.with_digit-v.ensures

pub returns : goal.returns
returns c = number_short c.args.answer.now _ _ _ c.args.at _ c.max.ensures c.loop-i.invariant c.loop-i-test.false c.loop-i.auto.i-end
