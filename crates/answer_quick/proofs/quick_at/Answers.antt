use mathlib.Core.Path.{ap, ◌∙◌}
use native.Mathlib.Omega.{arith}
use Rattle.answer_quick.specs.Quick.{some_quick}
use Rattle.answer_quick.proofs.Reading.{minus_most, quick_other, quick_here, minus_is_of}
use Rattle.answer_quick.proofs.quick_at.Goals as goal

pub returns-then-answer-at-ne32 : goal.returns-then-answer-at-ne32
returns-then-answer-at-ne32 c = ap some_quick (quick_other c.args.answer.now c.args.at c.if-answer-at-ne32.true)

pub returns : goal.returns
returns c = quick_here c.args.answer.now c.args.at c.if-answer-at-ne32.false _ (minus_is_of _) _ (omega (arith, c.from.ensures)) (omega (arith, c.requires, minus_most _ _ (c.from.ensures ∙ minus_is_of _))) _ c.quick_digits.ensures
