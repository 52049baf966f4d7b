use mir.Facts.{to_z-of_z}
use mir.Syntax.{w32}
use mathlib.Core.Path.{◌∙◌}
use borrow.Author.Rules.{sfits_of}
use Rattle.answer_words.proofs.Digits.{number_small}
use Rattle.answer_reader.proofs.Numbers.{literal_short, literal_minus, literal_zero, literal_here, literal_other}
use Rattle.answer_reader.proofs.literal_at.Goals as goal

pub returns-then-answer-at : goal.returns-then-answer-at
returns-then-answer-at c = literal_short c.args.answer.now _ c.if-answer-at.true

pub returns-then-b-eq45 : goal.returns-then-b-eq45
returns-then-b-eq45 c = literal_minus c.args.answer.now _ c.if-answer-at.false c.if-b-eq45.true _ c.minus_at.ensures

pub returns-then-b-eq48 : goal.returns-then-b-eq48
returns-then-b-eq48 c = literal_zero c.args.answer.now _ c.if-answer-at.false c.if-b-eq45.false c.if-b-eq48.true

pub positive-requires : goal.positive-requires
positive-requires c = number_small _ _ c.number_at-n.ensures.0

pub returns-then-is_digit : goal.returns-then-is_digit
returns-then-is_digit c = literal_here c.args.answer.now _ c.if-answer-at.false c.if-b-eq45.false c.if-b-eq48.false _ c.is_digit.ensures c.if-is_digit.true _ c.number_at-n.ensures.0 _ (to_z-of_z (sfits_of {w = w32} c.positive.type_inv) ∙ c.positive.ensures) _ c.number_at-n.ensures.1

pub returns : goal.returns
returns c = literal_other c.args.answer.now _ c.if-answer-at.false c.if-b-eq45.false c.if-b-eq48.false _ c.is_digit.ensures c.if-is_digit.false
