use denote.Enum.Bare.{same_true, same_false}
use borrow.Author.Rules.{rules}
use mathlib.Core.Path.{sym}
use Rattle.answer_words.specs.contracts.Place.{the_type}
use Rattle.answer_words.proofs.Pieces.{space_here, space_behind, space_dies, space_goes, space_short}
use Rattle.answer_words.proofs.space_from.Goals as goal

pub returns-then-answer-at-eq32 : goal.returns-then-answer-at-eq32
returns-then-answer-at-eq32 c = space_here c.args.answer.now _ c.if-at-answer.true c.if-answer-at-eq32.true

pub returns-then-eq : goal.returns-then-eq
returns-then-eq c = space_behind c.args.answer.now _ _ _ c.loop-i.invariant c.loop-i-test.true _ c.seek_step.ensures _ c.in-Some.is (same_true the_type (search rules) _ _ (sym c.if-eq.ensures))

pub loop-i-preserved : goal.loop-i-preserved
loop-i-preserved c = space_goes c.args.answer.now _ _ _ c.loop-i.invariant c.loop-i-test.true _ c.seek_step.ensures _ c.in-Some.is (same_false the_type _ _ (sym c.if-eq.ensures))

pub returns : goal.returns
returns c = space_short c.args.answer.now _ _ c.args.at _ c.max.ensures c.loop-i.invariant c.loop-i-test.false c.loop-i.auto.i-end

pub returns-in_default : goal.returns-in_default
returns-in_default c = space_dies c.args.answer.now _ _ _ c.loop-i.invariant c.loop-i-test.true _ c.seek_step.ensures c.in_default.is
