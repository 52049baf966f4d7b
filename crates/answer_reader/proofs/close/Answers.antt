use denote.Enum.Bare.{same_true, same_false}
use borrow.Author.Rules.{rules}
use mathlib.Core.Path.{refl, sym}
use Rattle.answer_form.specs.Pieces.{close_of}
use Rattle.answer_words.specs.contracts.Tail.{the_type}
use Rattle.answer_reader.proofs.Turns.{close_goes, close_dies, close_fine, close_short}
use Rattle.answer_reader.proofs.close.Goals as goal

pub loop-i-init : goal.loop-i-init
unfolding close_of
loop-i-init c = refl

pub returns-in_default : goal.returns-in_default
returns-in_default c = close_dies _ _ _ _ c.loop-i.invariant c.loop-i-test.true _ c.end_step.ensures c.in_default.is

pub loop-i-preserved : goal.loop-i-preserved
loop-i-preserved c = close_goes _ _ _ _ c.loop-i.invariant c.loop-i-test.true _ c.end_step.ensures _ c.in-Some.is

pub returns-then-eq : goal.returns-then-eq
returns-then-eq c = close_fine _ _ _ _ c.loop-i.invariant c.loop-i-test.false (same_true the_type (search rules) _ _ (sym c.if-eq.ensures))

pub returns : goal.returns
returns c = close_short _ _ _ _ _ c.max.ensures c.loop-i.invariant c.loop-i-test.false c.loop-i.auto.i-end (same_false the_type _ _ (sym c.if-eq.ensures))
