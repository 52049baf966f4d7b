use Rattle.answer_words.proofs.Pieces.{first_goes, first_here, first_none}
use mathlib.Core.Logic.{inl, inr}
use native.Mathlib.Omega.{arith}
use Rattle.answer_words.proofs.first_line.Goals as goal
use Rattle.answer_words.proofs.first_line.Goals.{else-not-in_comment-via-then-not-in_comment+else-b-ne99, else-not-in_comment-via-else-not-in_comment}

pub returns-then-b-ne99 : goal.returns-then-b-ne99
returns-then-b-ne99 c = (first_here c.args.answer.now _ c.loop-i-test.true _ c.loop-i.in_comment c.loop-i.invariant c.if-not-in_comment.true c.if-b-ne99.true, omega arith)

pub loop-i-preserved : goal.loop-i-preserved
loop-i-preserved c =
    elim c.else-not-in_comment.branch [
      | else-not-in_comment-via-then-not-in_comment+else-b-ne99 w ↦ first_goes c.args.answer.now _ c.loop-i-test.true _ c.loop-i.in_comment c.loop-i.invariant (inr w.if-b-ne99.false)
      | else-not-in_comment-via-else-not-in_comment w ↦ first_goes c.args.answer.now _ c.loop-i-test.true _ c.loop-i.in_comment c.loop-i.invariant (inl w.if-not-in_comment.false)
    ]

pub returns : goal.returns
returns c = (first_none c.args.answer.now _ _ _ c.loop-i.invariant c.loop-i-test.false c.loop-i.auto.i-end, omega arith)
