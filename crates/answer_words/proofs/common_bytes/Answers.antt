use Rattle.answer_words.proofs.Pieces.{common_goes, common_other, common_all}
use mathlib.Core.Logic.{inl, inr}
use mathlib.Core.Path.{◌≡◌, ◌∙◌}
use lib.ListN.{length}
use Prim.Native.Nat.{◌+◌}
use native.Mathlib.Nat.{add_assoc}
use native.Mathlib.Omega.{arith}
use Rattle.answer_words.proofs.common_bytes.Goals as goal
use Rattle.answer_words.proofs.common_bytes.Goals.{then-saturating_sub-k-via-then-saturating_sub-k, then-saturating_sub-k-via-else-saturating_sub-k+then-answer-at}

pub returns-then-saturating_sub-k : goal.returns-then-saturating_sub-k
returns-then-saturating_sub-k c =
    elim c.then-saturating_sub-k.branch [
      | then-saturating_sub-k-via-then-saturating_sub-k w ↦ common_other c.args.answer.now c.args.word.now (c.args.at + c.loop-k.k) c.loop-k.k _ c.loop-k.invariant c.loop-k-test.true (inl (omega (arith, c.saturating_sub.ensures, w.if-saturating_sub-k.true)))
      | then-saturating_sub-k-via-else-saturating_sub-k+then-answer-at w ↦ common_other c.args.answer.now c.args.word.now (c.args.at + c.loop-k.k) c.loop-k.k _ c.loop-k.invariant c.loop-k-test.true (inr (omega (arith, c.saturating_sub.ensures, w.if-saturating_sub-k.false), w.if-answer-at.true))
    ]

pub loop-k-preserved : goal.loop-k-preserved
loop-k-preserved c = rw (← add_assoc c.args.at c.loop-k.k 1) (common_goes c.args.answer.now c.args.word.now (c.args.at + c.loop-k.k) c.loop-k.k _ c.loop-k.invariant (omega (arith, c.saturating_sub.ensures, c.if-saturating_sub-k.false)) c.loop-k-test.true c.if-answer-at.false)

pub returns : goal.returns
returns c = let e : length c.args.word.now ≡ c.loop-k.k = omega arith in e ∙ common_all c.args.answer.now c.args.word.now (c.args.at + c.loop-k.k) c.loop-k.k _ c.loop-k.invariant c.loop-k-test.false
