use Rattle.clause_heads.proofs.NextHeads.{next_here, next_on, next_none}
use mathlib.Core.Path.{◌∙◌, ap}
use Rattle.clause_heads.specs.NextHead.{next_head}
use Rattle.clause_heads.proofs.next_head.Goals as goal

pub returns-then-heads-i : goal.returns-then-heads-i
returns-then-heads-i c = next_here c.args.heads.now c.args.a.0 c.loop-i.i c.loop-i-test.true c.if-heads-i.true ∙ c.loop-i.invariant

pub loop-i-preserved : goal.loop-i-preserved
loop-i-preserved c = next_on c.args.heads.now c.args.a.0 c.loop-i.i c.loop-i-test.true c.if-heads-i.false ∙ c.loop-i.invariant

pub returns : goal.returns
returns c =
    next_none c.args.heads.now c.args.a.0 c.loop-i.i _ _ c.loop-i-test.false c.loop-i.auto.i-end c.max.ensures (c.past_eights-first.ensures.1 ∙ ap (next_head c.args.heads.now c.args.a.0) c.from.ensures) c.loop-i.invariant
