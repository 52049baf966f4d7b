use Rattle.clause_finding.proofs.Falling.{passed_first, passed_on, falls_here, falls_last}
use Rattle.clause_finding.proofs.find_part.Goals as goal

pub loop-k-init : goal.loop-k-init
loop-k-init g c f s h = passed_first h

pub returns-then-at-clauses : goal.returns-then-at-clauses
returns-then-at-clauses g c f s h = falls_here (c.loop-k.invariant f s h) (s _ _ c.loop-k.auto.k c.loop-k-test.true c.size-clauses.ensures) c.if-at-clauses.true

pub loop-k-preserved : goal.loop-k-preserved
loop-k-preserved g c f s h = passed_on (c.loop-k.invariant f s h) c.loop-k-test.true (s _ _ c.loop-k.auto.k c.loop-k-test.true c.size-clauses.ensures) c.if-at-clauses.false

pub returns : goal.returns
returns g c f s h = falls_last (c.loop-k.invariant f s h) c.loop-k-test.false h
