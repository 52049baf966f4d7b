use mathlib.Core.Path.{◌∙◌}
use native.Mathlib.Omega.{arith}
use Rattle.clause_counts.proofs.Sized.{count_low, count_high, count_fits}
use Rattle.clause_counts.proofs.low_count.Goals as goal
use Rattle.clause_counts.proofs.low_count.Goals.{then-h-a, else-h-a}

pub overflow_add-n : goal.overflow_add-n
overflow_add-n c = omega (arith, c.loop-h.invariant, count_fits c.args.heads.now c.args.a.0 c.loop-h.h-index, c.requires)

pub loop-h-preserved : goal.loop-h-preserved
loop-h-preserved c = let a = c.args in elim c.if-h-a.branch [ then-h-a w ↦ w.n-is ∙ count_low a.heads.now a.a.0 c.loop-h.h-index c.loop-h.invariant w.if-h-a.true | else-h-a w ↦ w.n-is ∙ count_high a.heads.now a.a.0 c.loop-h.h-index c.loop-h.invariant w.if-h-a.false ]
