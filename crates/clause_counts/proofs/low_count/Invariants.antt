use mathlib.Core.Path.{◌≡◌}
use Rattle.clause_counts.specs.Counts.{low_count}
use Rattle.clause_counts.proofs.low_count.Given as goal

abbrev pub invariant-loop-h : goal.invariant-loop-h
invariant-loop-h l = l.n ≡ low_count l.h-index l.heads l.a.0
