use Rattle.clause_heads.specs.NextHead.{next_head}
use mathlib.Core.Path.{◌≡◌}
use Rattle.clause_heads.proofs.next_head.Given as goal

abbrev pub invariant-loop-i : goal.invariant-loop-i
invariant-loop-i l = next_head l.heads l.a.0 l.i ≡ next_head l.heads l.a.0 l.from
