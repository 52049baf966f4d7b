use native.Mathlib.Omega.{arith}
use Rattle.clause_tabling.proofs.Held.{heads_held, many_bodies}
use Rattle.clause_tabling.proofs.Kept.{here}
use Rattle.clause_tabling.proofs.positive.Goals as goal

pub overflow_mul-r : goal.overflow_mul-r
overflow_mul-r c = omega (arith, (heads_held _ c.requires.0).few, c.requires.1)

pub offset_bounds-p-r : goal.offset_bounds-p-r
offset_bounds-p-r c = omega (arith, (heads_held _ c.requires.0).few, c.requires.1)

pub bounds-p-r : goal.bounds-p-r
bounds-p-r c = omega (arith, (heads_held _ c.requires.0).few, c.requires.1)

pub bounds-p-r-2 : goal.bounds-p-r-2
bounds-p-r-2 c = omega (arith, (heads_held _ c.requires.0).few, c.requires.1)

pub slice_bounds-result-count : goal.slice_bounds-result-count
slice_bounds-result-count c = omega (arith, (here _ c.requires.0 _ c.requires.1).rises)

pub slice_bounds-result-start : goal.slice_bounds-result-start
slice_bounds-result-start c = omega (arith, (here _ c.requires.0 _ c.requires.1).rises)

pub slice_bounds-result-end : goal.slice_bounds-result-end
slice_bounds-result-end c = omega (arith, (here _ c.requires.0 _ c.requires.1).within, many_bodies _ c.requires.0)
