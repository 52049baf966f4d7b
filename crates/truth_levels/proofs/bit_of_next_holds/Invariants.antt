use Rattle.truth_levels.proofs.LevelLaws.{low_to}
use Rattle.truth_levels.specs.Levels.{next_clause}
use Rattle.truth_literals.specs.Values.{value_in}
use Rattle.lists.specs.Lists.{all_to}
use mathlib.Core.Path.{◌≡◌}
use Prim.Native.Nat.{◌+◌, ◌*◌}
use Rattle.truth_levels.proofs.bit_of_next_holds.Given as goal

abbrev pub invariant-loop-j : goal.invariant-loop-j
invariant-loop-j l = (l.ok ≡ all_to (2 * l.j) (next_clause (value_in l.assignment) l.s l.a.0 (l.i + 1))) × (l.low ≡ low_to (value_in l.assignment) l.s l.a.0 (l.i + 1) l.j)
