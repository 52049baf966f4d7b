use Rattle.level_lists.specs.Bytes.{is_within}
use Rattle.lists.specs.Lists.{all}
use mathlib.Core.Bool.{So}
use lib.ListN.{take}
use Rattle.level_lists.proofs.all_within.Given as goal

abbrev pub invariant-loop-a : goal.invariant-loop-a
invariant-loop-a l = So (all (is_within l.bytes l.lo l.hi) (take l.a-index l.atoms))
