use Rattle.truth_levels.proofs.LevelLaws.{next_more, next_all}
use Rattle.truth_literals.specs.Values.{value_in}
use Rattle.encoding.specs.Variables.{Sizes}
use native.Mathlib.Omega.{arith}
use mathlib.Core.Path.{ap}
use Rattle.truth_levels.proofs.next_holds.Goals as goal

pub loop-i-preserved : goal.loop-i-preserved
loop-i-preserved c = next_more (value_in c.args.assignment.now) c.args.s c.args.a.0 c.loop-i.i c.loop-i.invariant c.bit_of_next_holds-ok.ensures

pub returns : goal.returns
returns c = next_all (value_in c.args.assignment.now) c.args.s c.args.a.0 c.loop-i.i c.loop-i.invariant (omega (arith, c.loop-i.auto.i-end, ap (λ (S : Sizes). S.w) c.s.view_is)) (omega (arith, c.loop-i-test.false, ap (λ (S : Sizes). S.w) c.s.view_is))
