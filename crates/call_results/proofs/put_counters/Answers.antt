use lib.ListN.{set}
use mathlib.Core.Path.{ap, ◌∙◌}
use Prim.Native.Nat.{ℕ}
use native.Mathlib.Omega.{arith}
use Rattle.encoding.specs.Variables.{Sizes}
use Rattle.truth_clauses.specs.Truth.{value_in}
use Rattle.encoding.specs.Fill.{counter}
use Rattle.call_results.proofs.Counting.{tabled_more, tabled_all}
use Rattle.call_results.proofs.put_counters.Goals as goal

pub counter_of-requires : goal.counter_of-requires
counter_of-requires c = (omega arith, omega (arith, c.loop-a-test.true, ap (λ (S : Sizes). S.n) c.s.view_is), c.requires.0)

pub loop-a-preserved : goal.loop-a-preserved
loop-a-preserved c =
    ap (λ (i : ℕ). set c.loop-a.levels i c.counter_of.result) c.from.ensures
    ∙ tabled_more (counter c.args.s (value_in c.args.assignment.now)) c.args.levels.now c.loop-a.levels c.loop-a.a (omega (arith, c.requires.1, c.loop-a-test.true, ap (λ (S : Sizes). S.n) c.s.view_is)) c.loop-a.invariant c.counter_of.ensures

pub returns : goal.returns
returns c = tabled_all (counter c.args.s (value_in c.args.assignment.now)) c.args.levels.now c.loop-a.levels c.loop-a.a c.args.s.n c.loop-a.invariant (omega (arith, c.loop-a.auto.a-end, ap (λ (S : Sizes). S.n) c.s.view_is)) (omega (arith, c.loop-a-test.false, ap (λ (S : Sizes). S.n) c.s.view_is))
