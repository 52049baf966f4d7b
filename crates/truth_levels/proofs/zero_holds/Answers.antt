use Rattle.truth_levels.proofs.LevelLaws.{level_has, zero_more, zero_all}
use Rattle.truth_literals.proofs.Values.{positive_size, negated_size, says, two_true_lem}
use Rattle.truth_literals.specs.Values.{value_in}
use Rattle.encoding.specs.Literal.{var, −◌}
use Rattle.encoding.specs.Variables.{Sizes}
use native.Mathlib.Omega.{arith}
use mathlib.Core.Path.{ap}
use Rattle.truth_levels.proofs.zero_holds.Goals as goal

pub two_hold-ok-requires : goal.two_hold-ok-requires
two_hold-ok-requires c =
    omega (
      arith,
      positive_size c.literal-x.type_inv c.literal-x.ensures,
      c.from.ensures,
      c.requires.some,
      c.requires.among,
      c.requires.bytes,
      negated_size c.level_var.result.0 c.negated.type_inv c.negated.ensures,
      level_has c.requires c.loop-y.y (omega (arith, c.loop-y-test.true, ap (λ (S : Sizes). S.w) c.s.view_is)) c.level_var.ensures,
    )

pub loop-y-preserved : goal.loop-y-preserved
loop-y-preserved c =
    zero_more (value_in c.args.assignment.now) c.args.s c.args.a.0 c.loop-y.y c.from.ensures c.level_var.ensures c.loop-y.invariant
    (two_true_lem c.args.assignment.now (says (var c.from.result.0) c.literal-x.type_inv c.literal-x.ensures (omega (arith, c.from.ensures, c.requires.some)))
    (says (− c.level_var.result.0) c.negated.type_inv c.negated.ensures (omega (arith, c.level_var.ensures))) c.two_hold-ok.ensures)

pub returns : goal.returns
returns c = zero_all (value_in c.args.assignment.now) c.args.s c.args.a.0 c.loop-y.y c.loop-y.invariant (omega (arith, c.loop-y.auto.y-end, ap (λ (S : Sizes). S.w) c.s.view_is)) (omega (arith, c.loop-y-test.false, ap (λ (S : Sizes). S.w) c.s.view_is))
