use Rattle.truth_rules.proofs.RuleLaws.{fact_more, fact_all}
use Rattle.truth_literals.proofs.Variables.{body_in, level_in_lem}
use Rattle.truth_literals.specs.Values.{value_in}
use native.Mathlib.Omega.{arith}
use mathlib.Core.Path.{refl, ap}
use Rattle.encoding.specs.Variables.{Sizes}
use Rattle.truth_rules.proofs.fact_holds.Goals as goal

pub loop-j-init : goal.loop-j-init
loop-j-init c = refl

pub implies-ok-requires : goal.implies-ok-requires
implies-ok-requires c = (body_in c.args.s 0 c.requires.4 c.args.r.0 c.requires.0 c.requires.1 c.body_var-t.ensures, level_in_lem c.args.s c.args.h.0 c.loop-j.j 0 c.requires.2 c.requires.3 (omega (arith, c.loop-j-test.true, ap (λ (S : Sizes). S.w) c.s.view_is)) c.requires.4 c.level_var-v.ensures)

pub loop-j-preserved : goal.loop-j-preserved
loop-j-preserved c = fact_more (value_in c.args.assignment.now) c.args.s c.args.h.0 c.body_var-t.result.0 c.loop-j.j c.level_var-v.ensures c.loop-j.invariant c.implies-ok.ensures

pub returns : goal.returns
returns c = fact_all (value_in c.args.assignment.now) c.args.s c.args.h.0 c.body_var-t.result.0 c.loop-j.j c.args.r.0 c.body_var-t.ensures (omega (arith, c.loop-j.auto.j-end, ap (λ (S : Sizes). S.w) c.s.view_is)) (omega (arith, c.loop-j-test.false, ap (λ (S : Sizes). S.w) c.s.view_is)) c.loop-j.invariant
