use Rattle.truth_rules.proofs.RuleLaws.{below_in, below_more, not_more, founds_all}
use Rattle.truth_literals.proofs.Variables.{body_in, founds_in}
use Rattle.truth_literals.proofs.Gathered.{and_none, or_none}
use Rattle.truth_rules.specs.Rules.{below_true, not_below}
use Rattle.truth_literals.specs.Values.{value_in}
use native.Mathlib.Omega.{arith}
use mathlib.Core.Bool.{◌||◌}
use mathlib.Core.Path.{◌∙◌, ap}
use Rattle.encoding.specs.Variables.{Sizes, below_var}
use Prim.Native.Nat.{◌+◌}
use Rattle.truth_rules.proofs.founds_hold.Goals as goal

pub implies-ok-requires : goal.implies-ok-requires
implies-ok-requires c = (founds_in c.args.s (c.args.k + c.args.b) c.requires.3 c.args.r.0 c.requires.0 c.requires.1 c.founds_var-f.ensures, body_in c.args.s (c.args.k + c.args.b) c.requires.3 c.args.r.0 c.requires.0 c.requires.1 c.body_var-t.ensures)

pub stands-requires : goal.stands-requires
stands-requires c = founds_in c.args.s (c.args.k + c.args.b) c.requires.3 c.args.r.0 c.requires.0 c.requires.1 c.founds_var-f.ensures

pub stands-requires-2 : goal.stands-requires-2
stands-requires-2 c = body_in c.args.s (c.args.k + c.args.b) c.requires.3 c.args.r.0 c.requires.0 c.requires.1 c.body_var-t.ensures

pub loop-j-init : goal.loop-j-init
loop-j-init c = (and_none c.implies-ok.result (below_true (value_in c.args.assignment.now) c.args.s c.args.k c.founds_var-f.result.0), or_none (c.stands.result || c.stands-2.result) (not_below (value_in c.args.assignment.now) c.args.s c.args.k))

pub implies-ok-requires-in-loop-j : goal.implies-ok-requires-in-loop-j
implies-ok-requires-in-loop-j c = omega (arith, founds_in c.args.s (c.args.k + c.args.b) c.requires.3 c.args.r.0 c.requires.0 c.requires.1 c.founds_var-f.ensures, below_in c.args.s c.requires.0 c.requires.1 c.args.k c.args.b c.requires.3 c.loop-j-test.true (c.below_var-p.ensures ∙ ap (λ (S : Sizes). below_var c.args.s (c.args.k + (c.loop-j.j + 1)) S.w) c.s.view_is))

pub stands-long-requires : goal.stands-long-requires
stands-long-requires c = below_in c.args.s c.requires.0 c.requires.1 c.args.k c.args.b c.requires.3 c.loop-j-test.true (c.below_var-p.ensures ∙ ap (λ (S : Sizes). below_var c.args.s (c.args.k + (c.loop-j.j + 1)) S.w) c.s.view_is)

pub loop-j-preserved : goal.loop-j-preserved
loop-j-preserved c = (below_more (value_in c.args.assignment.now) c.args.s c.args.k c.loop-j.j (c.below_var-p.ensures ∙ ap (λ (S : Sizes). below_var c.args.s (c.args.k + (c.loop-j.j + 1)) S.w) c.s.view_is) c.founds_var-f.result.0 c.implies-ok.result c.loop-j.invariant.0 c.implies-ok-in-loop-j.ensures, not_more (value_in c.args.assignment.now) c.args.s c.args.k c.loop-j.j (c.below_var-p.ensures ∙ ap (λ (S : Sizes). below_var c.args.s (c.args.k + (c.loop-j.j + 1)) S.w) c.s.view_is) (c.stands.result || c.stands-2.result) c.loop-j.invariant.1 c.stands-long.ensures)

pub returns : goal.returns
returns c = founds_all (value_in c.args.assignment.now) c.args.s c.args.r.0 c.args.k c.args.b c.body_var-t.ensures c.loop-j.auto.j-end c.loop-j-test.false c.founds_var-f.ensures c.implies-ok.ensures c.loop-j.invariant.0 c.stands.ensures c.stands-2.ensures c.loop-j.invariant.1
