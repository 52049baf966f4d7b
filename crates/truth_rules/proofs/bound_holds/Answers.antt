use Rattle.truth_rules.proofs.RuleLaws.{next_in, next_more, bound_all}
use Rattle.truth_literals.proofs.Variables.{body_in}
use Rattle.truth_literals.proofs.Gathered.{or_none}
use Rattle.truth_rules.specs.Rules.{not_next}
use Rattle.truth_literals.specs.Values.{value_in}
use mathlib.Core.Path.{◌∙◌, ap}
use Rattle.encoding.specs.Variables.{Sizes, next_below_var}
use Prim.Native.Nat.{◌+◌}
use Rattle.truth_rules.proofs.bound_holds.Goals as goal

pub stands-low-requires : goal.stands-low-requires
stands-low-requires c = body_in c.args.s (c.args.k + c.args.b) c.requires.3 c.args.r.0 c.requires.0 c.requires.1 c.body_var.ensures

pub loop-j-init : goal.loop-j-init
loop-j-init c = or_none c.stands-low.result (not_next (value_in c.args.assignment.now) c.args.s c.args.k)

pub stands-low-requires-in-loop-j : goal.stands-low-requires-in-loop-j
stands-low-requires-in-loop-j c = next_in c.args.s c.requires.0 c.requires.1 c.args.k c.args.b c.requires.3 c.loop-j-test.true (c.next_below_var-q.ensures ∙ ap (λ (S : Sizes). next_below_var c.args.s (c.args.k + (c.loop-j.j + 1)) S.w) c.s.view_is)

pub loop-j-preserved : goal.loop-j-preserved
loop-j-preserved c = next_more (value_in c.args.assignment.now) c.args.s c.args.k c.loop-j.j (c.next_below_var-q.ensures ∙ ap (λ (S : Sizes). next_below_var c.args.s (c.args.k + (c.loop-j.j + 1)) S.w) c.s.view_is) c.stands-low.result c.loop-j.invariant c.stands-low-in-loop-j.ensures

pub returns : goal.returns
returns c = bound_all (value_in c.args.assignment.now) c.args.s c.args.r.0 c.args.k c.args.b c.body_var.ensures c.loop-j.auto.j-end c.loop-j-test.false c.stands-low.ensures c.loop-j.invariant
