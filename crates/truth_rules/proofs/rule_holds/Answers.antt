use Rattle.truth_rules.proofs.RuleLaws.{rule_fact, rule_bound}
use Rattle.truth_literals.specs.Values.{value_in}
use Rattle.truth_rules.proofs.rule_holds.Goals as goal

pub returns-then-b-eq0 : goal.returns-then-b-eq0
returns-then-b-eq0 c = rule_fact (value_in c.args.assignment.now) c.args.s c.args.r.0 c.args.h.0 c.args.k c.args.b c.founds_hold-founds.ensures c.if-b-eq0.true c.fact_holds.ensures

pub returns-else-b-eq0 : goal.returns-else-b-eq0
returns-else-b-eq0 c = rule_bound (value_in c.args.assignment.now) c.args.s c.args.r.0 c.args.h.0 c.args.k c.args.b c.founds_hold-founds.ensures c.if-b-eq0.false c.bound_holds.ensures
