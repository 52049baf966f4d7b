use Rattle.truth_rules.proofs.RuleItems.{body_rule, body_lists, body_item, body_asks}
use Rattle.truth_literals.specs.Values.{value_in}
use Rattle.clause_table_laws.proofs.Cells.{arrays, told}
use Rattle.clause_tables.specs.declared.Totals.{Totals}
use mathlib.Core.Path.{◌∙◌, ap}
use native.Mathlib.Omega.{arith}
use Rattle.truth_items.proofs.body_item.Goals as goal

pub list_start-first-requires : goal.list_start-first-requires
list_start-first-requires c = (c.requires.0, omega (arith, body_rule (arrays c.args.valued.table.ready) c.requires.0 c.requires.1))

pub list_start-middle-requires : goal.list_start-middle-requires
list_start-middle-requires c = (c.requires.0, omega (arith, body_rule (arrays c.args.valued.table.ready) c.requires.0 c.requires.1))

pub list_start-end-requires : goal.list_start-end-requires
list_start-end-requires c = (c.requires.0, omega (arith, body_rule (arrays c.args.valued.table.ready) c.requires.0 c.requires.1))

pub body_var-t-requires : goal.body_var-t-requires
body_var-t-requires c = body_rule (told c.args.valued.table.ready c.totals.ensures) c.requires.0 c.requires.1

pub body-requires : goal.body-requires
body-requires c = let q = body_lists (arrays c.args.valued.table.ready) c.requires.0 c.requires.1 c.list_start-first.ensures c.list_start-middle.ensures c.list_start-end.ensures in (q.1, q.2)

pub overflow_sub-middle : goal.overflow_sub-middle
overflow_sub-middle c = (body_lists (arrays c.args.valued.table.ready) c.requires.0 c.requires.1 c.list_start-first.ensures c.list_start-middle.ensures c.list_start-end.ensures).0

pub body_holds-requires : goal.body_holds-requires
body_holds-requires c = body_asks (told c.args.valued.table.ready c.totals.ensures) c.requires.0 c.requires.1 c.list_start-first.ensures c.list_start-middle.ensures c.list_start-end.ensures c.body.ensures c.body_var-t.ensures c.args.valued.values.now (omega (arith, ap (λ (t : Totals). t.vars) c.totals.ensures))

pub returns : goal.returns
returns c = c.body_holds.ensures ∙ body_item (told c.args.valued.table.ready c.totals.ensures) c.requires.0 c.requires.1 c.list_start-first.ensures c.list_start-middle.ensures c.list_start-end.ensures c.body.ensures c.body_var-t.ensures (value_in c.args.valued.values.now) c.from.ensures
