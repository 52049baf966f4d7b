use Rattle.truth_rules.proofs.RuleItems.{rule_fits_lem, rule_starts, rule_item, rule_asks}
use Rattle.truth_literals.specs.Values.{value_in}
use Rattle.clause_table_laws.proofs.Cells.{arrays, told}
use Rattle.clause_tables.specs.declared.Totals.{Totals}
use mathlib.Core.Path.{◌∙◌, ap}
use native.Mathlib.Omega.{arith}
use Rattle.truth_items.proofs.rule_item.Goals as goal

pub head-h-requires : goal.head-h-requires
head-h-requires c = (c.requires.0, rule_fits_lem (arrays c.args.valued.table.ready) c.requires.0 c.requires.1)

pub pairs_before-k-requires : goal.pairs_before-k-requires
pairs_before-k-requires c = (c.requires.0, omega (arith, rule_fits_lem (arrays c.args.valued.table.ready) c.requires.0 c.requires.1))

pub span-b-requires : goal.span-b-requires
span-b-requires c = (c.requires.0, rule_fits_lem (arrays c.args.valued.table.ready) c.requires.0 c.requires.1, omega arith, rule_starts (arrays c.args.valued.table.ready) c.requires.0 c.requires.1)

pub rule_holds-requires : goal.rule_holds-requires
rule_holds-requires c = rule_asks (told c.args.valued.table.ready c.totals.ensures) c.requires.0 c.requires.1 c.head-h.ensures c.pairs_before-k.ensures c.span-b.ensures c.args.valued.values.now (omega (arith, ap (λ (t : Totals). t.vars) c.totals.ensures))

pub returns : goal.returns
returns c = c.rule_holds.ensures ∙ rule_item (told c.args.valued.table.ready c.totals.ensures) c.requires.0 c.requires.1 c.head-h.ensures c.pairs_before-k.ensures c.span-b.ensures (value_in c.args.valued.values.now)
