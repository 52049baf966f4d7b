use Rattle.truth_items.proofs.Chosen.{in_group, of_group}
use Rattle.truth_heads.proofs.HeadItems.{head_item, head_asks, founded_item, founded_asks}
use Rattle.truth_levels.proofs.LevelItems.{zero_item, zero_asks, next_item, next_asks}
use Rattle.truth_literals.specs.Values.{value_in}
use Rattle.clause_table_laws.proofs.Cells.{arrays, told}
use Rattle.clause_tables.specs.Tables.{code_in}
use Rattle.clause_tables.specs.declared.Totals.{Totals}
use mathlib.Core.Path.{◌≡◌, ◌∙◌, ap}
use native.Mathlib.Omega.{arith}
use Rattle.truth_items.proofs.item_holds.Goals as goal

pub pair_item-requires : goal.pair_item-requires
pair_item-requires c = (c.requires.2, in_group (code_in c.args.valued.table.cells.now) c.in-5.is c.args.a c.requires.3)

pub returns-in-5 : goal.returns-in-5
returns-in-5 c = of_group (code_in c.args.valued.table.cells.now) c.in-5.is c.args.a (value_in c.args.valued.values.now) c.pair_item.ensures

pub next_holds-requires : goal.next_holds-requires
next_holds-requires c = next_asks (told c.args.valued.table.ready c.totals-in-4.ensures) c.requires.2 (in_group (code_in c.args.valued.table.cells.now) c.in-4.is c.args.a c.requires.3) c.args.valued.values.now (omega (arith, ap (λ (t : Totals). t.vars) c.totals-in-4.ensures))

pub returns-in-4 : goal.returns-in-4
returns-in-4 c = of_group (code_in c.args.valued.table.cells.now) c.in-4.is c.args.a (value_in c.args.valued.values.now) (c.next_holds.ensures ∙ next_item (told c.args.valued.table.ready c.totals-in-4.ensures) (value_in c.args.valued.values.now) c.args.a c.requires.2 (in_group (code_in c.args.valued.table.cells.now) c.in-4.is c.args.a c.requires.3))

pub zero_holds-requires : goal.zero_holds-requires
zero_holds-requires c = zero_asks (told c.args.valued.table.ready c.totals.ensures) c.requires.2 (in_group (code_in c.args.valued.table.cells.now) c.in-3.is c.args.a c.requires.3) c.args.valued.values.now (omega (arith, ap (λ (t : Totals). t.vars) c.totals.ensures))

pub returns-in-3 : goal.returns-in-3
returns-in-3 c = of_group (code_in c.args.valued.table.cells.now) c.in-3.is c.args.a (value_in c.args.valued.values.now) (c.zero_holds.ensures ∙ zero_item (told c.args.valued.table.ready c.totals.ensures) (value_in c.args.valued.values.now) c.args.a c.requires.2 (in_group (code_in c.args.valued.table.cells.now) c.in-3.is c.args.a c.requires.3))

pub body_item-requires : goal.body_item-requires
body_item-requires c = (c.requires.2, in_group (code_in c.args.valued.table.cells.now) c.in-1.is c.args.a c.requires.3)

pub returns-in-1 : goal.returns-in-1
returns-in-1 c = of_group (code_in c.args.valued.table.cells.now) c.in-1.is c.args.a (value_in c.args.valued.values.now) c.body_item.ensures

pub rule_item-requires : goal.rule_item-requires
rule_item-requires c = (c.requires.2, in_group (code_in c.args.valued.table.cells.now) c.in-6.is c.args.a c.requires.3)

pub returns-in-6 : goal.returns-in-6
returns-in-6 c = of_group (code_in c.args.valued.table.cells.now) c.in-6.is c.args.a (value_in c.args.valued.values.now) c.rule_item.ensures

pub head_holds-requires : goal.head_holds-requires
head_holds-requires c = (c.requires.2, head_asks (arrays c.args.valued.table.ready) (in_group (code_in c.args.valued.table.cells.now) c.in-2.is c.args.a c.requires.3))

pub returns-in-2 : goal.returns-in-2
returns-in-2 c = of_group (code_in c.args.valued.table.cells.now) c.in-2.is c.args.a (value_in c.args.valued.values.now) (c.head_holds.ensures ∙ head_item (code_in c.args.valued.table.cells.now) (value_in c.args.valued.values.now) c.args.a)

pub founded_holds-requires : goal.founded_holds-requires
founded_holds-requires c =
    let e : c.args.g ≡ 7 = omega arith in
    (c.requires.2, founded_asks (arrays c.args.valued.table.ready) (in_group (code_in c.args.valued.table.cells.now) e c.args.a c.requires.3))

pub returns-in_default : goal.returns-in_default
returns-in_default c =
    let e : c.args.g ≡ 7 = omega arith in
    of_group (code_in c.args.valued.table.cells.now) e c.args.a (value_in c.args.valued.values.now)
    (c.founded_holds.ensures ∙ founded_item (code_in c.args.valued.table.cells.now) (value_in c.args.valued.values.now) c.args.a)
