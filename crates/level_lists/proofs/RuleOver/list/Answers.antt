use Rattle.level_lists.proofs.Rules.{rule_fits_lem, list_part}
use Rattle.clause_table_laws.proofs.Cells.{arrays}
use native.Mathlib.Omega.{arith}
use mathlib.Core.Path.{◌∙◌}
use Rattle.level_lists.proofs.RuleOver.list.Goals as goal

pub list_start-first-requires : goal.list_start-first-requires
list_start-first-requires c = (c.args.self.some, omega (arith, c.requires, rule_fits_lem (arrays c.args.self.atoms.table.ready) c.args.self.rule.0 c.args.self.some c.args.self.within))

pub list_start-end-requires : goal.list_start-end-requires
list_start-end-requires c = (c.args.self.some, omega (arith, c.requires, rule_fits_lem (arrays c.args.self.atoms.table.ready) c.args.self.rule.0 c.args.self.some c.args.self.within))

pub body-requires : goal.body-requires
body-requires c =
    let q = list_part (arrays c.args.self.atoms.table.ready) c.args.self.rule.0 c.args.self.some c.args.self.within c.args.k c.requires c.list_start-first.ensures c.list_start-end.ensures in
    (q.up, q.short)

pub returns : goal.returns
returns c =
    c.body.ensures
    ∙ (list_part (arrays c.args.self.atoms.table.ready) c.args.self.rule.0 c.args.self.some c.args.self.within c.args.k c.requires c.list_start-first.ensures c.list_start-end.ensures).list_is
