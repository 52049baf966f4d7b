use Rattle.clause_table_laws.proofs.Cells.{arrays}
use Rattle.clause_tables.specs.Tables.{totals_in}
use Rattle.level_lists.specs.Bytes.{set_in}
use Rattle.level_lists.proofs.Rules.{rule_fits_lem, head_fits, its_head_is}
use Rattle.level_fill.proofs.Families.{founds_is}
use Rattle.level_fill.proofs.rule_founds.Goals as goal

pub head-h-requires : goal.head-h-requires
head-h-requires c = (c.args.r.some, rule_fits_lem (arrays c.args.r.atoms.table.ready) c.args.r.rule.0 c.args.r.some c.args.r.within)

pub byte_of-y-requires : goal.byte_of-y-requires
byte_of-y-requires c = head_fits (arrays c.args.r.atoms.table.ready) c.args.r.rule.0 c.args.r.some c.args.r.within c.args.levels.now c.requires c.head-h.ensures

pub returns-then-body_true : goal.returns-then-body_true
returns-then-body_true c = founds_is (arrays c.args.r.atoms.table.ready) (set_in (totals_in c.args.r.atoms.table.cells.now).sizes.n c.args.r.atoms.bytes.now) c.args.levels.now c.args.r.rule.0 c.body_true.ensures c.if-body_true.true (its_head_is (arrays c.args.r.atoms.table.ready) c.args.r.rule.0 c.args.r.some c.args.r.within c.head-h.ensures) c.byte_of-y.ensures c.positives_below.ensures
