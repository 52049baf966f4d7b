use Rattle.clause_table_laws.proofs.Cells.{arrays}
use Rattle.clause_tables.specs.declared.Totals.{Totals}
use Rattle.encoding.specs.Variables.{Sizes}
use Rattle.clause_tables.specs.Tables.{atoms_in}
use Rattle.level_stages.proofs.Scans.{filled_front, front_long}
use Rattle.level_stages.proofs.Turns.{zeroed}
use borrow.Author.Rules.{rules}
use mathlib.Core.Path.{◌∙◌, ap}
use Rattle.level_stages.proofs.stage_levels.Goals as goal

pub rounds-requires : goal.rounds-requires
rounds-requires c =
    let q = filled_front c.args.levels.now (c.from.ensures ∙ ap (λ (s : Sizes). s.n) c.s.view_is ∙ ap (λ (t : Totals). t.sizes.n) c.totals-s.ensures) c.requires (c.fill.ensures.after (λ y h. search rules)) in
    (front_long (atoms_in c.args.set.table.cells.now) _ q, zeroed (arrays c.args.set.table.ready) c.args.set.bytes.now c.args.levels.now q)
