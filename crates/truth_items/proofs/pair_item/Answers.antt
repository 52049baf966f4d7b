use Rattle.truth_levels.proofs.LevelItems.{pair_fits, pair_item, pair_asks}
use Rattle.truth_literals.specs.Values.{value_in}
use Rattle.clause_table_laws.proofs.Cells.{arrays, told}
use Rattle.clause_tables.specs.declared.Totals.{Totals}
use mathlib.Core.Path.{◌∙◌, ap}
use native.Mathlib.Omega.{arith}
use Rattle.truth_items.proofs.pair_item.Goals as goal

pub pair_body-b-requires : goal.pair_body-b-requires
pair_body-b-requires c = (c.requires.0, pair_fits (arrays c.args.valued.table.ready) c.requires.1)

pub pair_head-h-requires : goal.pair_head-h-requires
pair_head-h-requires c = (c.requires.0, pair_fits (arrays c.args.valued.table.ready) c.requires.1)

pub pair_holds-requires : goal.pair_holds-requires
pair_holds-requires c = pair_asks (told c.args.valued.table.ready c.totals.ensures) c.requires.0 c.requires.1 c.pair_body-b.ensures c.pair_head-h.ensures c.args.valued.values.now (omega (arith, ap (λ (t : Totals). t.vars) c.totals.ensures))

pub returns : goal.returns
returns c = c.pair_holds.ensures ∙ pair_item (told c.args.valued.table.ready c.totals.ensures) c.requires.0 c.requires.1 c.pair_body-b.ensures c.pair_head-h.ensures (value_in c.args.valued.values.now)
