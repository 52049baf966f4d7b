use Rattle.clause_runs.proofs.Steps.{item_asks, item_many, item_taken}
use Rattle.clause_counts.proofs.Sized.{width_asks}
use Rattle.clause_table_laws.proofs.Cells.{arrays, opened}
use Rattle.clause_tables.specs.declared.Totals.{Totals}
use mathlib.Core.Path.{◌∙◌, ap}
use Rattle.encoding.specs.Variables.{Sizes}
use Rattle.clause_runs.proofs.put_whole_item.Goals as goal

pub fixed_size-k-requires : goal.fixed_size-k-requires
fixed_size-k-requires c = width_asks (opened c.args.line.table.ready c.s.view_is c.totals-s.ensures) c.from.ensures

pub put_item-bytes-requires : goal.put_item-bytes-requires
put_item-bytes-requires c = item_asks (arrays c.args.line.table.ready) c.args.line.stands c.args.line.within c.requires.0 c.requires.1 c.requires.2 c.requires.3

pub after_item-requires : goal.after_item-requires
after_item-requires c = (c.requires.0, c.requires.1, c.requires.2, item_many (arrays c.args.line.table.ready) c.args.line.stands c.args.line.within c.requires.0 c.requires.1 c.requires.2 (c.from.ensures ∙ ap (λ (s : Sizes). s.w) c.s.view_is ∙ ap (λ (t : Totals). t.sizes.w) c.totals-s.ensures) c.fixed_size-k.ensures)

pub returns : goal.returns
returns c = item_taken (arrays c.args.line.table.ready) c.args.line.stands c.args.line.within c.requires.0 c.requires.1 c.requires.2 (item_many (arrays c.args.line.table.ready) c.args.line.stands c.args.line.within c.requires.0 c.requires.1 c.requires.2 (c.from.ensures ∙ ap (λ (s : Sizes). s.w) c.s.view_is ∙ ap (λ (t : Totals). t.sizes.w) c.totals-s.ensures) c.fixed_size-k.ensures) c.args.buf.now c.requires.3 c.put_item-bytes.ensures c.after_item.ensures
