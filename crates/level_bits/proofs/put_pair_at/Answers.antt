use mathlib.Core.Path.{◌∙◌}
use Rattle.level_bits.proofs.Pairs.{chains_room, pair_fits, partner_fits, owner_fits, pair_row}
use Rattle.clause_table_laws.proofs.Cells.{arrays}
use Rattle.digits.proofs.Wrote.{wrote_as}
use borrow.Author.Rules.{rules}
use Rattle.level_bits.proofs.put_pair_at.Goals as goal

pub pair_body-requires : goal.pair_body-requires
pair_body-requires c = (c.requires.0, pair_fits (arrays c.args.levels.table.ready) c.args.k.0 c.requires.0 c.requires.1)

pub byte_of-requires : goal.byte_of-requires
byte_of-requires c = partner_fits (arrays c.args.levels.table.ready) c.args.k.0 c.requires.0 c.requires.1 c.args.levels.bytes.now c.args.levels.long c.pair_body.ensures

pub pair_head-requires : goal.pair_head-requires
pair_head-requires c = (c.requires.0, pair_fits (arrays c.args.levels.table.ready) c.args.k.0 c.requires.0 c.requires.1)

pub byte_of-requires-2 : goal.byte_of-requires-2
byte_of-requires-2 c = owner_fits (arrays c.args.levels.table.ready) c.args.k.0 c.requires.0 c.requires.1 c.args.levels.bytes.now c.args.levels.long c.pair_head.ensures

pub put_pair_values-requires : goal.put_pair_values-requires
put_pair_values-requires c = (search rules, chains_room c.args.w _ _ _ _ c.requires.2)

pub returns : goal.returns
returns c = wrote_as (pair_row (arrays c.args.levels.table.ready) c.args.k.0 c.requires.0 c.requires.1 c.args.w c.args.levels.bytes.now c.pair_body.ensures (c.from-x.ensures ∙ c.byte_of.ensures) c.pair_head.ensures (c.from-y.ensures ∙ c.byte_of-2.ensures)) c.put_pair_values.ensures
