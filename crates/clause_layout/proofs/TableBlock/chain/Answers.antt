use Rattle.clause_layout.proofs.Groups.{pair_fits, pair_asks}
use Rattle.clause_layout.proofs.BlockChains.{chain_pair, block_five}
use Rattle.clause_table_laws.proofs.Cells.{told, arrays}
use Rattle.clause_layout.proofs.TableBlock.chain.Goals as goal

pub pair_body-b-requires : goal.pair_body-b-requires
pair_body-b-requires c = (c.args.self.stands.item_some, pair_fits (arrays c.args.self.table.ready) c.args.self.stands c.requires)

pub pair_head-h-requires : goal.pair_head-h-requires
pair_head-h-requires c = (c.args.self.stands.item_some, pair_fits (arrays c.args.self.table.ready) c.args.self.stands c.requires)

pub chain_of-requires : goal.chain_of-requires
chain_of-requires c = pair_asks (told c.args.self.table.ready c.totals-t.ensures) c.args.self.stands c.requires c.pair_body-b.ensures c.pair_head-h.ensures

pub returns : goal.returns
returns c = chain_pair (told c.args.self.table.ready c.totals-t.ensures) (block_five c.args.self.stands c.requires) c.pair_body-b.ensures c.pair_head-h.ensures c.chain_of.ensures
