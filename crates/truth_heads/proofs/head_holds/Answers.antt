use Rattle.truth_heads.proofs.SupportLaws.{atom_in, head_all}
use Rattle.truth_literals.specs.Values.{value_in}
use Rattle.clause_tables.specs.Tables.{code_in}
use Rattle.truth_heads.proofs.head_holds.Goals as goal

pub stands-requires : goal.stands-requires
stands-requires c = atom_in c.args.valued.table.ready c.from.ensures c.requires.0 c.requires.1 c.args.valued.long

pub returns : goal.returns
returns c = head_all (code_in c.args.valued.table.cells.now) (value_in c.args.valued.values.now) c.args.a.0 c.from.ensures c.stands.ensures c.support_of-x.ensures
