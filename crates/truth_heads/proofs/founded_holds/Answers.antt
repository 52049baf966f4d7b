use Rattle.truth_heads.proofs.SupportLaws.{atom_in, founded_all}
use Rattle.truth_literals.specs.Values.{value_in}
use Rattle.clause_tables.specs.Tables.{code_in}
use Rattle.truth_heads.proofs.founded_holds.Goals as goal

pub stands-requires : goal.stands-requires
stands-requires c = atom_in c.args.valued.table.ready c.from.ensures c.requires.0 c.requires.1 c.args.valued.long

pub returns : goal.returns
returns c = founded_all (code_in c.args.valued.table.cells.now) (value_in c.args.valued.values.now) c.args.a.0 c.from.ensures c.stands.ensures c.support_of.ensures
