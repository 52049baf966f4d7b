use Rattle.clause_table_laws.proofs.Cells.{arrays}
use Rattle.level_lists.proofs.Rules.{list_asked}
use native.Mathlib.Omega.{arith}
use Rattle.level_lists.proofs.RuleOver.positives_in.Goals as goal

pub all_in-requires : goal.all_in-requires
all_in-requires c = list_asked (arrays c.args.self.atoms.table.ready) c.args.self.rule.0 c.args.self.some c.args.self.within 0 (omega arith) c.args.self.atoms.bytes.now c.args.self.atoms.long c.list.ensures
