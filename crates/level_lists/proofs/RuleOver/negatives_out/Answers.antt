use Rattle.clause_table_laws.proofs.Cells.{arrays}
use Rattle.lists.specs.Lists.{all}
use Rattle.level_lists.specs.Bytes.{is_within}
use Rattle.level_lists.proofs.Rules.{list_asked}
use Rattle.level_lists.proofs.Lists.{none_within}
use native.Mathlib.Omega.{arith}
use mathlib.Core.Path.{◌∙◌, ap}
use Rattle.level_lists.proofs.RuleOver.negatives_out.Goals as goal

pub all_within-requires : goal.all_within-requires
all_within-requires c = list_asked (arrays c.args.self.atoms.table.ready) c.args.self.rule.0 c.args.self.some c.args.self.within 1 (omega arith) c.args.self.atoms.bytes.now c.args.self.atoms.long c.list.ensures

pub returns : goal.returns
returns c = c.all_within.ensures ∙ ap (all (is_within c.args.self.atoms.bytes.now 0 1)) c.list.ensures ∙ none_within c.args.self.atoms.bytes.now _
