use Prim.Native.Nat.{ℕ}
use mathlib.Core.List.{List}
use Rattle.clause_table_laws.proofs.Cells.{arrays}
use Rattle.lists.specs.Lists.{all}
use Rattle.level_lists.specs.Bytes.{is_within}
use Rattle.level_lists.proofs.Rules.{list_asked}
use Rattle.level_lists.proofs.Lists.{below_within}
use native.Mathlib.Omega.{arith}
use mathlib.Core.Path.{◌∙◌, ap₂}
use Rattle.level_lists.proofs.RuleOver.positives_below.Goals as goal

pub all_within-requires : goal.all_within-requires
all_within-requires c = list_asked (arrays c.args.self.atoms.table.ready) c.args.self.rule.0 c.args.self.some c.args.self.within 0 (omega arith) c.args.levels.now c.requires c.list.ensures

pub returns : goal.returns
returns c = c.all_within.ensures ∙ ap₂ (λ (y : ℕ) (bs : List ℕ). all (is_within c.args.levels.now 0 y) bs) c.from.ensures c.list.ensures ∙ below_within c.args.levels.now _ c.args.y
