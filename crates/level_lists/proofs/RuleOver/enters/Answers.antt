use Prim.Native.Nat.{ℕ}
use mathlib.Core.List.{List}
use Rattle.clause_table_laws.proofs.Cells.{arrays}
use Rattle.lists.specs.Lists.{all}
use Rattle.level_lists.specs.Bytes.{is_within}
use Rattle.level_lists.proofs.Rules.{rule_atoms, list_asked, enters_not_kept, enters_is}
use native.Mathlib.Omega.{arith}
use mathlib.Core.Path.{◌∙◌, ap₂}
use Rattle.level_lists.proofs.RuleOver.enters.Goals as goal

pub all_within-requires : goal.all_within-requires
all_within-requires c = list_asked (arrays c.args.self.atoms.table.ready) c.args.self.rule.0 c.args.self.some c.args.self.within 0 (omega arith) c.args.levels.now c.requires c.list.ensures

pub returns-else-negatives_out : goal.returns-else-negatives_out
returns-else-negatives_out c =
    c.if-negatives_out.false
    ∙ enters_not_kept (rule_atoms (arrays c.args.self.atoms.table.ready) c.args.self.rule.0 c.args.self.some c.args.self.within) c.args.self.atoms.bytes.now c.args.levels.now c.args.i c.negatives_out.ensures c.if-negatives_out.false

pub returns-then-negatives_out : goal.returns-then-negatives_out
returns-then-negatives_out c =
    enters_is (rule_atoms (arrays c.args.self.atoms.table.ready) c.args.self.rule.0 c.args.self.some c.args.self.within) c.args.self.atoms.bytes.now c.args.levels.now c.args.i c.negatives_out.ensures c.if-negatives_out.true
    (c.all_within.ensures ∙ ap₂ (λ (i : ℕ) (bs : List ℕ). all (is_within c.args.levels.now 1 i) bs) c.from.ensures c.list.ensures)
