use mathlib.Core.Path.{◌∙◌}
use Rattle.clause_table_laws.proofs.Cells.{arrays}
use Rattle.level_lists.proofs.Rules.{rule_atoms}
use Rattle.level_fill.proofs.Families.{body_unmet, body_is}
use Rattle.level_fill.proofs.body_true.Goals as goal

pub returns-else-positives_in : goal.returns-else-positives_in
returns-else-positives_in c =
    c.if-positives_in.false
    ∙ body_unmet (rule_atoms (arrays c.args.r.atoms.table.ready) c.args.r.rule.0 c.args.r.some c.args.r.within) c.args.r.atoms.bytes.now c.positives_in.ensures c.if-positives_in.false

pub returns-then-positives_in : goal.returns-then-positives_in
returns-then-positives_in c = body_is (rule_atoms (arrays c.args.r.atoms.table.ready) c.args.r.rule.0 c.args.r.some c.args.r.within) c.args.r.atoms.bytes.now c.positives_in.ensures c.if-positives_in.true c.negatives_out.ensures
