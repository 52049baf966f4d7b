use borrow.Author.Rules.{rules}
use mathlib.Core.Path.{◌∙◌, ap}
use native.Mathlib.Omega.{arith}
use Rattle.clause_table_laws.proofs.Cells.{arrays}
use Rattle.clause_tables.specs.declared.Totals.{Totals}
use Rattle.encoding.specs.Variables.{Sizes}
use Rattle.level_lists.specs.Sets.{code_of, set_of}
use Rattle.level_lists.specs.Bytes.{level_byte}
use Rattle.level_fill.specs.Values.{founds_at}
use Rattle.level_fill.proofs.Families.{rules_of, truths_long, truths_as}
use Rattle.level_fill.proofs.put_founds.Goals as goal

pub put_truths-requires : goal.put_truths-requires
put_truths-requires c =
    let e = ap (λ (s : Sizes). s.m) c.s.view_is ∙ ap (λ (t : Totals). t.sizes.m) c.totals-s.ensures in
    (λ k p h. (p, omega (arith, h, e), c.requires.0), truths_long _ (founds_at (code_of c.args.set) (set_of c.args.set) (level_byte c.args.levels.now)) _ (rules_of (arrays c.args.set.table.ready) e) c.requires.1)

pub returns : goal.returns
returns c =
    let p = founds_at (code_of c.args.set) (set_of c.args.set) (level_byte c.args.levels.now) in
    truths_as p (rules_of (arrays c.args.set.table.ready) (ap (λ (s : Sizes). s.m) c.s.view_is ∙ ap (λ (t : Totals). t.sizes.m) c.totals-s.ensures))
    (c.put_truths.ensures p (λ k b l h q. search rules))
