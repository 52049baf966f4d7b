use borrow.Author.Rules.{rules}
use mathlib.Core.Path.{◌∙◌, ap}
use native.Mathlib.Omega.{arith}
use Rattle.clause_table_laws.proofs.Cells.{arrays}
use Rattle.clause_tables.specs.declared.Totals.{Totals}
use Rattle.encoding.specs.Variables.{Sizes}
use Rattle.level_lists.specs.Sets.{code_of, set_of}
use Rattle.level_fill.specs.Values.{body_at}
use Rattle.level_fill.proofs.Families.{rules_of, truths_long, truths_as}
use Rattle.level_fill.proofs.put_bodies.Goals as goal

pub put_truths-requires : goal.put_truths-requires
put_truths-requires c =
    let e = ap (λ (s : Sizes). s.m) c.s.view_is ∙ ap (λ (t : Totals). t.sizes.m) c.totals-s.ensures in
    (λ k p h. (p, omega (arith, h, e)), truths_long _ (body_at (code_of c.args.set) (set_of c.args.set)) _ (rules_of (arrays c.args.set.table.ready) e) c.requires)

pub returns : goal.returns
returns c =
    let p = body_at (code_of c.args.set) (set_of c.args.set) in
    truths_as p (rules_of (arrays c.args.set.table.ready) (ap (λ (s : Sizes). s.m) c.s.view_is ∙ ap (λ (t : Totals). t.sizes.m) c.totals-s.ensures))
    (c.put_truths.ensures p (λ k b l h q. search rules))
