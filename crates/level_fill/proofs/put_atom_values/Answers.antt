use mathlib.Core.Path.{◌∙◌, ap}
use native.Mathlib.Omega.{arith}
use Rattle.clause_tables.specs.declared.Totals.{Totals}
use Rattle.encoding.specs.Variables.{Sizes}
use Rattle.level_lists.specs.Sets.{atoms_of, set_of}
use Rattle.level_fill.proofs.Families.{truths_long}
use Rattle.level_fill.proofs.put_atom_values.Goals as goal

pub put_truths-requires : goal.put_truths-requires
put_truths-requires c =
    let e = ap (λ (s : Sizes). s.n) c.s.view_is ∙ ap (λ (t : Totals). t.sizes.n) c.totals-s.ensures in
    (λ k p h. (p, omega (arith, h, e, c.args.set.long)), truths_long (atoms_of c.args.set) (set_of c.args.set) _ e c.requires)
