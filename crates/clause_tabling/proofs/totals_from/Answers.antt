use mathlib.Core.Path.{◌∙◌}
use Rattle.clause_tabling.proofs.Totals.{width_bounded, sizes_bounded, tallied_by}
use Rattle.clause_tabling.proofs.totals_from.Goals as goal

pub invariant_of-sizes : goal.invariant_of-sizes
invariant_of-sizes c = let r = c.requires in sizes_bounded _ _ _ r.0 r.1 c.width_of.ensures

pub clause_count-c-requires : goal.clause_count-c-requires
clause_count-c-requires c = let r = c.requires in let w = width_bounded _ _ r.0 c.width_of.ensures in (r.0, r.1, w.0, w.1, r.2, r.3, r.4)

pub returns-clause-is : goal.returns-clause-is
returns-clause-is c = tallied_by _ _ _ _ _ _ _ c.width_of.ensures (c.from.ensures ∙ c.var_count.ensures) (c.from-2.ensures ∙ c.clause_count-c.ensures)
