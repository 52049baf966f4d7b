use native.Mathlib.Omega.{arith}
use mathlib.Core.Path.{sym, ◌∙◌}
use Rattle.clause_finding.proofs.Coded.{even_some, even_fits, item_even, left_2, falls_2}
use Rattle.clause_counts.proofs.Sized.{width_asks}
use Rattle.clause_table_laws.proofs.Cells.{arrays, opened}
use Rattle.clause_finding.proofs.find_item.Goals as goal

pub fixed_size-k-requires : goal.fixed_size-k-requires
fixed_size-k-requires c = width_asks (opened c.args.table.ready c.s.view_is c.totals-s.ensures) c.from.ensures

pub nonzero_div-q : goal.nonzero_div-q
nonzero_div-q c = even_some (opened c.args.table.ready c.s.view_is c.totals-s.ensures) c.args.g c.requires.0 c.requires.1 (sym c.is_fixed.ensures ∙ c.if-is_fixed.true) c.requires.2 c.from.ensures c.fixed_size-k.ensures

pub overflow_cast-result : goal.overflow_cast-result
overflow_cast-result c = omega (arith, even_fits (opened c.args.table.ready c.s.view_is c.totals-s.ensures) c.args.g c.requires.0 c.requires.1 (sym c.is_fixed.ensures ∙ c.if-is_fixed.true) c.requires.2 c.from.ensures c.fixed_size-k.ensures)

pub overflow_add-result : goal.overflow_add-result
overflow_add-result c = omega (arith, even_fits (opened c.args.table.ready c.s.view_is c.totals-s.ensures) c.args.g c.requires.0 c.requires.1 (sym c.is_fixed.ensures ∙ c.if-is_fixed.true) c.requires.2 c.from.ensures c.fixed_size-k.ensures)

pub nonzero_rem-result : goal.nonzero_rem-result
nonzero_rem-result c = even_some (opened c.args.table.ready c.s.view_is c.totals-s.ensures) c.args.g c.requires.0 c.requires.1 (sym c.is_fixed.ensures ∙ c.if-is_fixed.true) c.requires.2 c.from.ensures c.fixed_size-k.ensures

pub returns-then-is_fixed : goal.returns-then-is_fixed
returns-then-is_fixed c = item_even (opened c.args.table.ready c.s.view_is c.totals-s.ensures) c.args.g c.requires.0 c.requires.1 (sym c.is_fixed.ensures ∙ c.if-is_fixed.true) c.requires.2 c.from.ensures c.fixed_size-k.ensures

pub find_atom-requires : goal.find_atom-requires
find_atom-requires c = (left_2 (arrays c.args.table.ready) c.if-g-eq2.true c.requires.2)

pub returns-then-g-eq2 : goal.returns-then-g-eq2
returns-then-g-eq2 c = falls_2 (arrays c.args.table.ready) c.if-g-eq2.true c.find_atom.ensures

pub find_rule-requires : goal.find_rule-requires
find_rule-requires c = (c.requires.0, c.requires.1, sym c.is_fixed.ensures ∙ c.if-is_fixed.false, c.if-g-eq2.false, c.requires.2)

pub returns : goal.returns
returns c = c.find_rule.ensures
