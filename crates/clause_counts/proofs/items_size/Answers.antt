use Rattle.clause_counts.proofs.Before.{fixed_front, fixed_short, atoms_front}
use Rattle.clause_counts.proofs.Sized.{sizes_in, width_asks}
use Rattle.clause_table_laws.proofs.Cells.{opened}
use native.Mathlib.Omega.{arith}
use mathlib.Core.Path.{sym, ◌∙◌}
use Rattle.clause_counts.proofs.items_size.Goals as goal

pub fixed_size-requires : goal.fixed_size-requires
fixed_size-requires c = width_asks (opened c.args.table.ready c.s.view_is c.totals-s.ensures) c.from-then-is_fixed.ensures

pub overflow_mul-result : goal.overflow_mul-result
overflow_mul-result c = let T = opened c.args.table.ready c.s.view_is c.totals-s.ensures in omega (arith, fixed_short T c.args.g c.requires.0 c.requires.1 (sym c.is_fixed.ensures ∙ c.if-is_fixed.true) c.args.a c.requires.2 c.from.ensures c.from-then-is_fixed.ensures c.fixed_size.ensures)

pub returns-then-is_fixed : goal.returns-then-is_fixed
returns-then-is_fixed c = let T = opened c.args.table.ready c.s.view_is c.totals-s.ensures in fixed_front T c.args.g c.requires.0 c.requires.1 (sym c.is_fixed.ensures ∙ c.if-is_fixed.true) c.args.a c.requires.2 c.from.ensures c.from-then-is_fixed.ensures c.fixed_size.ensures

pub atoms_size-requires : goal.atoms_size-requires
atoms_size-requires c = ((sizes_in (opened c.args.table.ready c.s.view_is c.totals-s.ensures)).rules)

pub returns-then-g-eq2 : goal.returns-then-g-eq2
returns-then-g-eq2 c = atoms_front (opened c.args.table.ready c.s.view_is c.totals-s.ensures) c.if-g-eq2.true c.args.a c.atoms_size.ensures

pub rules_size-requires : goal.rules_size-requires
rules_size-requires c = (c.requires.0, c.requires.1, sym c.is_fixed.ensures ∙ c.if-is_fixed.false, c.if-g-eq2.false, c.requires.2)
