use borrow.Author.Rules.{rules}
use mathlib.Core.Path.{◌≡◌, ◌∙◌, ap}
use Rattle.encoding.specs.Variables.{Sizes}
use native.Mathlib.Omega.{arith}
use Rattle.clause_counts.proofs.Sized.{sizes_in, width_asks, group_1, group_2, group_rest, product_fits}
use Rattle.clause_table_laws.proofs.Cells.{told, opened}
use Rattle.clause_counts.proofs.group_size.Goals as goal

pub bodies_size-requires : goal.bodies_size-requires
bodies_size-requires c = ((sizes_in (opened c.args.table.ready c.s.view_is c.totals-t.ensures)).rules)

pub returns-in-1 : goal.returns-in-1
returns-in-1 c = group_1 (opened c.args.table.ready c.s.view_is c.totals-t.ensures) c.args.g c.in-1.is c.bodies_size.ensures

pub returns-in-2 : goal.returns-in-2
returns-in-2 c = group_2 (opened c.args.table.ready c.s.view_is c.totals-t.ensures) c.args.g c.in-2.is c.from.ensures c.from-in-2.ensures

pub fixed_size-requires : goal.fixed_size-requires
fixed_size-requires c = width_asks (opened c.args.table.ready c.s.view_is c.totals-t.ensures) c.from-in_default-2.ensures

pub overflow_mul-result : goal.overflow_mul-result
overflow_mul-result c = omega (arith, product_fits (told c.args.table.ready c.totals-t.ensures) c.args.g c.items.ensures c.from-in_default.ensures (c.from-in_default-2.ensures ∙ ap (λ (s : Sizes). s.w) c.s.view_is) c.fixed_size.ensures)

pub returns-in_default : goal.returns-in_default
returns-in_default c =
    let not_1 : c.args.g ≡ 1 → ⊥ = search rules in
    let not_2 : c.args.g ≡ 2 → ⊥ = search rules in
    group_rest (told c.args.table.ready c.totals-t.ensures) c.args.g c.items.ensures c.from-in_default.ensures (c.from-in_default-2.ensures ∙ ap (λ (s : Sizes). s.w) c.s.view_is) c.fixed_size.ensures c.requires.0 c.requires.1 not_1 not_2
