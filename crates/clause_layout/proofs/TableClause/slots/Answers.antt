use Rattle.clause_layout.proofs.Groups.{rule1, rule6, bits4, bounded, span_asks, span_fits1, span_fits2, slots_body, slots_supported, slots_implied, slots_zero, slots_next, slots_pair, slots_rule, slots_last}
use Rattle.clause_table_laws.proofs.Cells.{told, opened, arrays}
use native.Mathlib.Omega.{arith}
use Rattle.clause_layout.proofs.TableClause.slots.Goals as goal

pub span-requires : goal.span-requires
span-requires c = span_asks (arrays c.args.self.block.table.ready) c.args.self.stands.block_at (rule1 (arrays c.args.self.block.table.ready) c.args.self.stands.block_at c.in-1.is) _ (omega arith)

pub body_slots-requires : goal.body_slots-requires
body_slots-requires c = let t = told c.args.self.block.table.ready c.totals-s.ensures in span_fits2 t c.args.self.stands.block_at (rule1 t c.args.self.stands.block_at c.in-1.is) c.span.ensures

pub returns-in-1 : goal.returns-in-1
returns-in-1 c = slots_body (told c.args.self.block.table.ready c.totals-s.ensures) c.args.self.stands c.in-1.is c.span.ensures c.body_slots.ensures

pub overflow_add-result : goal.overflow_add-result
overflow_add-result c = omega (arith, (bounded (told c.args.self.block.table.ready c.totals-s.ensures)).rules)

pub returns-in-2 : goal.returns-in-2
returns-in-2 c = slots_supported (opened c.args.self.block.table.ready c.s.view_is c.totals-s.ensures) c.args.self.stands c.in-2.is c.if-s-i.true

pub returns-in-2-2 : goal.returns-in-2-2
returns-in-2-2 c = slots_implied (opened c.args.self.block.table.ready c.s.view_is c.totals-s.ensures) c.args.self.stands c.in-2.is c.if-s-i.false

pub returns-in-3 : goal.returns-in-3
returns-in-3 c = slots_zero (told c.args.self.block.table.ready c.totals-s.ensures) c.args.self.stands c.in-3.is

pub next_slots-requires : goal.next_slots-requires
next_slots-requires c = (bits4 (told c.args.self.block.table.ready c.totals-s.ensures) c.args.self.stands.block_at c.in-4.is, c.args.self.stands.clause_some)

pub returns-in-4 : goal.returns-in-4
returns-in-4 c = slots_next (told c.args.self.block.table.ready c.totals-s.ensures) c.args.self.stands c.in-4.is c.next_slots.ensures

pub returns-in-5 : goal.returns-in-5
returns-in-5 c = slots_pair (opened c.args.self.block.table.ready c.s.view_is c.totals-s.ensures) c.args.self.stands c.in-5.is c.chain_bit.ensures c.chain_slots.ensures

pub span-requires-in-6 : goal.span-requires-in-6
span-requires-in-6 c = span_asks (arrays c.args.self.block.table.ready) c.args.self.stands.block_at (rule6 (arrays c.args.self.block.table.ready) c.args.self.stands.block_at c.in-6.is) _ (omega arith)

pub rule_slots-requires : goal.rule_slots-requires
rule_slots-requires c = let t = told c.args.self.block.table.ready c.totals-s.ensures in span_fits1 t c.args.self.stands.block_at (rule6 t c.args.self.stands.block_at c.in-6.is) c.span-in-6.ensures

pub returns-in-6 : goal.returns-in-6
returns-in-6 c = slots_rule (told c.args.self.block.table.ready c.totals-s.ensures) c.args.self.stands c.in-6.is c.span-in-6.ensures c.rule_slots.ensures

pub overflow_add-result-in_default : goal.overflow_add-result-in_default
overflow_add-result-in_default c = omega (arith, (bounded (told c.args.self.block.table.ready c.totals-s.ensures)).rules)

pub returns-in_default : goal.returns-in_default
returns-in_default c = slots_last (opened c.args.self.block.table.ready c.s.view_is c.totals-s.ensures) c.args.self.stands (record { not1 = λ e. omega (arith, e); not2 = λ e. omega (arith, e); not3 = λ e. omega (arith, e); not4 = λ e. omega (arith, e); not5 = λ e. omega (arith, e); not6 = λ e. omega (arith, e) })
