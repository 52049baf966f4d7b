use Rattle.clause_layout.proofs.Groups.{rule1, rule6, bits4, bounded, span_asks, span_fits1, starts_fit, size_body, size_implied, size_zero, size_next, size_pair, size_rule, size_last}
use native.Mathlib.Omega.{arith}
use Rattle.clause_table_laws.proofs.Cells.{told, opened, arrays}
use Rattle.clause_layout.proofs.TableBlock.size.Goals as goal

pub span-requires : goal.span-requires
span-requires c = span_asks (arrays c.args.self.table.ready) c.args.self.stands (rule1 (arrays c.args.self.table.ready) c.args.self.stands c.in-1.is) _ (omega arith)

pub overflow_add-result : goal.overflow_add-result
overflow_add-result c = let t = told c.args.self.table.ready c.totals-s.ensures in omega (arith, starts_fit t c.args.self.stands (rule1 t c.args.self.stands c.in-1.is), c.span.ensures)

pub returns-in-1 : goal.returns-in-1
returns-in-1 c = size_body (told c.args.self.table.ready c.totals-s.ensures) c.args.self.stands c.in-1.is c.span.ensures

pub implied_size-requires : goal.implied_size-requires
implied_size-requires c = ((bounded (opened c.args.self.table.ready c.s.view_is c.totals-s.ensures)).rules, c.args.self.stands.block_some)

pub returns-in-2 : goal.returns-in-2
returns-in-2 c = size_implied (opened c.args.self.table.ready c.s.view_is c.totals-s.ensures) c.args.self.stands c.in-2.is c.implied_size.ensures

pub returns-in-3 : goal.returns-in-3
returns-in-3 c = size_zero (opened c.args.self.table.ready c.s.view_is c.totals-s.ensures) c.args.self.stands c.in-3.is

pub overflow_mul-result : goal.overflow_mul-result
overflow_mul-result c = omega (arith, bits4 (told c.args.self.table.ready c.totals-s.ensures) c.args.self.stands c.in-4.is)

pub returns-in-4 : goal.returns-in-4
returns-in-4 c = size_next (told c.args.self.table.ready c.totals-s.ensures) c.args.self.stands c.in-4.is

pub returns-in-5 : goal.returns-in-5
returns-in-5 c = size_pair (opened c.args.self.table.ready c.s.view_is c.totals-s.ensures) c.args.self.stands c.in-5.is c.chain_bit.ensures c.chain_size.ensures

pub span-requires-in-6 : goal.span-requires-in-6
span-requires-in-6 c = span_asks (arrays c.args.self.table.ready) c.args.self.stands (rule6 (arrays c.args.self.table.ready) c.args.self.stands c.in-6.is) _ (omega arith)

pub rule_size-requires : goal.rule_size-requires
rule_size-requires c = let t = opened c.args.self.table.ready c.s.view_is c.totals-s.ensures in ((bounded t).bits, span_fits1 t c.args.self.stands (rule6 t c.args.self.stands c.in-6.is) c.span-in-6.ensures)

pub returns-in-6 : goal.returns-in-6
returns-in-6 c = size_rule (opened c.args.self.table.ready c.s.view_is c.totals-s.ensures) c.args.self.stands c.in-6.is c.span-in-6.ensures c.rule_size.ensures

pub returns-in_default : goal.returns-in_default
returns-in_default c = size_last (told c.args.self.table.ready c.totals-s.ensures) c.args.self.stands (record { not1 = λ e. omega (arith, e); not2 = λ e. omega (arith, e); not3 = λ e. omega (arith, e); not4 = λ e. omega (arith, e); not5 = λ e. omega (arith, e); not6 = λ e. omega (arith, e) })
