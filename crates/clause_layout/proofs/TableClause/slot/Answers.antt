use Rattle.clause_layout.proofs.Groups.{rule1, rule6, body_asks, supported_asks, implied_asks, zero_asks, next_asks, rule_asks, founded_asks, rule_fits_lem, span_asks, held_in, slot_body, slot_supported, slot_implied, slot_zero, slot_next, slot_rule, slot_last}
use Rattle.clause_layout.proofs.BlockChains.{slot_chain}
use native.Mathlib.Omega.{arith}
use mathlib.Core.Path.{◌∙◌, sym, ap}
use Rattle.clause_slots.specs.SlotNumber.{slot_number}
use Rattle.encoding.specs.Variables.{Sizes}
use Rattle.clause_table_laws.proofs.Cells.{told, opened, arrays}
use Rattle.clause_layout.proofs.TableClause.slot.Goals as goal

pub returns-in-5 : goal.returns-in-5
returns-in-5 c = held_in (slot_chain (opened c.args.self.block.table.ready c.s-in-5.view_is c.totals-s.ensures) c.args.self.stands.block_at c.args.self.number c.args.l c.in-5.is c.chain.ensures c.chain_bit.ensures) c.chain_literal.type_inv c.chain_literal.ensures

pub list_start-first-requires : goal.list_start-first-requires
list_start-first-requires c = (c.args.self.stands.block_at.item_some, omega (arith, rule_fits_lem (arrays c.args.self.block.table.ready) c.args.self.stands.block_at (rule1 (arrays c.args.self.block.table.ready) c.args.self.stands.block_at c.in-1.is)))

pub list_start-middle-requires : goal.list_start-middle-requires
list_start-middle-requires c = (c.args.self.stands.block_at.item_some, omega (arith, rule_fits_lem (arrays c.args.self.block.table.ready) c.args.self.stands.block_at (rule1 (arrays c.args.self.block.table.ready) c.args.self.stands.block_at c.in-1.is)))

pub list_start-end-requires : goal.list_start-end-requires
list_start-end-requires c = (c.args.self.stands.block_at.item_some, omega (arith, rule_fits_lem (arrays c.args.self.block.table.ready) c.args.self.stands.block_at (rule1 (arrays c.args.self.block.table.ready) c.args.self.stands.block_at c.in-1.is)))

pub body_part-requires : goal.body_part-requires
body_part-requires c = body_asks (arrays c.args.self.block.table.ready) c.args.self.stands c.args.l c.in-1.is c.list_start-first.ensures c.list_start-middle.ensures c.list_start-end.ensures c.requires.0 c.requires.1

pub returns-in-1 : goal.returns-in-1
returns-in-1 c = held_in (slot_body (arrays c.args.self.block.table.ready) c.args.self.stands c.args.l c.in-1.is c.list_start-first.ensures c.list_start-middle.ensures c.list_start-end.ensures) c.body_part.type_inv c.body_part.ensures

pub heads_part-requires : goal.heads_part-requires
heads_part-requires c = supported_asks (told c.args.self.block.table.ready c.totals-s.ensures) c.args.self.stands c.args.l c.in-2.is (omega (arith, c.if-s-i.true, ap (λ (s : Sizes). s.m) c.s.view_is)) c.requires.0 c.requires.1

pub returns-in-2 : goal.returns-in-2
returns-in-2 c = c.heads_part.ensures ∙ ap slot_number (sym (slot_supported (told c.args.self.block.table.ready c.totals-s.ensures) c.args.self.stands c.args.l c.in-2.is (omega (arith, c.if-s-i.true, ap (λ (s : Sizes). s.m) c.s.view_is))))

pub implied_slot-requires : goal.implied_slot-requires
implied_slot-requires c = implied_asks (told c.args.self.block.table.ready c.totals-s.ensures) c.args.self.stands c.args.l (omega (arith, c.if-s-i.false, ap (λ (s : Sizes). s.m) c.s.view_is))

pub returns-in-2-2 : goal.returns-in-2-2
returns-in-2-2 c = held_in (slot_implied (told c.args.self.block.table.ready c.totals-s.ensures) c.args.self.stands c.args.l c.in-2.is (omega (arith, c.if-s-i.false, ap (λ (s : Sizes). s.m) c.s.view_is))) c.implied_slot.type_inv c.implied_slot.ensures

pub zero_slot-requires : goal.zero_slot-requires
zero_slot-requires c = zero_asks (told c.args.self.block.table.ready c.totals-s.ensures) c.args.self.stands c.args.l c.in-3.is

pub returns-in-3 : goal.returns-in-3
returns-in-3 c = held_in (slot_zero (told c.args.self.block.table.ready c.totals-s.ensures) c.args.self.stands c.args.l c.in-3.is) c.zero_slot.type_inv c.zero_slot.ensures

pub next_slot-requires : goal.next_slot-requires
next_slot-requires c = next_asks (told c.args.self.block.table.ready c.totals-s.ensures) c.args.self.stands c.args.l c.in-4.is c.requires.1

pub returns-in-4 : goal.returns-in-4
returns-in-4 c = held_in (slot_next (told c.args.self.block.table.ready c.totals-s.ensures) c.args.self.stands c.args.l c.in-4.is) c.next_slot.type_inv c.next_slot.ensures

pub span-b-requires : goal.span-b-requires
span-b-requires c = span_asks (arrays c.args.self.block.table.ready) c.args.self.stands.block_at (rule6 (arrays c.args.self.block.table.ready) c.args.self.stands.block_at c.in-6.is) _ (omega arith)

pub head-requires : goal.head-requires
head-requires c = (c.args.self.stands.block_at.item_some, rule_fits_lem (arrays c.args.self.block.table.ready) c.args.self.stands.block_at (rule6 (arrays c.args.self.block.table.ready) c.args.self.stands.block_at c.in-6.is))

pub pairs_before-requires : goal.pairs_before-requires
pairs_before-requires c = (c.args.self.stands.block_at.item_some, omega (arith, rule_fits_lem (arrays c.args.self.block.table.ready) c.args.self.stands.block_at (rule6 (arrays c.args.self.block.table.ready) c.args.self.stands.block_at c.in-6.is)))

pub rule_slot-requires : goal.rule_slot-requires
rule_slot-requires c = rule_asks (told c.args.self.block.table.ready c.totals-s.ensures) c.args.self.stands c.args.l c.in-6.is c.head.ensures c.pairs_before.ensures c.span-b.ensures c.requires.0 c.requires.1

pub returns-in-6 : goal.returns-in-6
returns-in-6 c = held_in (slot_rule (told c.args.self.block.table.ready c.totals-s.ensures) c.args.self.stands c.args.l c.in-6.is c.head.ensures c.pairs_before.ensures c.span-b.ensures) c.rule_slot.type_inv c.rule_slot.ensures

pub heads_part-requires-in_default : goal.heads_part-requires-in_default
heads_part-requires-in_default c = founded_asks (told c.args.self.block.table.ready c.totals-s.ensures) c.args.self.stands c.args.l (record { not1 = λ e. omega (arith, e); not2 = λ e. omega (arith, e); not3 = λ e. omega (arith, e); not4 = λ e. omega (arith, e); not5 = λ e. omega (arith, e); not6 = λ e. omega (arith, e) }) c.requires.0 c.requires.1

pub returns-in_default : goal.returns-in_default
returns-in_default c = c.heads_part-in_default.ensures ∙ ap slot_number (sym (slot_last (told c.args.self.block.table.ready c.totals-s.ensures) c.args.self.stands c.args.l (record { not1 = λ e. omega (arith, e); not2 = λ e. omega (arith, e); not3 = λ e. omega (arith, e); not4 = λ e. omega (arith, e); not5 = λ e. omega (arith, e); not6 = λ e. omega (arith, e) })))
