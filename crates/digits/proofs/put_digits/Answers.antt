use Rattle.digits.proofs.DigitLaws.{four_room, three_room, two_room, one_room, four_stores, three_stores, two_stores, one_stores, room_at}
use native.Mathlib.Omega.{arith}
use borrow.Author.Rules.{rules}
use Rattle.digits.proofs.put_digits.Goals as goal

pub bounds-buf-0 : goal.bounds-buf-0
bounds-buf-0 c = search (rules, room_at 0 c.args.buf.now (omega arith) (four_room c.args.x c.args.buf.now c.requires c.in-4.is))

pub bounds-buf-1 : goal.bounds-buf-1
bounds-buf-1 c = search (rules, room_at 1 c.args.buf.now (omega arith) (four_room c.args.x c.args.buf.now c.requires c.in-4.is))

pub bounds-buf-2 : goal.bounds-buf-2
bounds-buf-2 c = search (rules, room_at 2 c.args.buf.now (omega arith) (four_room c.args.x c.args.buf.now c.requires c.in-4.is))

pub bounds-buf-3 : goal.bounds-buf-3
bounds-buf-3 c = search (rules, room_at 3 c.args.buf.now (omega arith) (four_room c.args.x c.args.buf.now c.requires c.in-4.is))

pub bounds-buf-4 : goal.bounds-buf-4
bounds-buf-4 c = search (rules, room_at 4 c.args.buf.now (omega arith) (four_room c.args.x c.args.buf.now c.requires c.in-4.is))

pub returns-in-4 : goal.returns-in-4
returns-in-4 c = four_stores c.args.x c.args.buf.now c.requires c.in-4.is

pub bounds-buf-0-in-3 : goal.bounds-buf-0-in-3
bounds-buf-0-in-3 c = search (rules, room_at 0 c.args.buf.now (omega arith) (three_room c.args.x c.args.buf.now c.requires (λ e. omega (arith, e)) c.in-3.is))

pub bounds-buf-1-in-3 : goal.bounds-buf-1-in-3
bounds-buf-1-in-3 c = search (rules, room_at 1 c.args.buf.now (omega arith) (three_room c.args.x c.args.buf.now c.requires (λ e. omega (arith, e)) c.in-3.is))

pub bounds-buf-2-in-3 : goal.bounds-buf-2-in-3
bounds-buf-2-in-3 c = search (rules, room_at 2 c.args.buf.now (omega arith) (three_room c.args.x c.args.buf.now c.requires (λ e. omega (arith, e)) c.in-3.is))

pub bounds-buf-3-in-3 : goal.bounds-buf-3-in-3
bounds-buf-3-in-3 c = search (rules, room_at 3 c.args.buf.now (omega arith) (three_room c.args.x c.args.buf.now c.requires (λ e. omega (arith, e)) c.in-3.is))

pub returns-in-3 : goal.returns-in-3
returns-in-3 c = three_stores c.args.x c.args.buf.now c.requires (λ e. omega (arith, e)) c.in-3.is

pub bounds-buf-0-in-2 : goal.bounds-buf-0-in-2
bounds-buf-0-in-2 c = search (rules, room_at 0 c.args.buf.now (omega arith) (two_room c.args.x c.args.buf.now c.requires (λ e. omega (arith, e)) (λ e. omega (arith, e)) c.in-2.is))

pub bounds-buf-1-in-2 : goal.bounds-buf-1-in-2
bounds-buf-1-in-2 c = search (rules, room_at 1 c.args.buf.now (omega arith) (two_room c.args.x c.args.buf.now c.requires (λ e. omega (arith, e)) (λ e. omega (arith, e)) c.in-2.is))

pub bounds-buf-2-in-2 : goal.bounds-buf-2-in-2
bounds-buf-2-in-2 c = search (rules, room_at 2 c.args.buf.now (omega arith) (two_room c.args.x c.args.buf.now c.requires (λ e. omega (arith, e)) (λ e. omega (arith, e)) c.in-2.is))

pub returns-in-2 : goal.returns-in-2
returns-in-2 c = two_stores c.args.x c.args.buf.now c.requires (λ e. omega (arith, e)) (λ e. omega (arith, e)) c.in-2.is

pub bounds-buf-0-in_default : goal.bounds-buf-0-in_default
bounds-buf-0-in_default c = search (rules, room_at 0 c.args.buf.now (omega arith) (one_room c.args.x c.args.buf.now c.requires (λ e. omega (arith, e)) (λ e. omega (arith, e)) (λ e. omega (arith, e))))

pub bounds-buf-1-in_default : goal.bounds-buf-1-in_default
bounds-buf-1-in_default c = search (rules, room_at 1 c.args.buf.now (omega arith) (one_room c.args.x c.args.buf.now c.requires (λ e. omega (arith, e)) (λ e. omega (arith, e)) (λ e. omega (arith, e))))

pub returns-in_default : goal.returns-in_default
returns-in_default c = one_stores c.args.x c.args.buf.now c.requires (λ e. omega (arith, e)) (λ e. omega (arith, e)) (λ e. omega (arith, e))
