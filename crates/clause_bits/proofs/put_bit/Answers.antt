use native.Mathlib.Omega.{arith}
use Rattle.clause_bits.proofs.Bits.{first_bit, next_bit}
use Rattle.digits.proofs.Wrote.{room_as, wrote_as}
use Rattle.clause_bits.proofs.put_bit.Goals as goal

pub put_first_bit-requires : goal.put_first_bit-requires
put_first_bit-requires c = room_as (first_bit c.args.c c.args.i c.new-z.ensures c.new-x.ensures c.new-y.ensures c.in-1.is) c.requires.1

pub returns-in-1 : goal.returns-in-1
returns-in-1 c = wrote_as (first_bit c.args.c c.args.i c.new-z.ensures c.new-x.ensures c.new-y.ensures c.in-1.is) c.put_first_bit.ensures

pub put_next_bit-requires : goal.put_next_bit-requires
put_next_bit-requires c = room_as (next_bit c.args.c c.args.i c.new-z.ensures c.new-x.ensures c.new-y.ensures c.new.ensures (λ e. omega (arith, e))) c.requires.1

pub returns-in_default : goal.returns-in_default
returns-in_default c = wrote_as (next_bit c.args.c c.args.i c.new-z.ensures c.new-x.ensures c.new-y.ensures c.new.ensures (λ e. omega (arith, e))) c.put_next_bit.ensures
