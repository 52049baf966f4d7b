use native.Mathlib.Omega.{arith}
use mathlib.Core.Path.{refl}
use Rattle.digits.proofs.Lengths.{length_large}
use Rattle.digits.proofs.Writing.{next_digit}
use Rattle.digits.proofs.+put_decimal.Goals as goal

pub put_decimal-k-requires : goal.put_decimal-k-requires
put_decimal-k-requires t c = (
  omega (arith, c.decreases, c.if-n-lt10000.false),
  omega (arith, length_large c.args.n (omega (arith, c.if-n-lt10000.false)), c.requires),
)

pub bounds-buf-k : goal.bounds-buf-k
bounds-buf-k t c = omega (arith, length_large c.args.n (omega (arith, c.if-n-lt10000.false)), c.put_decimal-k.ensures.count, c.requires)

pub returns : goal.returns
returns t c = next_digit c.args.buf.now c.args.n (omega (arith, c.if-n-lt10000.false)) refl c.digit.ensures
    (omega (arith, length_large c.args.n (omega (arith, c.if-n-lt10000.false)), c.put_decimal-k.ensures.count, c.requires))
    c.put_decimal-k.ensures
