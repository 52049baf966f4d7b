use mathlib.Core.Bool.{not}
use mathlib.Core.Path.{ap}
use native.Mathlib.Omega.{arith}
use Rattle.std.specs.Int.{from_bool}
use Rattle.answer_quick.specs.Quick.{some_quick}
use Rattle.answer_quick.proofs.Reading.{first_least, first_size, digit_size, quick_none, quick_one, quick_two, quick_three, quick_long, quick_four, some_is}
use Rattle.answer_quick.proofs.quick_digits.Goals as goal

pub returns-then-not-is_first : goal.returns-then-not-is_first
returns-then-not-is_first c = λ u. ap some_quick (quick_none (from_bool c.args.minus) _ _ c.is_first.ensures (ap not c.if-not-is_first.true) _)

pub longer-w-requires : goal.longer-w-requires
longer-w-requires c = (omega arith, (first_size _ _ c.is_first.ensures (ap not c.if-not-is_first.false)).0)

pub returns-then-not-is_digit : goal.returns-then-not-is_digit
returns-then-not-is_digit c = λ u. rw c.from-sign.ensures (some_is c.args.minus _ _ _ (quick_one (from_bool c.args.minus) _ _ c.is_first.ensures (ap not c.if-not-is_first.false) _ c.longer-w.ensures _ _ c.is_digit.ensures (ap not c.if-not-is_digit.true) _) (omega (arith, c.longer-w.ensures, first_least _ _ c.is_first.ensures (ap not c.if-not-is_first.false))))

pub longer-x-requires : goal.longer-x-requires
longer-x-requires c = (omega (arith, c.longer-w.ensures, first_size c.args.a _ c.is_first.ensures (ap not c.if-not-is_first.false)), (digit_size _ _ c.is_digit.ensures (ap not c.if-not-is_digit.false)).0)

pub returns-then-not-is_digit-2 : goal.returns-then-not-is_digit-2
returns-then-not-is_digit-2 c = λ u. rw c.from-sign.ensures (some_is c.args.minus _ _ _ (quick_two (from_bool c.args.minus) _ _ c.is_first.ensures (ap not c.if-not-is_first.false) _ c.longer-w.ensures _ _ c.is_digit.ensures (ap not c.if-not-is_digit.false) _ c.longer-x.ensures _ _ c.is_digit-2.ensures (ap not c.if-not-is_digit-2.true) _) (omega (arith, c.longer-w.ensures, c.longer-x.ensures, first_least _ _ c.is_first.ensures (ap not c.if-not-is_first.false))))

pub longer-y-requires : goal.longer-y-requires
longer-y-requires c = (omega (arith, c.longer-w.ensures, c.longer-x.ensures, first_size c.args.a _ c.is_first.ensures (ap not c.if-not-is_first.false), digit_size c.args.b _ c.is_digit.ensures (ap not c.if-not-is_digit.false)), (digit_size _ _ c.is_digit-2.ensures (ap not c.if-not-is_digit-2.false)).0)

pub returns-then-not-is_digit-3 : goal.returns-then-not-is_digit-3
returns-then-not-is_digit-3 c = λ u. rw c.from-sign.ensures (some_is c.args.minus _ _ _ (quick_three (from_bool c.args.minus) _ _ c.is_first.ensures (ap not c.if-not-is_first.false) _ c.longer-w.ensures _ _ c.is_digit.ensures (ap not c.if-not-is_digit.false) _ c.longer-x.ensures _ _ c.is_digit-2.ensures (ap not c.if-not-is_digit-2.false) _ c.longer-y.ensures _ _ c.is_digit-3.ensures (ap not c.if-not-is_digit-3.true) _) (omega (arith, c.longer-w.ensures, c.longer-x.ensures, c.longer-y.ensures, first_least _ _ c.is_first.ensures (ap not c.if-not-is_first.false))))

pub returns-then-is_digit : goal.returns-then-is_digit
returns-then-is_digit c = λ u. ap some_quick (quick_long (from_bool c.args.minus) _ _ c.is_first.ensures (ap not c.if-not-is_first.false) _ c.longer-w.ensures _ _ c.is_digit.ensures (ap not c.if-not-is_digit.false) _ c.longer-x.ensures _ _ c.is_digit-2.ensures (ap not c.if-not-is_digit-2.false) _ c.longer-y.ensures _ _ c.is_digit-3.ensures (ap not c.if-not-is_digit-3.false) _ _ c.is_digit-4.ensures c.if-is_digit.true u)

pub longer-requires : goal.longer-requires
longer-requires c = (omega (arith, c.longer-w.ensures, c.longer-x.ensures, c.longer-y.ensures, first_size c.args.a _ c.is_first.ensures (ap not c.if-not-is_first.false), digit_size c.args.b _ c.is_digit.ensures (ap not c.if-not-is_digit.false), digit_size c.args.c _ c.is_digit-2.ensures (ap not c.if-not-is_digit-2.false)), (digit_size _ _ c.is_digit-3.ensures (ap not c.if-not-is_digit-3.false)).0)

pub returns : goal.returns
returns c = λ u. rw c.from-sign.ensures (some_is c.args.minus _ _ _ (quick_four (from_bool c.args.minus) _ _ c.is_first.ensures (ap not c.if-not-is_first.false) _ c.longer-w.ensures _ _ c.is_digit.ensures (ap not c.if-not-is_digit.false) _ c.longer-x.ensures _ _ c.is_digit-2.ensures (ap not c.if-not-is_digit-2.false) _ c.longer-y.ensures _ _ c.is_digit-3.ensures (ap not c.if-not-is_digit-3.false) _ _ c.is_digit-4.ensures c.if-is_digit.false _ c.longer.ensures u) (omega (arith, c.longer-w.ensures, c.longer-x.ensures, c.longer-y.ensures, c.longer.ensures, first_least _ _ c.is_first.ensures (ap not c.if-not-is_first.false))))
