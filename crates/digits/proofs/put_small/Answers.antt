use Rattle.digits.proofs.DigitLaws.{decimal_one, decimal_two, decimal_three, decimal_four}
use Rattle.digits.proofs.Wrote.{room_as, wrote_as}
use native.Mathlib.Omega.{arith}
use Rattle.digits.proofs.put_small.Goals as goal

pub put_word-requires : goal.put_word-requires
put_word-requires c = room_as (decimal_one _ (omega arith) c.digit.ensures) c.requires.1

pub returns-in-0-to-9 : goal.returns-in-0-to-9
returns-in-0-to-9 c = wrote_as (decimal_one _ (omega arith) c.digit.ensures) c.put_word.ensures

pub put_word-requires-in-10-to-99 : goal.put_word-requires-in-10-to-99
put_word-requires-in-10-to-99 c = room_as (decimal_two _ (omega arith) (omega arith) c.digit-in-10-to-99.ensures c.digit-in-10-to-99-2.ensures) c.requires.1

pub returns-in-10-to-99 : goal.returns-in-10-to-99
returns-in-10-to-99 c = wrote_as (decimal_two _ (omega arith) (omega arith) c.digit-in-10-to-99.ensures c.digit-in-10-to-99-2.ensures) c.put_word-in-10-to-99.ensures

pub put_word-requires-in-100-to-999 : goal.put_word-requires-in-100-to-999
put_word-requires-in-100-to-999 c = room_as (decimal_three _ (omega arith) (omega arith) c.digit-in-100-to-999.ensures c.digit-in-100-to-999-2.ensures c.digit-in-100-to-999-3.ensures) c.requires.1

pub returns-in-100-to-999 : goal.returns-in-100-to-999
returns-in-100-to-999 c = wrote_as (decimal_three _ (omega arith) (omega arith) c.digit-in-100-to-999.ensures c.digit-in-100-to-999-2.ensures c.digit-in-100-to-999-3.ensures) c.put_word-in-100-to-999.ensures

pub put_word-requires-in_default : goal.put_word-requires-in_default
put_word-requires-in_default c = room_as (decimal_four _ (omega arith) (omega arith) c.digit-in_default.ensures c.digit-in_default-2.ensures c.digit-in_default-3.ensures c.digit-in_default-4.ensures) c.requires.1

pub returns-in_default : goal.returns-in_default
returns-in_default c = wrote_as (decimal_four _ (omega arith) (omega arith) c.digit-in_default.ensures c.digit-in_default-2.ensures c.digit-in_default-3.ensures c.digit-in_default-4.ensures) c.put_word-in_default.ensures
