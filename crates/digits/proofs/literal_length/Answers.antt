use native.Mathlib.Omega.{arith}
use Rattle.digits.proofs.Lengths.{decimal_ten}
use Prim.Native.Nat.{◌≤◌}
use mathlib.Core.Bool.{Bool, true, false}
use mir.Val.{bool_byte}
use Rattle.digits.proofs.literal_length.Goals as goal

one_byte : (b : Bool) → bool_byte b ≤ 1
one_byte true = omega arith
one_byte false = omega arith

pub overflow_add-result : goal.overflow_add-result
overflow_add-result c = omega (arith, c.from.ensures, one_byte c.is_negative.result, c.decimal_length.ensures, decimal_ten c.unsigned_abs.result (omega (arith, c.unsigned_abs.ensures.bound)))

pub overflow_add-result-2 : goal.overflow_add-result-2
overflow_add-result-2 c = omega (arith, c.from.ensures, one_byte c.is_negative.result, c.decimal_length.ensures, decimal_ten c.unsigned_abs.result (omega (arith, c.unsigned_abs.ensures.bound)))
