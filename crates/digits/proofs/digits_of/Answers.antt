use Rattle.digits.proofs.DigitLaws.{count_is, digits_are}
use Rattle.digits.proofs.Lengths.{decimal_ten}
use native.Mathlib.Omega.{arith}
use Prim.Native.Nat.{◌<◌}
use mathlib.Core.Path.{◌∙◌, ap}
use Rattle.digits.specs.Digits.{digits_of}
use Rattle.digits.proofs.digits_of.Goals as goal

pub overflow_cast-result : goal.overflow_cast-result
overflow_cast-result c = omega (arith, c.decimal_length.ensures, decimal_ten c.from-n.result (omega (arith, c.from-n.ensures, c.requires)))

pub returns : goal.returns
returns c =
    let h : c.from-n.result < 10000 = omega (arith, c.from-n.ensures, c.requires) in
    digits_are _ h c.digit.ensures c.digit-2.ensures c.digit-3.ensures c.digit-4.ensures (c.decimal_length.ensures ∙ count_is _ h) ∙ ap digits_of c.from-n.ensures
