use Rattle.fixed_lines.proofs.Parts.{header_length}
use Rattle.digits.proofs.Lengths.{decimal_ten}
use native.Mathlib.Omega.{arith}
use Rattle.fixed_lines.proofs.header_length.Goals as goal

pub overflow_add-result : goal.overflow_add-result
overflow_add-result c = omega (arith, c.decimal_length.ensures, c.decimal_length-2.ensures, decimal_ten c.args.v c.requires.0, decimal_ten c.args.c c.requires.1)

pub overflow_add-result-2 : goal.overflow_add-result-2
overflow_add-result-2 c = omega (arith, c.decimal_length.ensures, c.decimal_length-2.ensures, decimal_ten c.args.v c.requires.0, decimal_ten c.args.c c.requires.1)

pub returns : goal.returns
returns c = omega (arith, c.decimal_length.ensures, c.decimal_length-2.ensures, header_length c.args.v c.args.c)
