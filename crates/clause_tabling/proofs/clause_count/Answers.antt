use Rattle.clause_tabling.proofs.Products.{bits_fit, atoms_fit, squares_fit, pairs_fit}
use native.Mathlib.Omega.{arith}
use Rattle.clause_tabling.proofs.clause_count.Goals as goal

pub overflow_mul-result-2 : goal.overflow_mul-result-2
overflow_mul-result-2 c = omega (arith, bits_fit c.args.w c.args.e c.requires.3 (omega arith))

pub overflow_add-result-2 : goal.overflow_add-result-2
overflow_add-result-2 c = omega (arith, bits_fit c.args.w c.args.e c.requires.3 (omega arith))

pub overflow_add-result-3 : goal.overflow_add-result-3
overflow_add-result-3 c = omega (arith, bits_fit c.args.w c.args.e c.requires.3 (omega arith))

pub overflow_mul-result-4 : goal.overflow_mul-result-4
overflow_mul-result-4 c = omega (arith, atoms_fit c.args.n c.args.w c.requires.0 c.requires.3)

pub overflow_mul-result-5 : goal.overflow_mul-result-5
overflow_mul-result-5 c = omega (arith, squares_fit c.args.n c.args.w c.requires.0 c.requires.3)

pub overflow_add-result-5 : goal.overflow_add-result-5
overflow_add-result-5 c = omega (arith, bits_fit c.args.w c.args.e c.requires.3 (omega arith), squares_fit c.args.n c.args.w c.requires.0 c.requires.3)

pub overflow_mul-result-7 : goal.overflow_mul-result-7
overflow_mul-result-7 c = omega (arith, pairs_fit c.args.k c.args.w c.requires.5 c.requires.3)

pub overflow_add-result-6 : goal.overflow_add-result-6
overflow_add-result-6 c = omega (arith, bits_fit c.args.w c.args.e c.requires.3 (omega arith), squares_fit c.args.n c.args.w c.requires.0 c.requires.3, pairs_fit c.args.k c.args.w c.requires.5 c.requires.3)
