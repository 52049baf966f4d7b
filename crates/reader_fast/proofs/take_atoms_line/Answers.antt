use mathlib.Core.Path.{sym, ◌∙◌}
use native.Mathlib.Omega.{arith}
use Rattle.reader_words.proofs.Digits.{short_number_in}
use Rattle.reader_fast.proofs.Pieces.{word_in, first_goes}
use Rattle.reader_fast.proofs.take_atoms_line.Goals as goal

pub overflow_add-s : goal.overflow_add-s
overflow_add-s c = omega (arith, word_in _ _ _ _ c.has.ensures c.if-not-has.false)

pub overflow_add-to : goal.overflow_add-to
overflow_add-to c = omega (arith, word_in _ _ _ _ c.has.ensures c.if-not-has.false)

pub overflow_add-to-2 : goal.overflow_add-to-2
overflow_add-to-2 c = omega (arith, short_number_in _ _ _ (sym c.in-Some.is ∙ c.short_number_at.ensures))

pub overflow_add-result : goal.overflow_add-result
overflow_add-result c = omega (arith, word_in _ _ _ _ c.has-else-n-gt-MAX_ATOMS.ensures c.if-not-has-2.false)

pub returns : goal.returns
returns c = first_goes _ _ _ _ _ _ c.ready.ensures c.if-not-ready.false c.has.ensures c.if-not-has.false (sym c.in-Some.is ∙ c.short_number_at.ensures) c.if-n-gt-MAX_ATOMS.false c.has-else-n-gt-MAX_ATOMS.ensures c.if-not-has-2.false
