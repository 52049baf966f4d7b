use native.Mathlib.Omega.{arith}
use Rattle.reader_fast.proofs.Pieces.{word_in, closed_goes, list_below, placed_there}
use Rattle.reader_fast.proofs.take_empty_list.Goals as goal

pub overflow_add-result : goal.overflow_add-result
overflow_add-result c = omega (arith, list_below _ _ c.is_list.ensures c.if-not-is_list.false)

pub overflow_add-result-2 : goal.overflow_add-result-2
overflow_add-result-2 c = omega (arith, word_in _ _ _ _ c.has.ensures c.if-not-has.false)

pub returns : goal.returns
returns c = closed_goes _ _ _ _ c.is_list.ensures c.if-not-is_list.false (placed_there _ _ c.ne.ensures c.if-ne.false) c.has.ensures c.if-not-has.false
