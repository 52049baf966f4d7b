use Rattle.std.proofs.lemmas.Result.{err_from_is_err_and}
use Rattle.answer_reader.proofs.Turns.{next_behind, next_lost}
use Rattle.answer_reader.proofs.next_literal.Goals as goal

pub returns-in_err-i : goal.returns-in_err-i
returns-in_err-i c = let p = err_from_is_err_and c.from_residual.result c.from_residual.ensures.1 in rw (p.1, p.2) (next_lost c.args.answer.now _ _ c.space_from.ensures _ c.in_err-i.was)

pub returns : goal.returns
returns c = next_behind c.args.answer.now _ _ c.space_from.ensures _ c.in_ok-i.was _ c.literal_at.ensures
