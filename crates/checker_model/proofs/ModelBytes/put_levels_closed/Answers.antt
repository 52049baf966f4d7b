use Rattle.digits.proofs.Wrote.{wrote_after, after_room}
use Rattle.lists.specs.Ascii.{ascii}
use Rattle.checker_model.proofs.ModelBytes.put_levels_closed.Goals as goal

pub put_word-requires : goal.put_word-requires
unfolding ascii
put_word-requires c = after_room c.put_levels-to.ensures (ascii "))\n") c.requires

pub returns : goal.returns
unfolding ascii
returns c = wrote_after c.put_levels-to.ensures (ascii "))\n") c.put_word.ensures
