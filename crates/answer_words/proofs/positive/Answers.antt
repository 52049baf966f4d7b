use mir.Syntax.{w32}
use mir.Facts.{to_z_pos}
use Rattle.answer_words.proofs.positive.Goals as goal

pub returns : goal.returns
returns c = to_z_pos w32 c.requires
