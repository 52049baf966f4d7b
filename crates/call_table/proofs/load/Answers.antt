use Rattle.call_table.proofs.Reading.{read_given, read_stored, loaded_refused, loaded_accepted}
use mathlib.Core.Path.{sym}
use Rattle.call_table.proofs.load.Goals as goal

pub prepare-requires : goal.prepare-requires
prepare-requires c = (read_stored c.args.text.now c.read_program.ensures.program c.in_ok-read_program.ensures.verdict, c.requires)

pub returns : goal.returns
returns c =
    loaded_accepted _ (read_given c.args.text.now c.read_program.ensures.program c.in_ok-read_program.ensures.verdict) c.prepare.ensures
