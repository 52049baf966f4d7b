use Rattle.reader.proofs.Verdicts.{read_accepted, read_refused}
use mathlib.Core.Path.{◌∙◌}
use Rattle.reader.proofs.read.Goals as goal

pub returns-in-Ok : goal.returns-in-Ok
returns-in-Ok c = rw c.read_program.ensures.program (read_accepted c.args.text.now c.in-Ok.ensures.verdict)

pub returns-in-Err : goal.returns-in-Err
returns-in-Err c = c.refuse.ensures ∙ read_refused c.args.text.now _ c.in-Err.ensures.verdict
