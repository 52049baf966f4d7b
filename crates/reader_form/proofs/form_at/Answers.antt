use Rattle.std.proofs.Common.{arith}
use Rattle.std.proofs.lemmas.Grind.{common_steps}
use Rattle.std.proofs.lemmas.Option.{gets}
use Rattle.reader_form.specs.Automaton.{form_at}
use Rattle.reader_form.proofs.form_at.Goals as goal

pub returns : goal.returns
unfolding form_at
returns c = grind (arith, common_steps, gets)
