use Rattle.writer_output.specs.Output.{writer_refusal_line}
use Rattle.reader.specs.Verdict.{ReadVerdict}
use lib.ListN.{length}
use mathlib.Core.Path.{◌∙◌, sym, ap}
use Rattle.writer_output.proofs.say_refused.Goals as goal

pub returns-in-Err : goal.returns-in-Err
returns-in-Err c = c.say_refusal.ensures ∙ sym (ap (λ (x : ReadVerdict). length (writer_refusal_line x)) c.in-Err.is)
