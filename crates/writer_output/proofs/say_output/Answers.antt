use Rattle.writer_output.proofs.Outputs.{accepted_output, refused_output}
use Rattle.call_table.proofs.Reading.{loaded_cells, loaded_ready, loaded_code}
use Rattle.call_laws.proofs.Tabled.{counted_stored}
use Rattle.clause_runs.specs.Lines.{code_lines}
use Rattle.lists.specs.Lists.{joined}
use Rattle.encoding.specs.Code.{Code}
use lib.ListN.{length}
use mathlib.Core.Path.{◌∙◌, ap}
use Rattle.writer_output.proofs.say_output.Goals as goal

pub returns-in_default : goal.returns-in_default
returns-in_default c = c.say_refused.ensures ∙ ap length (refused_output c.args.front.now c.args.total c.load_counted-verdict.ensures.verdict_is c.in_default.is)

pub slice_bounds-say_lines-end : goal.slice_bounds-say_lines-end
slice_bounds-say_lines-end c = loaded_cells (counted_stored c.args.front.now c.args.total) c.load_counted-verdict.ensures c.in-Ok.is

pub invariant_of-say_lines : goal.invariant_of-say_lines
invariant_of-say_lines c = record { ready = loaded_ready (counted_stored c.args.front.now c.args.total) c.load_counted-verdict.ensures c.in-Ok.is }

pub returns : goal.returns
returns c = c.say_lines.ensures
    ∙ ap (λ (G : Code). length (joined (code_lines G))) (loaded_code (counted_stored c.args.front.now c.args.total) c.load_counted-verdict.ensures c.in-Ok.is)
    ∙ ap length (accepted_output c.args.front.now c.args.total c.load_counted-verdict.ensures.verdict_is c.in-Ok.is)
