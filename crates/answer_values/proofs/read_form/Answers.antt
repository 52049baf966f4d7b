use Rattle.answer_values.proofs.OnePass.{read_model, read_none, read_told}
use Rattle.answer_reader.proofs.Whole.{form_satisfiable, form_refused, status_end_within}
use lib.ListN.{length}
use mathlib.Core.Path.{refl, sym, ◌∙◌}
use Rattle.answer_values.proofs.read_form.Goals as goal

pub read_from-requires : goal.read_from-requires
read_from-requires c = (status_end_within c.args.answer.now _ c.status.ensures _ c.in-Ok.is, c.requires)

pub returns-in-Ok : goal.returns-in-Ok
returns-in-Ok c = let g = read_model c.args.answer.now _ c.status.ensures (length c.args.values.now) c.args.values.now _ c.in-Ok.is in
    let w = read_told _ (form_satisfiable c.args.answer.now _ c.status.ensures _ c.in-Ok.is _ refl) (sym g.0) c.read_from.ensures.0 c.read_from.ensures.1 c.read_from.ensures.2 in
    (w.0, w.1, w.2, c.read_from.ensures.3 ∙ sym g.1)

pub returns-in-Err : goal.returns-in-Err
returns-in-Err c = let g = read_none c.args.answer.now _ c.status.ensures (length c.args.values.now) c.args.values.now _ c.in-Err.is in
    let w = read_told _ (form_refused c.args.answer.now _ c.status.ensures _ c.in-Err.is) (sym g.0) c.answer_read.ensures.0 c.answer_read.ensures.1 c.answer_read.ensures.2 in
    (w.0, w.1, w.2, sym g.1)
