use Rattle.checker_output.proofs.Shown.{text_model, text_refused, atoms_shown, few_shown}
use Rattle.clause_tables.specs.Tables.{code_in}
use Rattle.checker_model.proofs.Parts.{model_taken}
use mathlib.Core.Path.{◌∙◌}
use native.Mathlib.Omega.{arith}
use Rattle.digits.proofs.Wrote.{wrote_as}
use Rattle.checker_output.proofs.put_checked.Goals as goal

pub put_refused-requires : goal.put_refused-requires
put_refused-requires c = omega (arith, c.requires)

pub returns-in_default : goal.returns-in_default
returns-in_default c = wrote_as (text_refused (code_in c.args.table.cells.now) c.args.answer.now c.args.total c.check_in-verdict.ensures c.in_default.is) c.put_refused.ensures

pub returns : goal.returns
returns c =
    let q = few_shown c.args.table.ready c.s.view_is c.totals-s.ensures in
    wrote_as
    (model_taken c.s.inside.n c.in-Ok.shown.assumed c.check_in-verdict.new.assignment c.check_in-verdict.new.levels c.from-n.ensures (omega (arith, q)) (omega (arith, q))
    ∙ text_model (code_in c.args.table.cells.now) c.args.answer.now c.args.total c.check_in-verdict.ensures (atoms_shown c.args.table.ready c.s.view_is c.totals-s.ensures) c.in-Ok.is) c.put_shown_model.ensures
