use Rattle.std.proofs.lemmas.Result.{err_from_is_err_and}
use mathlib.Core.Path.{refl}
use Rattle.call_fill_rows.proofs.Steps.{same_code, read_accepted, read_refused}
use Rattle.call_table.proofs.Reading.{loaded_verdict, loaded_ready, loaded_code}
use Rattle.call_laws.proofs.Tabled.{stored}
use Rattle.call_fill.proofs.fill_out.Goals as goal

pub invariant_of-table : goal.invariant_of-table
invariant_of-table c = record { ready = loaded_ready (stored c.args.text.now) c.in_ok-load.ensures refl }

pub returns : goal.returns
returns c = read_accepted c.args.text.now c.args.set.now c.args.assignment.now c.args.levels.now refl (loaded_verdict c.in_ok-load.ensures refl)
    (same_code c.args.set.now c.args.assignment.now c.args.levels.now (loaded_code (stored c.args.text.now) c.in_ok-load.ensures refl) c.fill_in.ensures)

pub returns-in_err-load : goal.returns-in_err-load
returns-in_err-load c = let p = err_from_is_err_and c.from_residual.result c.from_residual.ensures.1 in rw (p.1, p.2)
    (read_refused c.args.text.now c.args.set.now c.args.assignment.now c.args.levels.now refl (loaded_verdict c.in_err-load.ensures refl))
