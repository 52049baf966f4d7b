use Rattle.std.proofs.lemmas.Result.{err_from_is_err_and}
use lib.ListN.{length}
use mathlib.Core.Path.{refl}
use Rattle.reader.specs.Verdict.{read_of}
use Rattle.call_check_rows.proofs.Open.{same_code, read_accepted, read_refused, check_whole}
use Rattle.call_table.proofs.Reading.{loaded_verdict, loaded_cells, loaded_ready, loaded_code}
use Rattle.call_laws.proofs.Tabled.{stored}
use Rattle.call_check.proofs.check.Goals as goal

pub slice_bounds-table-end : goal.slice_bounds-table-end
slice_bounds-table-end c = loaded_cells (stored c.args.text.now) c.in_ok-load.ensures refl

pub invariant_of-table : goal.invariant_of-table
invariant_of-table c = record { ready = loaded_ready (stored c.args.text.now) c.in_ok-load.ensures refl }

pub returns : goal.returns
returns c = check_whole c.args.text.now c.args.answer.now c.args.assignment.now c.args.levels.now refl
    (read_accepted c.args.answer.now (length c.args.answer.now) c.args.assignment.now c.args.levels.now (read_of c.args.text.now) (loaded_verdict c.in_ok-load.ensures refl)
    (same_code c.args.answer.now (length c.args.answer.now) c.args.assignment.now c.args.levels.now (loaded_code (stored c.args.text.now) c.in_ok-load.ensures refl) c.check_in.ensures))

pub returns-in_err-load : goal.returns-in_err-load
returns-in_err-load c = let p = err_from_is_err_and c.from_residual.result c.from_residual.ensures.1 in rw (p.1, p.2)
    (check_whole c.args.text.now c.args.answer.now c.args.assignment.now c.args.levels.now refl
    (read_refused c.args.answer.now (length c.args.answer.now) c.args.assignment.now c.args.levels.now (read_of c.args.text.now) (loaded_verdict c.in_err-load.ensures refl)))
