use Rattle.std.proofs.lemmas.Result.{err_from_is_err_and}
use Rattle.call_lines_rows.proofs.Open.{run_accepted, run_refused}
use Rattle.call_table.proofs.Reading.{loaded_cells, loaded_ready, loaded_code}
use Rattle.call_laws.proofs.Tabled.{stored}
use mathlib.Core.Path.{refl}
use Rattle.call_lines.proofs.run.Goals as goal

pub slice_bounds-table-end : goal.slice_bounds-table-end
slice_bounds-table-end c = loaded_cells (stored c.args.text.now) c.in_ok-load.ensures refl

pub invariant_of-table : goal.invariant_of-table
invariant_of-table c = record { ready = loaded_ready (stored c.args.text.now) c.in_ok-load.ensures refl }

pub returns : goal.returns
returns c = run_accepted c.args.text.now c.in_ok-load.ensures.verdict_is c.args.j c.args.buf.now refl
    (loaded_code (stored c.args.text.now) c.in_ok-load.ensures refl) c.run_in.ensures

pub returns-in_err-load : goal.returns-in_err-load
returns-in_err-load c = let p = err_from_is_err_and c.from_residual.result c.from_residual.ensures.1 in rw (p.1, p.2)
    (run_refused c.args.text.now c.in_err-load.ensures.verdict_is c.args.j c.args.buf.now refl)
