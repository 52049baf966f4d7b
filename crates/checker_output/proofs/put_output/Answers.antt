use Rattle.checker_output.proofs.Shown.{output_accepted, output_refused}
use Rattle.checker_output.specs.Output.{checker_output}
use Rattle.call_table.proofs.Reading.{loaded_verdict, loaded_cells, loaded_ready, loaded_code}
use Rattle.call_laws.proofs.Tabled.{counted_stored}
use Rattle.reader.specs.Counted.{counted_of}
use native.Mathlib.Omega.{arith}
use mathlib.Core.Path.{refl}
use Rattle.digits.proofs.Wrote.{wrote_as}
use Rattle.checker_output.proofs.put_output.Goals as goal

pub slice_bounds-put_checked-end : goal.slice_bounds-put_checked-end
slice_bounds-put_checked-end c = loaded_cells (counted_stored c.args.text.now c.args.size) c.in-Ok.ensures refl

pub invariant_of-put_checked : goal.invariant_of-put_checked
invariant_of-put_checked c = record { ready = loaded_ready (counted_stored c.args.text.now c.args.size) c.in-Ok.ensures refl }

pub put_checked-requires : goal.put_checked-requires
put_checked-requires c = c.requires

pub put_refused-requires : goal.put_refused-requires
put_refused-requires c = omega (arith, c.requires)

pub returns-in-Ok : goal.returns-in-Ok
unfolding checker_output
returns-in-Ok c = wrote_as (output_accepted (counted_of c.args.text.now c.args.size) c.args.answer.now c.args.total (loaded_verdict c.in-Ok.ensures refl)
    (loaded_code (counted_stored c.args.text.now c.args.size) c.in-Ok.ensures refl)) c.put_checked.ensures

pub returns-in-Err : goal.returns-in-Err
unfolding checker_output
returns-in-Err c = wrote_as (output_refused (counted_of c.args.text.now c.args.size) c.args.answer.now c.args.total (loaded_verdict c.in-Err.ensures refl)) c.put_refused.ensures
