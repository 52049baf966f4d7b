use borrow.Author.Rules.{rules}
use Rattle.clause_runs.proofs.Runs.{part_out, part_full, run_goes_on}
use Rattle.clause_table_laws.proofs.Cells.{told}
use Rattle.clause_runs.proofs.put_lines.Goals as goal

pub loop-run-preserved : goal.loop-run-preserved
loop-run-preserved c = run_goes_on (told c.args.table.ready c.totals-t.ensures) _ _ c.loop-run.invariant.0 c.loop-run.invariant.2 c.loop-run-test.true c.put_some-part.ensures

pub returns-then-not-fits : goal.returns-then-not-fits
returns-then-not-fits c = part_full (told c.args.table.ready c.totals-t.ensures) _ _ c.loop-run.invariant.0 c.loop-run.invariant.2 c.loop-run-test.true c.fits.ensures (search rules)

pub returns : goal.returns
returns c = part_out (told c.args.table.ready c.totals-t.ensures) _ _ c.loop-run.invariant.0 c.loop-run.invariant.2 c.loop-run-test.false
