use Rattle.clause_table_laws.proofs.Cells.{opened}
use Rattle.clause_counts.proofs.Sized.{sizes_in}
use Rattle.clause_finding.proofs.Coded.{atoms_before, atoms_all, atoms_fit}
use Rattle.clause_finding.proofs.Falling.{between_low, between_high, falls_between}
use native.Mathlib.Omega.{arith}
use Rattle.clause_finding.proofs.find_atom.Goals as goal

pub loop-low-init : goal.loop-low-init
loop-low-init c = atoms_all (opened c.args.table.ready c.s.view_is c.totals-s.ensures) c.requires

pub overflow_add-low : goal.overflow_add-low
overflow_add-low c = omega (arith, atoms_fit (opened c.args.table.ready c.s.view_is c.totals-s.ensures) c.loop-low.invariant, c.loop-low.invariant.some)

pub overflow_add-middle : goal.overflow_add-middle
overflow_add-middle c = omega (arith, atoms_fit (opened c.args.table.ready c.s.view_is c.totals-s.ensures) c.loop-low.invariant, c.loop-low.invariant.some)

pub atoms_size-requires : goal.atoms_size-requires
atoms_size-requires c = ((sizes_in (opened c.args.table.ready c.s.view_is c.totals-s.ensures)).rules)

pub loop-low-smaller-then-left-atoms_size : goal.loop-low-smaller-then-left-atoms_size
loop-low-smaller-then-left-atoms_size c = omega (arith, c.loop-low-test.true)

pub loop-low-preserved-then-left-atoms_size : goal.loop-low-preserved-then-left-atoms_size
loop-low-preserved-then-left-atoms_size c = between_high c.loop-low.invariant (omega (arith, c.loop-low-test.true)) (omega (arith, c.loop-low-test.true)) (atoms_before (opened c.args.table.ready c.s.view_is c.totals-s.ensures) _ c.atoms_size.ensures) c.if-left-atoms_size.true

pub loop-low-smaller : goal.loop-low-smaller
loop-low-smaller c = omega (arith, c.loop-low-test.true)

pub loop-low-preserved : goal.loop-low-preserved
loop-low-preserved c = between_low c.loop-low.invariant (omega (arith, c.loop-low-test.true)) (atoms_before (opened c.args.table.ready c.s.view_is c.totals-s.ensures) _ c.atoms_size.ensures) c.if-left-atoms_size.false

pub atoms_size-requires-2 : goal.atoms_size-requires-2
atoms_size-requires-2 c = ((sizes_in (opened c.args.table.ready c.s.view_is c.totals-s.ensures)).rules)

pub overflow_sub-result : goal.overflow_sub-result
overflow_sub-result c = omega (arith, c.loop-low.invariant.low, atoms_before (opened c.args.table.ready c.s.view_is c.totals-s.ensures) c.loop-low.low c.atoms_size-2.ensures)

pub returns : goal.returns
returns c = falls_between c.loop-low.invariant c.loop-low-test.false (atoms_before (opened c.args.table.ready c.s.view_is c.totals-s.ensures) _ c.atoms_size-2.ensures)
