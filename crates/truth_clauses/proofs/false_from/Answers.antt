use Rattle.numbers.proofs.Found.{some_found, none_found}
use Rattle.truth_clauses.proofs.Clauses.{clause_passed, clause_false, ended}
use Rattle.clause_places.proofs.Numbers.{number_is}
use Rattle.clause_table_laws.proofs.Cells.{arrays}
use Rattle.clause_tables.specs.declared.Totals.{Totals}
use native.Mathlib.Omega.{arith}
use mathlib.Core.Path.{ap}
use Rattle.truth_clauses.proofs.false_from.Goals as goal

pub loop-at-init : goal.loop-at-init
loop-at-init c = c.requires

pub line_holds-requires : goal.line_holds-requires
line_holds-requires c = (c.loop-at.invariant.some, c.args.valued.long)

pub returns-then-not-line_holds : goal.returns-then-not-line_holds
returns-then-not-line_holds c = some_found c.loop-at.at.number c.loop-at.invariant.some (clause_false (arrays c.args.valued.table.ready) c.args.valued.values.now c.loop-at.invariant (omega (arith, c.loop-at-test.true, ap (λ (t : Totals). t.clauses) c.totals-t.ensures)) c.line_holds.ensures c.if-not-line_holds.true)

pub invariant_of-line : goal.invariant_of-line
invariant_of-line c = record { stands = c.loop-at.invariant.own; within = omega (arith, c.loop-at-test.true, ap (λ (t : Totals). t.clauses) c.totals-t.ensures) }

pub loop-at-smaller : goal.loop-at-smaller
loop-at-smaller c = omega (arith, number_is (arrays c.args.valued.table.ready) c.next-at.ensures, c.loop-at-test.true, ap (λ (t : Totals). t.clauses) c.totals-t.ensures)

pub loop-at-preserved : goal.loop-at-preserved
loop-at-preserved c = clause_passed (arrays c.args.valued.table.ready) c.args.valued.values.now c.loop-at.invariant (omega (arith, c.loop-at-test.true, ap (λ (t : Totals). t.clauses) c.totals-t.ensures)) c.line_holds.ensures c.if-not-line_holds.false c.next-at.ensures

pub returns : goal.returns
returns c = none_found (ended (arrays c.args.valued.table.ready) c.args.valued.values.now c.loop-at.invariant (omega (arith, c.loop-at-test.false, ap (λ (t : Totals). t.clauses) c.totals-t.ensures)))
