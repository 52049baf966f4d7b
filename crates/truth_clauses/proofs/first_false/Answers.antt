use Rattle.numbers.proofs.Found.{found_is, found_some, found_none, none_found}
use Rattle.truth_clauses.proofs.Fronts.{item_found, groups_more, all_groups}
use Rattle.truth_clauses.specs.Truth.{value_in}
use Rattle.clause_table_laws.proofs.Cells.{arrays}
use Rattle.clause_tables.specs.Tables.{code_in}
use native.Mathlib.Omega.{arith}
use Rattle.truth_clauses.proofs.first_false.Goals as goal

pub false_item-requires : goal.false_item-requires
false_item-requires c = (omega arith, omega (arith, c.loop-g-test.true))

pub false_in-requires : goal.false_in-requires
false_in-requires c =
    item_found (code_in c.args.valued.table.cells.now) (value_in c.args.valued.values.now) c.loop-g.g c.loop-g.invariant (found_is _ c.in-Some.ensures) (omega (arith, c.loop-g-test.true)) (found_some _ c.in-Some.ensures)

pub loop-g-preserved : goal.loop-g-preserved
loop-g-preserved c = groups_more (code_in c.args.valued.table.cells.now) (value_in c.args.valued.values.now) c.loop-g.g c.loop-g.invariant (found_none _ c.in_default.ensures) (omega arith)

pub returns : goal.returns
returns c = none_found (all_groups (arrays c.args.valued.table.ready) c.args.valued.values.now (omega (arith, c.loop-g-test.false)) c.loop-g.auto.g-end c.loop-g.invariant)
