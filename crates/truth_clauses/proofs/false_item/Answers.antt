use Rattle.truth_clauses.proofs.Fronts.{items_more, item_here, item_nowhere}
use Rattle.truth_clauses.specs.Truth.{value_in}
use Rattle.clause_places.proofs.Steps.{items_is}
use Rattle.clause_table_laws.proofs.Cells.{told}
use Rattle.clause_tables.specs.Tables.{code_in}
use Rattle.numbers.proofs.Found.{some_found, none_found}
use Prim.Native.Nat.{◌+◌}
use native.Mathlib.Omega.{arith}
use Rattle.truth_clauses.proofs.false_item.Goals as goal

pub item_holds-requires : goal.item_holds-requires
item_holds-requires c = (c.requires.0, c.requires.1, omega arith, omega (arith, c.loop-a-test.true, c.items-a-end.ensures, items_is (told c.args.valued.table.ready c.totals.ensures) c.args.g))

pub returns-then-not-item_holds : goal.returns-then-not-item_holds
returns-then-not-item_holds c =
    some_found (c.loop-a.a + 1) (omega arith)
    (item_here (code_in c.args.valued.table.cells.now) (value_in c.args.valued.values.now) c.args.g c.loop-a.a c.loop-a.invariant c.item_holds.ensures (omega (arith, c.loop-a-test.true, c.items-a-end.ensures, items_is (told c.args.valued.table.ready c.totals.ensures) c.args.g)) c.if-not-item_holds.true)

pub loop-a-preserved : goal.loop-a-preserved
loop-a-preserved c = items_more (code_in c.args.valued.table.cells.now) (value_in c.args.valued.values.now) c.args.g c.loop-a.a c.loop-a.invariant c.item_holds.ensures c.if-not-item_holds.false

pub returns : goal.returns
returns c =
    none_found
    (item_nowhere (code_in c.args.valued.table.cells.now) (value_in c.args.valued.values.now) c.args.g c.loop-a.a c.loop-a.invariant (omega (arith, c.loop-a-test.false, c.items-a-end.ensures, items_is (told c.args.valued.table.ready c.totals.ensures) c.args.g)))
