use Prim.Native.Nat.{◌+◌}
use Rattle.clause_places.proofs.Steps.{item_adds, item_onward, group_onward}
use native.Mathlib.Omega.{arith}
use Rattle.clause_table_laws.proofs.Cells.{told}
use Rattle.clause_places.proofs.step.Goals as goal

pub overflow_add-result : goal.overflow_add-result
overflow_add-result c = omega (arith, item_adds (told c.args.table.ready c.totals-t.ensures) c.requires.0 c.requires.1 c.if-c-gt0.false c.if-c-gt0-2.true)

pub returns-then-c-gt0-2 : goal.returns-then-c-gt0-2
returns-then-c-gt0-2 c = item_onward (told c.args.table.ready c.totals-t.ensures) c.requires.0 c.requires.1 c.if-c-gt0.false c.if-c-gt0-2.true c.block_count.ensures

pub overflow_add-g : goal.overflow_add-g
overflow_add-g c = omega (arith, c.requires.0.group_in)

pub returns : goal.returns
returns c = group_onward (told c.args.table.ready c.totals-t.ensures) c.requires.0 c.requires.1 c.requires.2 c.if-c-gt0.false c.if-c-gt0-2.false c.items.ensures c.group_start.ensures
