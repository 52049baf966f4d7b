use Rattle.clause_counts.proofs.Before.{groups_more, groups_add, groups_done, groups_before_last, last_short}
use Rattle.clause_table_laws.proofs.Cells.{arrays, opened}
use native.Mathlib.Omega.{arith}
use Rattle.clause_counts.proofs.groups_size.Goals as goal

pub overflow_sub-result : goal.overflow_sub-result
overflow_sub-result c = last_short (opened c.args.table.ready c.s.view_is c.totals-t.ensures) c.from.ensures

pub returns-then-g-eq-GROUPS : goal.returns-then-g-eq-GROUPS
returns-then-g-eq-GROUPS c = groups_before_last (opened c.args.table.ready c.s.view_is c.totals-t.ensures) c.from.ensures c.if-g-eq-GROUPS.true

pub group_size-n-requires : goal.group_size-n-requires
group_size-n-requires c = (c.loop-h.auto.h, omega (arith, c.loop-h-test.true, c.requires.1, c.if-g-eq-GROUPS.false))

pub overflow_add-n : goal.overflow_add-n
overflow_add-n c = omega (arith, groups_add (arrays c.args.table.ready) c.loop-h.auto.h c.loop-h.invariant c.group_size-n.ensures (omega (arith, c.loop-h-test.true, c.requires.1)))

pub loop-h-preserved : goal.loop-h-preserved
loop-h-preserved c = groups_more (arrays c.args.table.ready) c.loop-h.auto.h c.loop-h.invariant c.group_size-n.ensures

pub returns : goal.returns
returns c = groups_done (arrays c.args.table.ready) (c.loop-h.auto.h-end c.requires.0) c.loop-h-test.false c.loop-h.invariant
