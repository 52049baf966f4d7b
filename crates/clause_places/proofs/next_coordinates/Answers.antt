use mathlib.Core.Path.{refl, sym, ◌∙◌, ap}
use native.Mathlib.Omega.{arith}
use Rattle.clause_places.specs.Ahead.{first_of}
use Rattle.clause_places.proofs.Steps.{nothing_follows, clause_adds, clause_follows}
use Rattle.clause_table_laws.proofs.Cells.{arrays}
use Rattle.clause_places.proofs.next_coordinates.Goals as goal

pub loop-at-init : goal.loop-at-init
loop-at-init c = (c.requires, refl)

pub returns-then-is_over : goal.returns-then-is_over
returns-then-is_over c = c.group_start.ensures ∙ nothing_follows (arrays c.args.table.ready) c.loop-at.at c.loop-at-test.true (sym c.is_over.ensures ∙ c.if-is_over.true) ∙ ap first_of c.loop-at.invariant.1

pub step-at-requires : goal.step-at-requires
step-at-requires c = (c.loop-at.invariant.0, c.loop-at-test.true, sym c.is_over.ensures ∙ c.if-is_over.false)

pub loop-at-smaller : goal.loop-at-smaller
loop-at-smaller c = c.step-at.ensures.nearer

pub loop-at-preserved : goal.loop-at-preserved
loop-at-preserved c = (c.step-at.ensures.within, c.step-at.ensures.same ∙ c.loop-at.invariant.1)

pub overflow_add-result : goal.overflow_add-result
overflow_add-result c = omega (arith, clause_adds (arrays c.args.table.ready) c.loop-at.at c.loop-at.invariant.0 c.loop-at-test.false)

pub returns : goal.returns
returns c = clause_follows (arrays c.args.table.ready) c.loop-at.at c.loop-at.invariant.0 c.loop-at-test.false ∙ ap first_of c.loop-at.invariant.1
