use native.Mathlib.Omega.{arith}
use Rattle.answer_quick.specs.Quick.{Gives}
use Rattle.answer_quick.proofs.Passing.{ends_short, none_ends, size_few, stray_ends, old_ends, some_goes}
use Rattle.answer_quick.proofs.literals_from.Goals as goal

pub loop-p-init : goal.loop-p-init
loop-p-init c = (c.requires, Gives.none)

pub returns-in_default : goal.returns-in_default
returns-in_default c = none_ends c.args.answer.now c.loop-p.p _ c.quick_at.ensures _ _ _ _ c.loop-p.invariant.1 c.in_default.is

pub returns-then-values-q : goal.returns-then-values-q
returns-then-values-q c = stray_ends c.args.answer.now c.loop-p.p _ c.quick_at.ensures _ _ _ _ c.loop-p.invariant.1 _ c.in-Some.is (omega (arith, c.if-values-q.true))

pub returns-then-values-i-ne2 : goal.returns-then-values-i-ne2
returns-then-values-i-ne2 c = old_ends c.args.answer.now c.loop-p.p _ c.quick_at.ensures _ _ _ _ c.loop-p.invariant.1 _ c.in-Some.is (omega (arith, c.if-values-q.false)) (λ z. omega (arith, z, c.if-values-i-ne2.true))

pub overflow_add-p : goal.overflow_add-p
overflow_add-p c = omega (arith, size_few c.args.answer.now c.loop-p.p _ c.quick_at.ensures _ c.in-Some.is (omega (arith, c.loop-p.invariant.0, c.loop-p-test.true)), c.loop-p.invariant.0, c.loop-p-test.true)

pub loop-p-smaller : goal.loop-p-smaller
loop-p-smaller c = omega (arith, size_few c.args.answer.now c.loop-p.p _ c.quick_at.ensures _ c.in-Some.is (omega (arith, c.loop-p.invariant.0, c.loop-p-test.true)), c.loop-p.invariant.0, c.loop-p-test.true)

pub loop-p-preserved : goal.loop-p-preserved
loop-p-preserved c = (
  omega (arith, size_few c.args.answer.now c.loop-p.p _ c.quick_at.ensures _ c.in-Some.is (omega (arith, c.loop-p.invariant.0, c.loop-p-test.true)), c.loop-p.invariant.0, c.loop-p-test.true),
  some_goes c.args.answer.now c.loop-p.p _ c.quick_at.ensures _ _ _ _ c.loop-p.invariant.1 _ c.in-Some.is (omega (arith, c.loop-p.invariant.0, c.loop-p-test.true)) (omega (arith, c.if-values-q.false)) (omega (arith, c.if-values-i-ne2.false)) _ c.from.ensures,
)

pub returns : goal.returns
returns c = ends_short _ _ _ _ _ _ c.loop-p.invariant.1 c.loop-p-test.false
