use Rattle.call_results.proofs.Counting.{counted_none, counted_one, counted_no, power_small, counted_fits, counted_all, level_within, level_some, part_true}
use Rattle.encoding.specs.Variables.{Sizes}
use Rattle.truth_clauses.specs.Truth.{value_in}
use native.Mathlib.Omega.{arith}
use mathlib.Core.Path.{sym, subst, ◌∙◌, ap}
use Prim.Native.Nat.{◌≤◌, ◌<◌, ℕ}
use lib.ListN.{length}
use Rattle.call_results.proofs.counter_of.Goals as goal
use Rattle.call_results.proofs.counter_of.Goals.{then-is_true, else-is_true}

pub loop-i-init : goal.loop-i-init
loop-i-init c = counted_none _

pub is_true-requires : goal.is_true-requires
is_true-requires c = (subst (λ (k : ℕ). 0 < k) (sym c.level_var.ensures) (level_some c.args.s c.args.a.0 c.loop-i.i), subst (λ (k : ℕ). k ≤ length c.args.assignment.now) (sym c.level_var.ensures) (level_within c.args.s c.args.a.0 c.loop-i.i _ c.requires.0 c.requires.1 (omega (arith, c.loop-i-test.true, ap (λ (S : Sizes). S.w) c.s.view_is)) c.requires.2))

pub overflow_add-x : goal.overflow_add-x
overflow_add-x c =
    omega (arith, counted_fits c.loop-i.invariant (omega (arith, c.loop-i-test.true, c.s.invariant.bits)) (part_true _ c.loop-i.power (c.is_true.ensures ∙ ap (value_in c.args.assignment.now) c.level_var.ensures) c.if-is_true.true))

pub overflow_mul-power : goal.overflow_mul-power
overflow_mul-power c = omega (arith, power_small c.loop-i.invariant (omega (arith, c.loop-i-test.true, c.s.invariant.bits)))

pub loop-i-preserved : goal.loop-i-preserved
loop-i-preserved c =
    let e = c.is_true.ensures ∙ ap (value_in c.args.assignment.now) c.level_var.ensures in
    elim c.if-is_true.branch [
      | then-is_true w ↦ counted_one c.loop-i.invariant e w.if-is_true.true w.x-is
      | else-is_true w ↦ counted_no c.loop-i.invariant e w.if-is_true.false w.x-is
    ]

pub returns : goal.returns
returns c = counted_all c.loop-i.invariant c.args.s.w (omega (arith, c.loop-i.auto.i-end, ap (λ (S : Sizes). S.w) c.s.view_is)) (omega (arith, c.loop-i-test.false, ap (λ (S : Sizes). S.w) c.s.view_is))
