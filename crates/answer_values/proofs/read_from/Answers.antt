use native.Mathlib.Omega.{arith}
use lib.ListN.{length}
use mathlib.Core.Path.{refl, ◌∙◌}
use Rattle.answer_reader.proofs.Whole.{model_goes, model_ends, model_breaks}
use Rattle.answer_values.proofs.OnePass.{pass_goes, pass_ends, read_told}
use Rattle.answer_values.proofs.Passing.{next_keeps}
use Rattle.answer_values.proofs.Taking.{ok_is, given_took, last_none, left_none, took_positive, took_small}
use Rattle.answer_values.proofs.read_from.Goals as goal

pub loop-x-init : goal.loop-x-init
loop-x-init c = (c.requires.0, refl, refl, refl)

pub put_next_value-outcome-requires : goal.put_next_value-outcome-requires
put_next_value-outcome-requires c = let w = given_took c.args.answer.now _ _ c.next_from-n.ensures _ _ _ (ok_is c.in-Ok-Literal.is (rw c.in-Ok-Literal.is at c.in-Ok-Literal.field-0-is)) in
    (took_positive c.args.answer.now _ _ _ _ w, took_small c.args.answer.now _ _ _ _ w, omega (arith, c.pass_literals-p.auto.values, c.loop-x.auto.values, c.requires.1))

pub loop-x-smaller : goal.loop-x-smaller
loop-x-smaller c = let w = given_took c.args.answer.now _ _ c.next_from-n.ensures _ _ _ (ok_is c.in-Ok-Literal.is (rw c.in-Ok-Literal.is at c.in-Ok-Literal.field-0-is)) in
    let k = next_keeps c.args.answer.now (length c.args.values.now) c.loop-x.p c.loop-x.values c.loop-x.invariant.0 c.loop-x.outcome _ _ (rw c.loop-x.auto.values at c.pass_literals-p.ensures) in
    omega (arith, k.further, w.place.further, w.place.within)

pub loop-x-preserved : goal.loop-x-preserved
loop-x-preserved c = let w = given_took c.args.answer.now _ _ c.next_from-n.ensures _ _ _ (ok_is c.in-Ok-Literal.is (rw c.in-Ok-Literal.is at c.in-Ok-Literal.field-0-is)) in
    let k = next_keeps c.args.answer.now (length c.args.values.now) c.loop-x.p c.loop-x.values c.loop-x.invariant.0 c.loop-x.outcome _ _ (rw c.loop-x.auto.values at c.pass_literals-p.ensures) in
    let m = model_goes c.args.answer.now c.args.from _ k.within _ c.next_from-n.ensures _ _ _ (ok_is c.in-Ok-Literal.is (rw c.in-Ok-Literal.is at c.in-Ok-Literal.field-0-is)) in
    let g = pass_goes c.args.answer.now _ _ _ _ w (length c.args.values.now) c.requires.1 c.pass_literals-p.new.values _ _ c.loop-x.outcome (rw (c.pass_literals-p.auto.values, c.loop-x.auto.values) at c.put_next_value-outcome.ensures) in (
      m.1,
      m.2 ∙ k.form c.args.from ∙ c.loop-x.invariant.1,
      g.0 ∙ k.outcome ∙ c.loop-x.invariant.2,
      g.1 ∙ k.bytes ∙ c.loop-x.invariant.3,
    )

pub returns-in-Ok-Last : goal.returns-in-Ok-Last
returns-in-Ok-Last c = let k = next_keeps c.args.answer.now (length c.args.values.now) c.loop-x.p c.loop-x.values c.loop-x.invariant.0 c.loop-x.outcome _ _ (rw c.loop-x.auto.values at c.pass_literals-p.ensures) in
    let g = pass_ends c.args.answer.now _ (length c.args.values.now) c.pass_literals-p.new.values (last_none c.args.answer.now _ _ c.next_from-n.ensures _ (ok_is c.in-Ok-Last.is (rw c.in-Ok-Last.is at c.in-Ok-Last.field-0-is))) c.loop-x.outcome in
    let m = model_ends c.args.answer.now c.args.from _ _ c.next_from-n.ensures _ (ok_is c.in-Ok-Last.is (rw c.in-Ok-Last.is at c.in-Ok-Last.field-0-is)) _ c.close.ensures _ c.closed_form-form.ensures ∙ k.form c.args.from ∙ c.loop-x.invariant.1 in
    let w = read_told _ m (g.0 ∙ k.outcome ∙ c.loop-x.invariant.2) c.answer_read.ensures.0 (rw (c.pass_literals-p.auto.values, c.loop-x.auto.values) at c.answer_read.ensures.1) (rw (c.pass_literals-p.auto.values, c.loop-x.auto.values) at c.answer_read.ensures.2) in
    (w.0, w.1, w.2, g.1 ∙ k.bytes ∙ c.loop-x.invariant.3)

pub returns-in-Err : goal.returns-in-Err
returns-in-Err c = let k = next_keeps c.args.answer.now (length c.args.values.now) c.loop-x.p c.loop-x.values c.loop-x.invariant.0 c.loop-x.outcome _ _ (rw c.loop-x.auto.values at c.pass_literals-p.ensures) in
    let g = pass_ends c.args.answer.now _ (length c.args.values.now) c.pass_literals-p.new.values (left_none c.args.answer.now _ _ c.next_from-n.ensures _ c.in-Err.is) c.loop-x.outcome in
    let m = model_breaks c.args.answer.now c.args.from _ _ c.next_from-n.ensures _ c.in-Err.is ∙ k.form c.args.from ∙ c.loop-x.invariant.1 in
    let w = read_told _ m (g.0 ∙ k.outcome ∙ c.loop-x.invariant.2) c.answer_read-in-Err.ensures.0 (rw (c.pass_literals-p.auto.values, c.loop-x.auto.values) at c.answer_read-in-Err.ensures.1) c.answer_read-in-Err.ensures.2 in
    (w.0, w.1, w.2, g.1 ∙ k.bytes ∙ c.loop-x.invariant.3)
