use Prim.Native.Nat.{ℕ}
use native.Mathlib.Omega.{arith}
use mathlib.Core.Bool.{true, false}
use mathlib.Core.Path.{◌≡◌, refl, ◌∙◌, ap}
use Rattle.reader_work.specs.Numbers.{tally}
use Rattle.reader_work.specs.Work.{refused_of}
use Rattle.reader_work.proofs.Numbers.{counts_stay}
use Rattle.reader_words.specs.Standing.{read_rest}
use Rattle.reader.proofs.Loop.{goes, dies, stops_place, stops_mode, stops, advanced, dead_is, place_is}
use Rattle.reader.proofs.finish.Goals as goal
use Rattle.reader.proofs.finish.Goals.{then-x-ne-FORM_RULE-via-then-x-ne-FORM_RULE, then-x-ne-FORM_RULE-via-else-x-ne-FORM_RULE+then-ne}

pub loop-i-init : goal.loop-i-init
unfolding read_rest
loop-i-init c = (rw c.from.ensures, omega arith, refl)

pub returns-then-eq-clause-ends : goal.returns-then-eq-clause-ends
returns-then-eq-clause-ends c = dies _ _ _ _ c.loop-i.invariant.0 _ c.loop-i-test.true (dead_is _ _ _ _ _ true c.step-p.ensures c.eq.ensures c.if-eq.true) c.refused.ensures

pub loop-i-preserved : goal.loop-i-preserved
loop-i-preserved c = (
  goes _ _ _ _ c.loop-i.invariant.0 _ c.loop-i-test.true (dead_is _ _ _ _ _ false c.step-p.ensures c.eq.ensures c.if-eq.false)
      (advanced _ _ _ _ _ _ _ c.loop-i.program c.step-p.ensures c.work-c.ensures.counts c.work-c.ensures.arrays c.token_after-x.ensures),
  omega arith,
  counts_stay c.args.program.now c.loop-i.program c.work-c.ensures.arrays c.loop-i.invariant.2,
)

pub returns-then-x-ne-FORM_RULE-clause-ends : goal.returns-then-x-ne-FORM_RULE-clause-ends
returns-then-x-ne-FORM_RULE-clause-ends c =
    let m : c.max.result ≡ c.loop-i.i = omega (arith, c.loop-i.invariant.1, c.max.ensures) in
    let e = c.refused-then-x-ne-FORM_RULE.ensures ∙ ap (λ (n : ℕ). refused_of (tally c.loop-i.c) 2 n) m in
    elim c.then-x-ne-FORM_RULE.branch [
      | then-x-ne-FORM_RULE-via-then-x-ne-FORM_RULE w ↦ stops_place _ _ _ _ c.loop-i.invariant.0 _ c.loop-i-test.false w.if-x-ne-FORM_RULE.true e
      | then-x-ne-FORM_RULE-via-else-x-ne-FORM_RULE+then-ne w ↦
          stops_mode _ _ _ _ c.loop-i.invariant.0 _ c.loop-i-test.false w.if-x-ne-FORM_RULE.false (place_is _ _ false w.ne.ensures w.if-ne.true) e
    ]

pub returns-clause-ends : goal.returns-clause-ends
returns-clause-ends c = stops _ _ _ _ c.loop-i.invariant.0 c.loop-i-test.false c.if-x-ne-FORM_RULE.false (place_is _ _ true c.ne.ensures c.if-ne.false)
