use Prim.Native.Nat.{◌+◌}
use native.Mathlib.Omega.{arith}
use mathlib.Core.Path.{sym, ◌∙◌, subst}
use Rattle.clause_tabling.specs.declared.Tally.{Tally}
use Rattle.clause_tabling.specs.Stages.{arrays_of}
use Rattle.clause_tabling.proofs.Sums.{Summed, below, starts_fit, start_size, summed_start, tally_fits, summed_next, summed_end}
use Rattle.clause_tabling.proofs.Totals.{counts_bounded, totals_made}
use Rattle.clause_tabling.proofs.totals_of.Goals as goal

pub loop-r-init : goal.loop-r-init
loop-r-init c = λ hs bs s. summed_start _

pub bounds-starts-r : goal.bounds-starts-r
bounds-starts-r c = (starts_fit _ c.requires.stored _ (below c.loop-r-test.true c.from-r-end.ensures)).0

pub bounds-starts-r-in-loop-r : goal.bounds-starts-r-in-loop-r
bounds-starts-r-in-loop-r c = omega (arith, (starts_fit _ c.requires.stored _ (below c.loop-r-test.true c.from-r-end.ensures)).0)

pub overflow_sub-starts : goal.overflow_sub-starts
overflow_sub-starts c = omega (arith, (starts_fit _ c.requires.stored _ (below c.loop-r-test.true c.from-r-end.ensures)).1)

pub count-requires : goal.count-requires
count-requires c =
    let s = c.requires.stored in let h = below c.loop-r-test.true c.from-r-end.ensures in
    tally_fits _ s _ _ (c.loop-r.invariant _ _ s) h _ (start_size _ s _ h _ c.from.ensures)

pub loop-r-preserved : goal.loop-r-preserved
loop-r-preserved c =
    let h = below c.loop-r-test.true c.from-r-end.ensures in
    λ hs bs s. subst (λ (t : Tally). Summed (arrays_of c.args.n c.args.m c.args.held hs c.args.starts.now bs) (c.loop-r.r + 1) t) (sym c.count.ensures) (summed_next _ s _ _ (c.loop-r.invariant hs bs s) h _ (start_size _ s _ h _ c.from.ensures))

pub totals_from-requires : goal.totals_from-requires
totals_from-requires c =
    let s = c.requires.stored in
    counts_bounded _ s _ (summed_end _ s _ _ (c.loop-r.invariant _ _ s) (omega arith))

pub returns : goal.returns
returns c = λ hs bs s. c.totals_from.ensures.is ∙ totals_made _ s _ (summed_end _ s _ _ (c.loop-r.invariant hs bs s) (omega arith))
