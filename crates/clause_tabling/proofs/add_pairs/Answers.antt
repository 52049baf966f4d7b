use Prim.Native.Nat.{◌+◌}
use native.Mathlib.Omega.{arith}
use mathlib.Core.Path.{sym, subst}
use Rattle.clause_tabling.specs.declared.Tally.{Tally}
use Rattle.clause_tabling.proofs.Held.{heads_held}
use Rattle.clause_tabling.proofs.Turns.{Filled, filled_start, filled_next, filled_end}
use Rattle.clause_tabling.proofs.Sums.{below, body_size, tally_fits, summed_end}
use Rattle.clause_tabling.proofs.add_pairs.Goals as goal

pub loop-r-init : goal.loop-r-init
loop-r-init c = filled_start _ _ c.requires.1

pub bounds-table-r : goal.bounds-table-r
bounds-table-r c = omega (arith, (heads_held _ c.requires.0).few)

pub bounds-p-r : goal.bounds-p-r
bounds-p-r c = omega (arith, (heads_held _ c.requires.0).few)

pub store-requires : goal.store-requires
store-requires c =
    let h = below c.loop-r-test.true c.from-rules.ensures in
    omega (arith, c.from.ensures, (tally_fits _ c.requires.0 _ _ c.loop-r.invariant.sums h _ (body_size _ c.requires.0 _ h _ c.positive-body.ensures)).0)

pub count-requires : goal.count-requires
count-requires c =
    let h = below c.loop-r-test.true c.from-rules.ensures in
    tally_fits _ c.requires.0 _ _ c.loop-r.invariant.sums h _ (body_size _ c.requires.0 _ h _ c.positive-body.ensures)

pub loop-r-preserved : goal.loop-r-preserved
loop-r-preserved c = let h = below c.loop-r-test.true c.from-rules.ensures in subst (λ (t : Tally). Filled c.args.p.now (c.loop-r.r + 1) c.store.new.table t) (sym c.count.ensures) (filled_next _ c.requires.0 _ _ _ c.loop-r.invariant h _ _ _ c.positive-body.ensures c.from.ensures c.store.ensures)

pub returns : goal.returns
returns c = (filled_end _ c.requires.0 _ _ _ c.loop-r.invariant _ (omega arith) c.from-rules.ensures, summed_end _ c.requires.0 _ _ c.loop-r.invariant.sums (omega arith))
