use Rattle.clause_links.proofs.Linking.{linking_from, head_fits, linking_next, linking_end}
use native.Mathlib.Omega.{arith}
use Rattle.clause_links.proofs.add_links.Goals as goal

pub loop-r-init : goal.loop-r-init
loop-r-init c = linking_from _ _ c.requires

pub link-requires : goal.link-requires
link-requires c = let h = head_fits _ _ c.requires _ _ c.loop-r-test.true c.loop-r.auto.r c.head.ensures in (c.loop-r-test.true, omega (arith, c.loop-r.auto.r, c.requires.few_rules), h.0, h.1)

pub loop-r-preserved : goal.loop-r-preserved
loop-r-preserved c = linking_next _ _ c.requires _ _ c.loop-r-test.true c.loop-r.auto.r c.head.ensures _ _ c.loop-r.invariant c.link.ensures

pub returns : goal.returns
returns c = linking_end _ _ _ _ (omega arith) c.loop-r.invariant
