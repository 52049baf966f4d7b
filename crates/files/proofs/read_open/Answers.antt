use mathlib.Core.Path.{sym, ◌∙◌}
use borrow.Author.Tests.{not-true, not-false}
use native.Mathlib.Omega.{arith}
use Rattle.files.proofs.Count.{reads_first, reads_on, reads_counted, counts_kept, ahead_less}
use Rattle.files.proofs.read_open.Goals as goal

pub loop-f-init : goal.loop-f-init
loop-f-init c = (c.large_buffer-space.ensures, reads_first c.read_full-n.result)

pub loop-f-smaller : goal.loop-f-smaller
loop-f-smaller c = ahead_less _ _ (not-true _ c.loop-f-test.true) (omega (arith, c.read_full.ensures.0, c.loop-f.invariant.0)) c.read_on-f.ensures

pub loop-f-preserved : goal.loop-f-preserved
loop-f-preserved c = (c.loop-f.invariant.0 ∙ sym c.read_full.auto.buf, reads_on _ _ c.loop-f.invariant.1 c.read_on-f.ensures)

pub returns : goal.returns
returns c = (counts_kept _ _ c.read_full-n.ensures c.loop-f.invariant.1, reads_counted c.loop-f.invariant.1 (not-false _ c.loop-f-test.false))
