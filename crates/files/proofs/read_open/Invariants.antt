use mathlib.Core.Path.{◌≡◌}
use lib.ListN.{length}
use Rattle.files.proofs.Count.{Reads, ahead}
use Rattle.files.proofs.read_open.Given as goal

abbrev pub invariant-loop-f : goal.invariant-loop-f
invariant-loop-f l = (65536 ≡ length l.space) × (Reads l.f l.n)

abbrev pub decreases-loop-f : goal.decreases-loop-f
decreases-loop-f l = ahead l.f
