use mathlib.Core.Path.{refl}
use Rattle.reader_fast.proofs.Pieces.{goes_bodies}
use Rattle.reader_fast.proofs.take_body_atoms.Goals as goal

pub loop-bodies-init : goal.loop-bodies-init
loop-bodies-init c = λ heads starts. refl

pub returns-then-q-p : goal.returns-then-q-p
returns-then-q-p c = goes_bodies _ _ _ _ _ _ _ c.loop-bodies.invariant c.take_body_atom-q.ensures

pub loop-bodies-preserved : goal.loop-bodies-preserved
loop-bodies-preserved c = goes_bodies _ _ _ _ _ _ _ c.loop-bodies.invariant c.take_body_atom-q.ensures

pub returns : goal.returns
returns c = c.loop-bodies.invariant
