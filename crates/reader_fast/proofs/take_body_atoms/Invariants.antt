use Prim.Native.Nat.{◌-◌}
use Rattle.reader_words.specs.Standing.{GoesBodies}
use Rattle.reader_fast.proofs.take_body_atoms.Given as goal

abbrev pub invariant-loop-bodies : goal.invariant-loop-bodies
invariant-loop-bodies l = GoesBodies l.initial.p l.initial.bodies l.p l.bodies l.text

abbrev pub decreases-loop-bodies : goal.decreases-loop-bodies
decreases-loop-bodies l = 18446744073709551616 - l.p.at
