use Rattle.reader_work.specs.Work.{atoms_ended}
use borrow.Author.Tests.{lt-ltb, le-ltb}
use Rattle.reader_work.proofs.end_atoms.Goals as goal

pub returns-then-x-gt-MAX_ATOMS : goal.returns-then-x-gt-MAX_ATOMS
unfolding atoms_ended
returns-then-x-gt-MAX_ATOMS c = simp (lt-ltb _ _ c.if-x-gt-MAX_ATOMS.true) c.refused.ensures

pub returns : goal.returns
unfolding atoms_ended
returns c = simp (le-ltb _ _ c.if-x-gt-MAX_ATOMS.false)
