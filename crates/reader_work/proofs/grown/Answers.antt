use Rattle.reader_work.specs.Work.{grown_of}
use borrow.Author.Tests.{lt-ltb, le-ltb}
use mathlib.Core.Path.{◌∙◌}
use Rattle.reader_work.proofs.Numbers.{capped}
use Rattle.reader_work.proofs.grown.Goals as goal

pub returns-then-value-gt999 : goal.returns-then-value-gt999
unfolding grown_of
returns-then-value-gt999 c = simp (lt-ltb _ _ c.if-value-gt999.true)

pub returns-then-b-lt48 : goal.returns-then-b-lt48
unfolding grown_of
returns-then-b-lt48 c = simp (le-ltb _ _ c.if-value-gt999.false, lt-ltb _ _ c.if-b-lt48.true)

pub returns-else-b-lt48 : goal.returns-else-b-lt48
unfolding grown_of
returns-else-b-lt48 c = simp (le-ltb _ _ c.if-value-gt999.false, le-ltb _ _ c.if-b-lt48.false, ← c.from.ensures) (c.min.ensures ∙ capped _)
