use Rattle.reader_work.specs.Work.{opened_of}
use borrow.Author.Tests.{lt-ltb, le-ltb}
use Rattle.reader_work.proofs.open_rule.Goals as goal

pub returns-then-c-lt-MAX_RULES : goal.returns-then-c-lt-MAX_RULES
unfolding opened_of
returns-then-c-lt-MAX_RULES c = simp (lt-ltb _ _ c.if-c-lt-MAX_RULES.true)

pub returns : goal.returns
unfolding opened_of
returns c = simp (le-ltb _ _ c.if-c-lt-MAX_RULES.false) c.refused.ensures
