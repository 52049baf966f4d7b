use Rattle.reader_work.specs.Work.{rule_shut}
use borrow.Author.Tests.{lt-ltb, le-ltb}
use Rattle.reader_work.proofs.close_rule.Goals as goal

pub returns-then-c-ge-MAX_RULES : goal.returns-then-c-ge-MAX_RULES
unfolding rule_shut
returns-then-c-ge-MAX_RULES c = simp (le-ltb _ _ c.if-c-ge-MAX_RULES.true)

pub returns : goal.returns
unfolding rule_shut
returns c = simp (lt-ltb _ _ c.if-c-ge-MAX_RULES.false)
