use Rattle.reader_work.specs.Work.{start_stored}
use borrow.Author.Tests.{lt-ltb, le-ltb}
use native.Mathlib.Omega.{arith}
use Rattle.reader_work.proofs.close_list.Goals as goal

pub returns-then-c-lt-MAX_RULES : goal.returns-then-c-lt-MAX_RULES
unfolding start_stored
returns-then-c-lt-MAX_RULES c = simp (le-ltb 499 c.args.c.rules (omega arith), lt-ltb _ _ c.requires, c.from.ensures)

pub returns-else-c-lt-MAX_RULES : goal.returns-else-c-lt-MAX_RULES
unfolding start_stored
returns-else-c-lt-MAX_RULES c = simp (lt-ltb 499 c.args.c.rules (omega arith))
