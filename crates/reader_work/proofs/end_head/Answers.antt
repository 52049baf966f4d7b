use Rattle.reader_work.specs.Work.{head_ended, head_stored}
use borrow.Author.Tests.{lt-ltb, le-ltb, eq-eqb, ne_eqb}
use native.Mathlib.Nat.{add-sub_cancel}
use mathlib.Core.Path.{refl}
use Rattle.reader_work.proofs.end_head.Goals as goal
use Rattle.reader_work.proofs.end_head.Goals.{then-x-eq0-via-then-x-eq0, then-x-eq0-via-else-x-eq0+then-c-x}

pub returns-then-x-eq0 : goal.returns-then-x-eq0
unfolding head_ended head_stored
returns-then-x-eq0 c =
    elim c.then-x-eq0.branch [
      | then-x-eq0-via-then-x-eq0 w ↦ simp (eq-eqb _ _ w.if-x-eq0.true) (c.refused.ensures, refl)
      | then-x-eq0-via-else-x-eq0+then-c-x w ↦ simp (ne_eqb _ _ w.if-x-eq0.false, lt-ltb _ _ w.if-c-x.true) (c.refused.ensures, refl)
    ]

pub returns-then-c-lt-MAX_RULES : goal.returns-then-c-lt-MAX_RULES
unfolding head_ended head_stored
returns-then-c-lt-MAX_RULES c = simp (ne_eqb _ _ c.if-x-eq0.false, le-ltb _ _ c.if-c-x.false, lt-ltb _ _ c.if-c-lt-MAX_RULES.true, c.put_head.ensures, add-sub_cancel) (refl, refl)

pub returns-else-c-lt-MAX_RULES : goal.returns-else-c-lt-MAX_RULES
unfolding head_ended head_stored
returns-else-c-lt-MAX_RULES c = simp (ne_eqb _ _ c.if-x-eq0.false, le-ltb _ _ c.if-c-x.false, le-ltb _ _ c.if-c-lt-MAX_RULES.false) (refl, refl)
