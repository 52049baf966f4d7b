use Rattle.reader_work.specs.Work.{body_ended, body_stored}
use borrow.Author.Tests.{lt-ltb, le-ltb, eq-eqb, ne_eqb, le-leb, lt-leb}
use mathlib.Core.Path.{refl}
use Rattle.reader_work.proofs.end_body.Goals as goal
use Rattle.reader_work.proofs.end_body.Goals.{then-x-eq0-via-then-x-eq0, then-x-eq0-via-else-x-eq0+then-c-x}

pub returns-then-x-eq0 : goal.returns-then-x-eq0
unfolding body_ended body_stored
returns-then-x-eq0 c =
    elim c.then-x-eq0.branch [
      | then-x-eq0-via-then-x-eq0 w ↦ simp (eq-eqb _ _ w.if-x-eq0.true) (c.refused.ensures, refl)
      | then-x-eq0-via-else-x-eq0+then-c-x w ↦ simp (ne_eqb _ _ w.if-x-eq0.false, lt-ltb _ _ w.if-c-x.true) (c.refused.ensures, refl)
    ]

pub returns-then-x-c : goal.returns-then-x-c
unfolding body_ended body_stored
returns-then-x-c c = simp (ne_eqb _ _ c.if-x-eq0.false, le-ltb _ _ c.if-c-x.false, le-leb _ _ c.if-x-c.true) (c.refused-then-x-c.ensures, refl)

pub returns-then-c-ge-MAX_BODY_ATOMS : goal.returns-then-c-ge-MAX_BODY_ATOMS
unfolding body_ended body_stored
returns-then-c-ge-MAX_BODY_ATOMS c = simp (ne_eqb _ _ c.if-x-eq0.false, le-ltb _ _ c.if-c-x.false, lt-leb _ _ c.if-x-c.false, le-ltb _ _ c.if-c-ge-MAX_BODY_ATOMS.true) (c.refused-then-c-ge-MAX_BODY_ATOMS.ensures, refl)

pub returns : goal.returns
unfolding body_ended body_stored
returns c = simp (ne_eqb _ _ c.if-x-eq0.false, le-ltb _ _ c.if-c-x.false, lt-leb _ _ c.if-x-c.false, lt-ltb _ _ c.if-c-ge-MAX_BODY_ATOMS.false, c.put_body.ensures, c.from.ensures) (refl, refl)
