use borrow.Author.Tests.{lt-ltb, le-ltb}
use Rattle.reader_words.specs.Standing.{short_number_at}
use Rattle.reader_words.proofs.short_number_at.Goals as goal
use Rattle.reader_words.proofs.short_number_at.Goals.{then-text-lt4-via-then-text-lt4, then-text-lt4-via-else-text-lt4+then-text-at}

pub returns-then-text-lt4 : goal.returns-then-text-lt4
unfolding short_number_at
returns-then-text-lt4 c =
    elim c.then-text-lt4.branch [
      | then-text-lt4-via-then-text-lt4 w ↦ simp (lt-ltb _ _ w.if-text-lt4.true)
      | then-text-lt4-via-else-text-lt4+then-text-at w ↦ simp (le-ltb _ _ w.if-text-lt4.false, lt-ltb _ _ w.if-text-at.true)
    ]

pub returns : goal.returns
unfolding short_number_at
returns c = simp (le-ltb _ _ c.if-text-lt4.false, le-ltb _ _ c.if-text-at.false) c.short_number_of.ensures
