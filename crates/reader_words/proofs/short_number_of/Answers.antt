use borrow.Author.Tests.{lt-ltb, le-ltb}
use Rattle.reader_words.proofs.Digits.{digit_low}
use Rattle.reader_words.specs.Standing.{short_number_of}
use Rattle.reader_words.proofs.short_number_of.Goals as goal
use Rattle.reader_words.proofs.short_number_of.Goals.{then-a-lt49-via-then-a-lt49, then-a-lt49-via-else-a-lt49+then-a-gt57}

pub returns-then-a-lt49 : goal.returns-then-a-lt49
unfolding short_number_of
returns-then-a-lt49 c =
    elim c.then-a-lt49.branch [
      | then-a-lt49-via-then-a-lt49 w ↦ simp (lt-ltb _ _ w.if-a-lt49.true)
      | then-a-lt49-via-else-a-lt49+then-a-gt57 w ↦ simp (le-ltb _ _ w.if-a-lt49.false, lt-ltb _ _ w.if-a-gt57.true)
    ]

pub returns-then-not-is_digit : goal.returns-then-not-is_digit
unfolding short_number_of
returns-then-not-is_digit c = simp (le-ltb _ _ c.if-a-lt49.false, le-ltb _ _ c.if-a-gt57.false, ← c.is_digit.ensures, c.if-not-is_digit.true, c.from-x.ensures)

pub overflow_sub-b : goal.overflow_sub-b
overflow_sub-b c = digit_low _ _ c.is_digit.ensures c.if-not-is_digit.false

pub returns-then-not-is_digit-2 : goal.returns-then-not-is_digit-2
unfolding short_number_of
returns-then-not-is_digit-2 c = simp (le-ltb _ _ c.if-a-lt49.false, le-ltb _ _ c.if-a-gt57.false, ← c.is_digit.ensures, ← c.is_digit-2.ensures, c.if-not-is_digit.false, c.if-not-is_digit-2.true, c.from-x.ensures, c.from.ensures)

pub overflow_sub-c : goal.overflow_sub-c
overflow_sub-c c = digit_low _ _ c.is_digit-2.ensures c.if-not-is_digit-2.false

pub returns : goal.returns
unfolding short_number_of
returns c = simp (le-ltb _ _ c.if-a-lt49.false, le-ltb _ _ c.if-a-gt57.false, ← c.is_digit.ensures, ← c.is_digit-2.ensures, c.if-not-is_digit.false, c.if-not-is_digit-2.false, c.from-x.ensures, c.from.ensures, c.from-2.ensures)
