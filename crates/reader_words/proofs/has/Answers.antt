use Rattle.reader_words.proofs.Words.{word_starts, word_past}
use borrow.Author.Tests.{lt-leb}
use mathlib.Core.Path.{◌∙◌}
use Rattle.reader_words.proofs.has.Goals as goal

pub returns-then-at-text : goal.returns-then-at-text
returns-then-at-text c = word_starts c.args.text.now c.args.word.now c.args.at c.if-at-text.true c.starts_with.ensures.value

pub returns-else-at-text : goal.returns-else-at-text
returns-else-at-text c = lt-leb _ _ c.if-at-text.false ∙ word_past c.args.text.now c.args.word.now c.args.at c.if-at-text.false
