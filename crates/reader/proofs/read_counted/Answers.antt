use Rattle.reader.proofs.Counted.{counted_long, counted_short}
use mathlib.Core.Path.{◌∙◌}
use Rattle.reader.proofs.read_counted.Goals as goal

pub returns-then-total-gt-MAX_TEXT : goal.returns-then-total-gt-MAX_TEXT
returns-then-total-gt-MAX_TEXT c = c.refuse.ensures ∙ counted_long c.args.front.now c.args.total c.if-total-gt-MAX_TEXT.true

pub returns : goal.returns
returns c = c.read.ensures ∙ counted_short c.args.front.now c.args.total c.if-total-gt-MAX_TEXT.false
