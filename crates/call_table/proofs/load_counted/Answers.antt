use Rattle.call_table.proofs.Reading.{loaded_counted, loaded_overlong}
use Rattle.call_table.proofs.load_counted.Goals as goal

pub returns-then-total-gt-MAX_TEXT : goal.returns-then-total-gt-MAX_TEXT
returns-then-total-gt-MAX_TEXT c = loaded_overlong c.args.front.now _ _ c.if-total-gt-MAX_TEXT.true

pub returns : goal.returns
returns c = loaded_counted c.args.front.now _ c.if-total-gt-MAX_TEXT.false c.load.ensures
