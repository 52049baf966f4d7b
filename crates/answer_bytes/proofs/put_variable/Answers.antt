use Rattle.answer_bytes.proofs.Putting.{put_repeated, put_done}
use Rattle.answer_bytes.proofs.put_variable.Goals as goal

pub returns-then-values-i-ne2 : goal.returns-then-values-i-ne2
returns-then-values-i-ne2 c = rw (← c.from-i.ensures) (put_repeated _ _ c.args.first c.args.value c.args.values.now (rw c.from-i.ensures c.requires.1) c.if-values-i-ne2.true)

pub returns : goal.returns
returns c = rw (← c.from-i.ensures) (put_done _ _ c.args.first c.args.value c.args.values.now (rw c.from-i.ensures c.requires.1) c.if-values-i-ne2.false)
