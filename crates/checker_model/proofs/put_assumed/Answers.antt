use Rattle.checker_model.proofs.Assumed.{assumed_none, assumed_some}
use Rattle.digits.proofs.Wrote.{room_as, room_front, wrote_none, wrote_as, wrote_after, after_room}
use Rattle.text.specs.Decimal.{decimal}
use Rattle.lists.specs.Ascii.{ascii}
use mathlib.Core.List.{◌++◌}
use mathlib.Core.Path.{sym}
use Rattle.checker_model.proofs.put_assumed.Goals as goal

pub returns-then-count-eq0 : goal.returns-then-count-eq0
returns-then-count-eq0 c = wrote_as (sym (assumed_none c.args.count c.if-count-eq0.true)) (wrote_none c.args.buf.now)

pub put_word-to-requires : goal.put_word-to-requires
unfolding ascii
put_word-to-requires c = room_front (ascii "(assumed ") (decimal c.args.count ++ ascii ")\n") (room_as (sym (assumed_some c.args.count c.if-count-eq0.false)) c.requires)

pub put_closing-requires : goal.put_closing-requires
unfolding ascii
put_closing-requires c = after_room c.put_word-to.ensures (decimal c.args.count ++ ascii ")\n") (room_as (sym (assumed_some c.args.count c.if-count-eq0.false)) c.requires)

pub returns-else-count-eq0 : goal.returns-else-count-eq0
unfolding ascii
returns-else-count-eq0 c = wrote_as (sym (assumed_some c.args.count c.if-count-eq0.false)) (wrote_after c.put_word-to.ensures (decimal c.args.count ++ ascii ")\n") c.put_closing.ensures)
