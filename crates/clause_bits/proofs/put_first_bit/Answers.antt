use Rattle.digits.specs.Bytes.{Room}
use Rattle.digits.proofs.Wrote.{room_as, room_front}
use Rattle.clause_numerals.specs.Numerals.{held}
use Rattle.clause_bits.specs.BitTexts.{starts_text}
use Rattle.clause_bits.proofs.Opposites.{first_as}
use Rattle.clause_bits.proofs.put_first_bit.Goals as goal

pub put_starts-at-requires : goal.put_starts-at-requires
put_starts-at-requires c =
    let text = starts_text (held c.opposite-not_z.result) (held c.opposite-not_x.result) (held c.args.y) in
    let whole = first_as (held c.args.z) (held c.args.x) (held c.args.y) c.opposite-not_z.ensures c.opposite-not_x.ensures c.opposite-not_y.ensures in
    let room : Room text c.args.buf.now = room_front text _ (room_as whole c.requires) in
    room
