use Rattle.clause_table_laws.proofs.Cells.{arrays}
use mathlib.Core.Path.{refl}
use native.Mathlib.Omega.{arith}
use Rattle.level_fill.specs.Values.{family_of}
use Rattle.level_fill.proofs.Families.{families_room, families_written}
use Rattle.digits.proofs.Wrote.{wrote_row, row_room}
use Rattle.level_fill.proofs.put_values.Goals as goal

pub put_family-to-requires : goal.put_family-to-requires
put_family-to-requires c =
    let room = families_room (arrays c.args.set.table.ready) c.args.set.bytes.now c.args.levels.now refl c.args.buf.now c.requires.1 in
    (omega arith, omega (arith, c.loop-k-test.true), c.requires.0, row_room (family_of c.args.set c.args.levels.now) c.loop-k.k c.loop-k.invariant refl c.loop-k-test.true room)

pub loop-k-preserved : goal.loop-k-preserved
loop-k-preserved c = wrote_row (family_of c.args.set c.args.levels.now) c.loop-k.k c.loop-k.invariant refl c.put_family-to.ensures

pub returns : goal.returns
returns c = families_written (arrays c.args.set.table.ready) c.args.set.bytes.now c.args.levels.now refl {k = c.loop-k.k} (omega arith) (omega (arith, c.loop-k-test.false)) c.loop-k.invariant
