use Rattle.clause_tables.specs.declared.Totals.{Totals}
use mathlib.Core.Path.{ap, refl}
use Rattle.clause_table_laws.proofs.Cells.{arrays}
use native.Mathlib.Omega.{arith}
use Rattle.clause_tables.specs.Tables.{code_in}
use Rattle.level_lists.specs.Bytes.{level_byte}
use Rattle.level_bits.specs.Bits.{pair_at_bytes}
use Rattle.level_bits.proofs.Pairs.{pairs_asks, pairs_done}
use Rattle.digits.proofs.Wrote.{wrote_row, row_room, rows_whole}
use Rattle.level_bits.proofs.put_chains.Goals as goal

pub put_pair_at-to-requires : goal.put_pair_at-to-requires
put_pair_at-to-requires c = (omega arith, omega (arith, c.loop-k-test.true, ap (λ (t : Totals). t.pairs) c.totals-k-end.ensures), row_room (pair_at_bytes (code_in c.args.levels.table.cells.now) c.args.w (level_byte c.args.levels.bytes.now)) c.loop-k.k c.loop-k.invariant refl (pairs_asks (arrays c.args.levels.table.ready) c.loop-k.k (omega (arith, c.loop-k-test.true, ap (λ (t : Totals). t.pairs) c.totals-k-end.ensures))) c.requires)

pub loop-k-preserved : goal.loop-k-preserved
loop-k-preserved c = wrote_row (pair_at_bytes (code_in c.args.levels.table.cells.now) c.args.w (level_byte c.args.levels.bytes.now)) c.loop-k.k c.loop-k.invariant refl c.put_pair_at-to.ensures

pub returns : goal.returns
returns c =
    let q = pairs_done (arrays c.args.levels.table.ready) c.loop-k.k (omega (arith, c.loop-k.auto.k-end, ap (λ (t : Totals). t.pairs) c.totals-k-end.ensures)) (omega (arith, c.loop-k-test.false, ap (λ (t : Totals). t.pairs) c.totals-k-end.ensures)) in
    rows_whole (pair_at_bytes (code_in c.args.levels.table.cells.now) c.args.w (level_byte c.args.levels.bytes.now)) q.0 q.1 c.loop-k.invariant
