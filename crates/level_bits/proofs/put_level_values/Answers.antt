use Rattle.level_bits.specs.Bits.{bit_bytes, level_at_bytes}
use Rattle.level_lists.specs.Bytes.{level_byte}
use mathlib.Core.Path.{sym, ◌∙◌, ap}
use native.Mathlib.Numerals.{add-one}
use Prim.Native.Nat.{ℕ, ◌+◌}
use Rattle.digits.proofs.Wrote.{wrote_row, row_room}
use Rattle.level_bits.proofs.put_level_values.Goals as goal

pub put_bits-to-requires : goal.put_bits-to-requires
put_bits-to-requires c = row_room (level_at_bytes c.args.w c.args.d (level_byte c.args.levels.now)) c.loop-level.level-index c.loop-level.invariant (ap (λ (x : ℕ). bit_bytes c.args.w (x + c.args.d)) (c.from-x.ensures ∙ ap (level_byte c.args.levels.now) (sym (add-one c.loop-level.level-index)))) c.loop-level-test.true c.requires.1

pub loop-level-preserved : goal.loop-level-preserved
loop-level-preserved c = wrote_row (level_at_bytes c.args.w c.args.d (level_byte c.args.levels.now)) c.loop-level.level-index c.loop-level.invariant (ap (λ (x : ℕ). bit_bytes c.args.w (x + c.args.d)) (c.from-x.ensures ∙ ap (level_byte c.args.levels.now) (sym (add-one c.loop-level.level-index)))) c.put_bits-to.ensures
