use Rattle.lists.specs.Lists.{each}
use Rattle.clause_tables.specs.Tables.{code_in}
use Rattle.level_lists.specs.Bytes.{level_byte}
use Rattle.level_bits.specs.Bits.{pair_at_bytes}
use Rattle.digits.specs.Bytes.{Wrote}
use Rattle.level_bits.proofs.put_chains.Given as goal

abbrev pub invariant-loop-k : goal.invariant-loop-k
invariant-loop-k l = Wrote (each l.k (pair_at_bytes (code_in l.levels.table.cells.now) l.w (level_byte l.levels.bytes.now))) l.initial.buf l.buf l.to
