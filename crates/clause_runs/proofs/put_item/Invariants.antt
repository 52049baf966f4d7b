use Rattle.clause_text.specs.Blocks.{block_text}
use Rattle.clause_tables.specs.Tables.{code_in}
use Rattle.digits.specs.Bytes.{Wrote}
use Rattle.lists.specs.Lists.{each}
use Rattle.clause_runs.proofs.put_item.Given as goal

abbrev pub invariant-loop-i : goal.invariant-loop-i
invariant-loop-i l = Wrote (each l.i (block_text (code_in l.table.cells.now) l.g l.a)) l.initial.buf l.buf l.at
