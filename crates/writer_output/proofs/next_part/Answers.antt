use native.Mathlib.Omega.{arith}
use Rattle.writer_output.proofs.Parts.{part_put}
use Rattle.clause_table_laws.proofs.Cells.{arrays}
use Rattle.writer_output.proofs.next_part.Goals as goal

pub put_lines-requires : goal.put_lines-requires
put_lines-requires c = (c.requires.0.placed, omega (arith, c.requires.1))

pub returns : goal.returns
returns c = part_put (arrays c.args.table.ready) c.args.c c.requires.1 c.args.out.now c.requires.2 c.put_lines.ensures c.args.said c.requires.0 c.requires.3
