use Rattle.clause_counts.proofs.Before.{items_short}
use Rattle.clause_table_laws.proofs.Cells.{arrays}
use native.Mathlib.Omega.{arith}
use Rattle.clause_counts.proofs.clauses_before.Goals as goal

pub overflow_add-result : goal.overflow_add-result
overflow_add-result c = omega (arith, items_short (arrays c.args.table.ready) c.args.g c.requires.0 c.requires.1 c.args.a c.requires.2, c.groups_size.ensures, c.items_size.ensures)
