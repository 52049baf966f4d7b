use Rattle.truth_clauses.proofs.Clauses.{item_begins, item_stands}
use Rattle.clause_table_laws.proofs.Bounds.{clauses_short}
use Rattle.clause_table_laws.proofs.Cells.{arrays}
use native.Mathlib.Omega.{arith}
use mathlib.Core.Path.{refl}
use Rattle.truth_clauses.proofs.false_in.Goals as goal

pub overflow_sub-a : goal.overflow_sub-a
overflow_sub-a c = c.requires.item_some

pub clauses_before-j-requires : goal.clauses_before-j-requires
clauses_before-j-requires c = (c.requires.group_some, c.requires.group_in, omega (arith, c.requires.item_in))

pub overflow_add-j : goal.overflow_add-j
overflow_add-j c = let T = arrays c.args.valued.table.ready in omega (arith, item_begins T c.args.valued.values.now c.requires c.clauses_before-j.ensures, clauses_short T)

pub place_of-requires : goal.place_of-requires
place_of-requires c = item_begins (arrays c.args.valued.table.ready) c.args.valued.values.now c.requires c.clauses_before-j.ensures

pub false_from-requires : goal.false_from-requires
false_from-requires c = item_stands (arrays c.args.valued.table.ready) c.args.valued.values.now c.requires c.clauses_before-j.ensures refl c.place_of.ensures
