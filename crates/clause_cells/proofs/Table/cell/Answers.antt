use Prim.Native.Nat.{ℕ, ◌+◌}
use mathlib.Core.Path.{◌∙◌, ap}
use lib.ListN.{get_or}
use native.Mathlib.Omega.{arith}
use Rattle.clause_cells.proofs.Parts.{cell_at}
use Rattle.clause_table_laws.proofs.Cells.{cells}
use Rattle.clause_cells.proofs.Table.cell.Goals as goal

pub bounds-self-j : goal.bounds-self-j
bounds-self-j c = omega (arith, cells c.args.self.ready, c.requires.0, c.requires.1)

pub returns : goal.returns
returns c =
    ap (λ (i : ℕ). get_or c.args.self.cells.now (c.args.j + i) 0) c.from.ensures ∙ cell_at c.args.self.cells.now c.args.j c.args.k c.args.i c.requires.1
