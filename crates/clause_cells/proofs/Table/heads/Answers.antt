use Prim.Native.Nat.{ℕ, ◌+◌, ◌-◌}
use mathlib.Core.Path.{◌∙◌, ap}
use lib.ListN.{take, drop}
use native.Mathlib.Omega.{arith}
use Rattle.clause_cells.proofs.Parts.{front_at}
use Rattle.clause_table_laws.proofs.Cells.{cells}
use Rattle.clause_cells.proofs.Table.heads.Goals as goal

pub slice_bounds-result-end : goal.slice_bounds-result-end
slice_bounds-result-end c = omega (arith, cells c.args.self.ready, c.requires)

pub returns : goal.returns
returns c = ap (λ (m : ℕ). take (16 + m - 16) (drop 16 c.args.self.cells.now)) c.from.ensures ∙ front_at c.args.self.cells.now 16 500 c.args.m c.requires
