use Prim.Native.Nat.{ℕ, ◌+◌, ◌-◌}
use mathlib.Core.Path.{◌∙◌, ap₂}
use lib.ListN.{take, drop}
use native.Mathlib.Omega.{arith}
use Rattle.clause_cells.proofs.Parts.{part_at}
use Rattle.clause_table_laws.proofs.Cells.{cells}
use Rattle.clause_cells.proofs.Table.body.Goals as goal

pub slice_bounds-result-end : goal.slice_bounds-result-end
slice_bounds-result-end c = omega (arith, cells c.args.self.ready, c.requires.0, c.requires.1)

pub returns : goal.returns
returns c =
    ap₂ (λ (first end : ℕ). take (516 + end - (516 + first)) (drop (516 + first) c.args.self.cells.now)) c.from.ensures c.from-2.ensures
    ∙ part_at c.args.self.cells.now 516 500 c.args.first c.args.end c.requires.0 c.requires.1
