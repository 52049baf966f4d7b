use Rattle.clause_table_laws.proofs.Cells.{arrays}
use Rattle.clause_table_laws.proofs.Elements.{bounded}
use Rattle.clause_cells.proofs.Table.totals.Goals as goal

pub invariant_of-result : goal.invariant_of-result
invariant_of-result c =
    rw (c.count.ensures, c.count-2.ensures, c.count-3.ensures) (bounded _ _ _ _ _ _ _ _ (arrays c.args.self.ready))
