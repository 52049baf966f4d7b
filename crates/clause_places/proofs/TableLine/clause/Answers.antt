use Rattle.clause_places.proofs.Numbers.{placed_at, placed_clause}
use mathlib.Core.Path.{refl}
use Rattle.clause_table_laws.proofs.Cells.{arrays}
use Rattle.clause_places.proofs.TableLine.clause.Goals as goal

pub invariant_of-block : goal.invariant_of-block
invariant_of-block c = record { stands = (placed_at (arrays c.args.self.table.ready) c.args.self.stands c.requires c.args.self.within).block_at }

pub invariant_of-result : goal.invariant_of-result
invariant_of-result c = record { stands = placed_at (arrays c.args.self.table.ready) c.args.self.stands c.requires c.args.self.within }

pub returns : goal.returns
returns c = (placed_clause (arrays c.args.self.table.ready) c.args.self.stands c.requires c.args.self.within, refl, refl, refl, refl, refl)
