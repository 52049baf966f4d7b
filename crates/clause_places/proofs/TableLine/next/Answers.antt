use Rattle.clause_table_laws.proofs.Bounds.{clauses_short}
use Rattle.clause_places.proofs.Numbers.{place_in, follows}
use native.Mathlib.Omega.{arith}
use Rattle.clause_table_laws.proofs.Cells.{arrays}
use Rattle.clause_places.proofs.TableLine.next.Goals as goal

pub overflow_add-result : goal.overflow_add-result
overflow_add-result c = omega (arith, c.args.self.within, clauses_short (arrays c.args.self.table.ready))

pub next_coordinates-requires : goal.next_coordinates-requires
next_coordinates-requires c = (place_in (arrays c.args.self.table.ready) c.args.self.stands c.args.self.within)

pub returns : goal.returns
returns c = follows (arrays c.args.self.table.ready) c.args.self.stands c.args.self.within c.next_coordinates.ensures
