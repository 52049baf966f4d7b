use Prim.Native.Nat.{ℕ, ◌-◌}
use mathlib.Core.List.{List}
use mathlib.Core.Path.{◌∙◌, ap₂}
use Rattle.clause_layout.proofs.Parts.{part_slots}
use Rattle.clause_walk.specs.Walk.{slot1}
use Rattle.encoding.specs.Literal.{literal_number}
use Rattle.clause_literals.proofs.Signed.{read_back}
use Rattle.clause_table_laws.proofs.Elements.{bodies_length}
use Rattle.clause_table_laws.proofs.Cells.{arrays}
use Rattle.clause_tables.specs.declared.Totals.{Totals}
use Rattle.clause_tables.specs.Tables.{bodies_in}
use Rattle.clause_layout.proofs.body_part.Goals as goal

pub body_slot-requires : goal.body_slot-requires
body_slot-requires c = let a = c.args in (c.requires.0, c.requires.4, c.requires.5, part_slots (bodies_in a.table.cells.now) (bodies_length _ _ _ _ _ _ _ _ (arrays c.args.table.ready)) a.first a.end a.y a.l c.body.ensures c.requires.2 c.requires.3 c.requires.6)

pub returns : goal.returns
returns c = let a = c.args in read_back c.body_slot.type_inv (c.body_slot.ensures ∙ ap₂ (λ (t : Totals) (xs : List ℕ). literal_number (slot1 t.sizes a.r.0 xs (a.middle - a.first) a.y a.l)) c.totals.ensures c.body.ensures)
