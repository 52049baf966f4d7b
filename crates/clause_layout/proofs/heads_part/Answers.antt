use Prim.Native.Nat.{ℕ}
use mathlib.Core.List.{List}
use mathlib.Core.Path.{sym, ◌∙◌, ap}
use native.Mathlib.Omega.{arith}
use lib.ListN.{take}
use Rattle.clause_layout.proofs.Groups.{held_in}
use Rattle.clause_heads.proofs.NextHeads.{front_fits, front_slots}
use Rattle.encoding.specs.Variables.{Sizes}
use Rattle.clause_walk.specs.Walk.{of_head}
use Rattle.clause_slots.specs.SlotNumber.{slot_number, rule_var, is_founds}
use Rattle.clause_table_laws.proofs.Elements.{heads_length}
use Rattle.clause_table_laws.proofs.Cells.{arrays}
use Rattle.clause_tables.specs.Tables.{heads_in}
use Rattle.clause_layout.proofs.heads_part.Goals as goal

pub head_slot-requires : goal.head_slot-requires
head_slot-requires c = let a = c.args in let hs = heads_in a.table.cells.now in let n = heads_length _ _ _ _ _ _ _ _ (arrays a.table.ready) in let b = c.s.invariant.rules in (front_fits hs n c.s.inside.m c.heads.ensures b, c.requires.0, front_slots hs n c.s.inside.m c.heads.ensures b a.l (omega (arith, c.requires.1, ap (λ (s : Sizes). s.m) c.s.view_is)))

pub returns : goal.returns
returns c = let a = c.args in c.head_slot.ensures ∙ ap slot_number (ap (λ (hs : List ℕ). of_head hs a.a.0 (rule_var a.s (is_founds a.x)) a.l) (c.heads.ensures ∙ ap (λ (s : Sizes). take s.m (heads_in a.table.cells.now)) c.s.view_is))
