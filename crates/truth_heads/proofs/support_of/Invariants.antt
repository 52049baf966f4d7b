use Rattle.truth_heads.proofs.SupportLaws.{Visiting, place}
use Rattle.truth_literals.specs.Values.{value_in}
use Rattle.clause_table_laws.proofs.Links.{rules_before}
use Rattle.clause_tables.specs.Tables.{code_in}
use Rattle.clause_walk.specs.Walk.{heads_of}
use Rattle.encoding.specs.Code.{code_sizes}
use lib.ListN.{length}
use Prim.Native.Nat.{◌-◌}
use Rattle.clause_slots.specs.SlotNumber.{is_founds}
use Rattle.truth_heads.proofs.support_of.Given as goal

abbrev pub invariant-loop-rule : goal.invariant-loop-rule
invariant-loop-rule l = Visiting (value_in l.valued.values.now) (code_sizes (code_in l.valued.table.cells.now)) (heads_of (code_in l.valued.table.cells.now)) l.a.0 (is_founds l.which) l.rule l.each l.some

abbrev pub decreases-loop-rule : goal.decreases-loop-rule
decreases-loop-rule l = length (heads_of (code_in l.valued.table.cells.now)) - rules_before (length (heads_of (code_in l.valued.table.cells.now))) (place l.rule)
