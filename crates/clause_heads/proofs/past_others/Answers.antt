use native.Mathlib.Omega.{arith}
use Rattle.clause_tables.specs.Tables.{heads_in}
use Rattle.clause_heads.proofs.NextHeads.{front_fits, front_next}
use Rattle.clause_table_laws.proofs.Elements.{heads_length}
use Rattle.clause_table_laws.proofs.Cells.{arrays}
use borrow.Author.Rules.{rules}
use Rattle.clause_heads.proofs.past_others.Goals as goal

pub next_head-requires : goal.next_head-requires
next_head-requires c = front_fits (heads_in c.args.table.cells.now) (heads_length _ _ _ _ _ _ _ _ (arrays c.args.table.ready)) c.args.m c.heads.ensures c.requires.0

pub overflow_add-result : goal.overflow_add-result
overflow_add-result c = let a = c.args in let p = c.requires in omega (arith, (front_next (heads_in a.table.cells.now) (heads_length _ _ _ _ _ _ _ _ (arrays c.args.table.ready)) a.m c.heads.ensures p.0 a.a.0 a.l p.1 (search rules) c.next_head.ensures).0)

pub returns : goal.returns
returns c = let a = c.args in let p = c.requires in (front_next (heads_in a.table.cells.now) (heads_length _ _ _ _ _ _ _ _ (arrays c.args.table.ready)) a.m c.heads.ensures p.0 a.a.0 a.l p.1 (search rules) c.next_head.ensures).1
