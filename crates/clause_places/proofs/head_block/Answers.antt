use Rattle.clause_heads.proofs.NextHeads.{front_fits, next_in}
use Rattle.clause_heads.specs.NextHead.{next_head}
use Rattle.clause_places.proofs.HeadBlock.{head_block_is}
use Prim.Native.Nat.{ℕ}
use mathlib.Core.List.{List}
use mathlib.Core.Path.{◌∙◌, ap}
use native.Mathlib.Omega.{arith}
use Rattle.clause_tables.specs.Tables.{heads_in}
use Rattle.clause_table_laws.proofs.Elements.{heads_length}
use Rattle.clause_table_laws.proofs.Cells.{arrays}
use Rattle.clause_places.proofs.head_block.Goals as goal

pub next_head-j-requires : goal.next_head-j-requires
next_head-j-requires c = front_fits (heads_in c.args.table.cells.now) (heads_length _ _ _ _ _ _ _ _ (arrays c.args.table.ready)) c.args.m c.heads.ensures c.requires.0

pub overflow_add-result : goal.overflow_add-result
overflow_add-result c = omega (arith, c.next_head-j.ensures ∙ ap (λ (hs : List ℕ). next_head hs c.args.c.item c.args.c.block) c.heads.ensures, next_in (heads_in c.args.table.cells.now) c.args.m c.args.c.item c.args.c.block (omega (arith, c.requires.0, heads_length _ _ _ _ _ _ _ _ (arrays c.args.table.ready))) c.requires.1, c.requires.0)

pub overflow_sub-result : goal.overflow_sub-result
overflow_sub-result c = omega (arith, c.next_head-j.ensures ∙ ap (λ (hs : List ℕ). next_head hs c.args.c.item c.args.c.block) c.heads.ensures, next_in (heads_in c.args.table.cells.now) c.args.m c.args.c.item c.args.c.block (omega (arith, c.requires.0, heads_length _ _ _ _ _ _ _ _ (arrays c.args.table.ready))) c.requires.1)

pub returns : goal.returns
returns c = head_block_is c.args.m (heads_in c.args.table.cells.now) c.args.c (c.next_head-j.ensures ∙ ap (λ (hs : List ℕ). next_head hs c.args.c.item c.args.c.block) c.heads.ensures)
