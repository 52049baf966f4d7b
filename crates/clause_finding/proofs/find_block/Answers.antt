use borrow.Author.Rules.{rules}
use Prim.Native.Nat.{ℕ, ◌<◌}
use mathlib.Core.Path.{◌∙◌}
use Rattle.clause_finding.proofs.Falling.{falls_as}
use Rattle.clause_finding.proofs.Coded.{block_here}
use Rattle.clause_table_laws.proofs.Cells.{told}
use Rattle.clause_tables.specs.Tables.{code_in}
use Rattle.clause_walk.specs.Walk.{size, BlockAt}
use Rattle.clause_places.proofs.Steps.{blocks_is}
use Rattle.clause_finding.proofs.find_block.Goals as goal

pub find_part-requires : goal.find_part-requires
find_part-requires c =
    let here : (i : ℕ) → 0 < i → i < c.block_count.result → BlockAt (code_in c.args.table.cells.now) c.args.g c.args.a i = λ i p h. block_here (told c.args.table.ready c.totals-t.ensures) c.requires.0 c.requires.1 c.requires.2 c.requires.3 c.block_count.ensures p h in
    search (rules, here)

pub returns : goal.returns
returns c =
    let T = told c.args.table.ready c.totals-t.ensures in
    falls_as (c.block_count.ensures ∙ blocks_is T c.args.g)
    (c.find_part.ensures (size (code_in c.args.table.cells.now) c.args.g c.args.a) (λ i x p h q. search rules))
    c.requires.4
