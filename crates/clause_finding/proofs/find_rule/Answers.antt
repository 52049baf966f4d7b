use borrow.Author.Rules.{rules}
use Prim.Native.Nat.{ℕ, ◌<◌}
use mathlib.Core.Path.{◌≡◌, ◌∙◌}
use Rattle.clause_finding.proofs.Falling.{falls_as}
use Rattle.clause_finding.proofs.Coded.{item_here, rule_size}
use Rattle.clause_table_laws.proofs.Cells.{told}
use Rattle.clause_tables.specs.Tables.{code_in}
use Rattle.clause_walk.specs.Walk.{size, BlockAt}
use Rattle.clause_counts.specs.Counts.{item_size}
use Rattle.clause_places.proofs.Steps.{items_is}
use Rattle.clause_finding.proofs.find_rule.Goals as goal

pub find_part-requires : goal.find_part-requires
find_part-requires c =
    let here : (a : ℕ) → 0 < a → a < c.items.result → BlockAt (code_in c.args.table.cells.now) c.args.g a 1 = λ a p h. item_here (told c.args.table.ready c.totals.ensures) c.requires.0 c.requires.1 c.items.ensures p h in
    search (rules, here)

pub returns : goal.returns
returns c =
    let T = told c.args.table.ready c.totals.ensures in
    falls_as (c.items.ensures ∙ items_is T c.args.g)
    (c.find_part.ensures (item_size (code_in c.args.table.cells.now) c.args.g)
    (λ a x p h q. let e : x ≡ size (code_in c.args.table.cells.now) c.args.g a 1 = search rules in rule_size T c.args.g a c.requires.0 c.requires.1 c.requires.2 c.requires.3 e))
    c.requires.4
