use mathlib.Core.Path.{◌∙◌, ap, ap₂}
use Prim.Native.Nat.{ℕ, ◌+◌}
use lib.ListN.{get_or}
use Rattle.clause_counts.proofs.Sized.{last_start}
use Rattle.clause_tables.specs.Tables.{starts_in}
use Rattle.clause_counts.proofs.bodies_size.Goals as goal

pub returns : goal.returns
returns c = ap₂ ◌+◌ (c.from.ensures ∙ c.list_start.ensures ∙ ap (λ (j : ℕ). get_or (starts_in c.args.table.cells.now) j 0) (last_start c.args.m)) c.from-2.ensures
