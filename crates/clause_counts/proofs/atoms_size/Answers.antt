use Rattle.clause_table_laws.proofs.Cells.{arrays}
use Rattle.clause_table_laws.proofs.Elements.{heads_length}
use Rattle.clause_tables.specs.Tables.{heads_in}
use Rattle.clause_counts.specs.Counts.{low_count}
use Rattle.clause_counts.proofs.Sized.{count_front}
use Rattle.clause_heads.proofs.NextHeads.{front_fits}
use lib.ListN.{length}
use mathlib.Core.List.{List}
use mathlib.Core.Path.{◌∙◌, ap, ap₂}
use native.Mathlib.Omega.{arith}
use Prim.Native.Nat.{ℕ, ◌+◌}
use Rattle.clause_counts.proofs.atoms_size.Goals as goal

pub low_count-requires : goal.low_count-requires
low_count-requires c = front_fits (heads_in c.args.table.cells.now) (heads_length _ _ _ _ _ _ _ _ (arrays c.args.table.ready)) c.args.m c.heads.ensures c.requires

pub returns : goal.returns
returns c = let a = c.args in ap₂ ◌+◌ (c.from.ensures ∙ c.low_count.ensures ∙ ap (λ (hs : List ℕ). low_count (length hs) hs a.a.0) c.heads.ensures ∙ count_front a.m (heads_in a.table.cells.now) a.a.0 (omega (arith, c.requires, heads_length _ _ _ _ _ _ _ _ (arrays c.args.table.ready)))) c.from-2.ensures
