use Prim.Native.Nat.{ℕ}
use mathlib.Core.List.{List}
use Rattle.clause_tables.specs.Tables.{Stored}
use Rattle.clause_tabling.specs.Stages.{arrays_of}
use Rattle.clause_tabling.proofs.Sums.{Summed}
use Rattle.clause_tabling.proofs.totals_of.Given as goal

abbrev pub invariant-loop-r : goal.invariant-loop-r
invariant-loop-r l = (hs bs : List ℕ) → Stored (arrays_of l.n l.m l.held hs l.starts bs) → Summed (arrays_of l.n l.m l.held hs l.starts bs) l.r l.all
