use Rattle.truth_clauses.specs.Truth.{value_in}
use Rattle.encoding.specs.Literal.{clause_true}
use Rattle.clause_tables.specs.Tables.{vars_in}
use lib.ListN.{length}
use mathlib.Core.List.{List}
use mathlib.Core.Path.{sym, ◌∙◌, ap, subst}
use Prim.Native.Nat.{ℕ, ◌≤◌}
use Rattle.truth_clauses.proofs.line_holds.Goals as goal

pub clause_holds-requires : goal.clause_holds-requires
clause_holds-requires c = subst (λ (tb : List ℕ). vars_in tb ≤ length c.args.values.now) (sym c.clause.ensures.1) c.requires.1

pub returns : goal.returns
returns c = c.clause_holds.ensures ∙ ap (clause_true (value_in c.args.values.now)) c.clause.ensures.0
