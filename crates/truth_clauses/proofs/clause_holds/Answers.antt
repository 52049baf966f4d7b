use borrow.Author.Rules.{rules}
use mathlib.Core.Path.{◌∙◌}
use Rattle.std.proofs.lemmas.Iterator.Search.{any_from_yields_List}
use Rattle.std.proofs.lemmas.Iterator.Adapters.{serves_from_places}
use Rattle.clause_iter.proofs.Numbers.{yields_numbers}
use Rattle.truth_clauses.specs.Truth.{number_true}
use Rattle.truth_clauses.proofs.Clauses.{numbers_true, number_asks}
use Rattle.truth_clauses.proofs.clause_holds.Goals as goal

pub any-requires-clause-callable : goal.any-requires-clause-callable
any-requires-clause-callable c =
    serves_from_places (yields_numbers c.args.c c.of.result c.of.ensures) (λ x q k. search rules)
    (λ x k h e. let asks = number_asks c.args.c c.args.values.now c.requires k x (h, e) in search rules)

pub returns : goal.returns
returns c =
    any_from_yields_List (number_true c.args.values.now) c.any.new.self _ _ c.any.ensures.ran (yields_numbers c.args.c c.of.result c.of.ensures) (λ x b q k. search rules)
    ∙ numbers_true c.args.c c.args.values.now
