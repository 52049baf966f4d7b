use borrow.Author.Rules.{rules}
use native.Mathlib.Omega.{arith}
use mathlib.Core.List.{map}
use mathlib.Core.Path.{refl}
use Rattle.std.proofs.lemmas.Iterator.{YieldsList-from_map}
use Rattle.std.proofs.lemmas.Iterator.Consumers.{YieldsList-at, sum_by_from_yields_List, fits_by_from_yields_list}
use Rattle.std.proofs.lemmas.Iterator.Adapters.{serves_from_places}
use Rattle.encoding.specs.Literal.{literal_number}
use Rattle.clause_layout.specs.Clauses.{literals_of}
use Rattle.clause_iter.proofs.Numbers.{yields_numbers, number_small}
use Rattle.clause_text.proofs.Clause.{bytes, line_short, total_length}
use Rattle.clause_text.proofs.clause_length.Goals as goal

pub sum-requires-clause-can : goal.sum-requires-clause-can
sum-requires-clause-can c = (tt, serves_from_places (YieldsList-at c.map.ensures.source (yields_numbers c.args.c c.of.result c.of.ensures)) (λ x q k. search rules) (λ x k h e. number_small c.args.c k x (h, e)))

pub sum-requires-clause-fits : goal.sum-requires-clause-fits
sum-requires-clause-fits c =
    fits_by_from_yields_list bytes (map literal_number (literals_of c.args.c)) c.map.result _
    (YieldsList-from_map _ bytes (YieldsList-at c.map.ensures.source (yields_numbers c.args.c c.of.result c.of.ensures)) c.map.ensures.closure (λ x r q k. search rules))
    (omega (arith, total_length (literals_of c.args.c) refl, line_short c.args.c))

pub overflow_add-result : goal.overflow_add-result
overflow_add-result c =
    omega (
      arith,
      line_short c.args.c,
      total_length (literals_of c.args.c) (sum_by_from_yields_List bytes (map literal_number (literals_of c.args.c)) c.map.result c.sum.result c.sum.ensures.ran
          (YieldsList-from_map _ bytes (YieldsList-at c.map.ensures.source (yields_numbers c.args.c c.of.result c.of.ensures)) c.map.ensures.closure (λ x r q k. search rules))),
    )

pub returns : goal.returns
returns c =
    total_length (literals_of c.args.c) (sum_by_from_yields_List bytes (map literal_number (literals_of c.args.c)) c.map.result c.sum.result c.sum.ensures.ran
    (YieldsList-from_map _ bytes (YieldsList-at c.map.ensures.source (yields_numbers c.args.c c.of.result c.of.ensures)) c.map.ensures.closure (λ x r q k. search rules)))
