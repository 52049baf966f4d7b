use native.Mathlib.Omega.{arith}
use Prim.Native.Nat.{◌+◌}
use Rattle.std.proofs.Common.{rules, tests, Some, None}
use Rattle.std.proofs.lemmas.Iterator.{YieldsList-from_slice, YieldsList-from_zip}
use Rattle.std.proofs.lemmas.Iterator.Search.{position_from_yields_List}
use mathlib.Core.Path.{◌≡◌, ◌∙◌}
use Rattle.numbers.proofs.Found.{some_found, none_found}
use Rattle.level_stages.proofs.Scans.{unlike_pair, pair_found, pair_nowhere}
use Rattle.level_stages.proofs.first_difference.Goals as goal

pub returns-in_err-place : goal.returns-in_err-place
returns-in_err-place c =
    let e : c.position.result ≡ None = search rules in
    c.from_residual.ensures
    ∙ none_found (pair_nowhere c.args.set.now c.args.levels.now c.requires (position_from_yields_List unlike_pair c.position.new.self _ _ c.position.ensures.ran (YieldsList-from_zip (YieldsList-from_slice c.args.set.now cc) (YieldsList-from_slice c.args.levels.now cc)) (λ x b q k. search (rules, tests))) e)

pub returns : goal.returns
returns c =
    let e : c.position.result ≡ Some c.in_ok-place.place = search rules in
    some_found (c.in_ok-place.place + 1) (omega arith) (pair_found c.args.set.now c.args.levels.now c.requires (position_from_yields_List unlike_pair c.position.new.self _ _ c.position.ensures.ran (YieldsList-from_zip (YieldsList-from_slice c.args.set.now cc) (YieldsList-from_slice c.args.levels.now cc)) (λ x b q k. search (rules, tests))) e)
