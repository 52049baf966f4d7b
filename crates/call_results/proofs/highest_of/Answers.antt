use Prim.Native.Nat.{max}
use Rattle.std.specs.List.{fold}
use Rattle.std.proofs.Common.{rules}
use mathlib.Core.Path.{◌≡◌, ◌∙◌}
use Rattle.call_results.proofs.Counting.{fold_is}
use Rattle.call_results.proofs.highest_of.Goals as goal

pub returns : goal.returns
returns c = let e : c.fold.result ≡ fold (λ a y. max a y) 0 c.args.levels.now = search rules in e ∙ fold_is c.args.levels.now
