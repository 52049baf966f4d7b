use Rattle.std.specs.List.{count_by}
use Rattle.std.proofs.Common.{rules}
use lib.Dec.{eqb}
use mathlib.Core.Bool.{not}
use mathlib.Core.Path.{◌≡◌, ◌∙◌}
use Rattle.call_results.proofs.Counting.{count_is}
use Rattle.call_results.proofs.true_count.Goals as goal

pub returns : goal.returns
returns c = let e : c.count.result ≡ count_by (λ b. not (eqb b 0)) c.args.atoms.now = search rules in e ∙ count_is c.args.atoms.now
