use mathlib.Core.Path.{◌∙◌, ap}
use mathlib.Core.List.{List}
use Prim.Native.Nat.{ℕ, ◌+◌}
use lib.ListN.{length, replicate}
use lib.Seq.{sets}
use native.Mathlib.Omega.{arith}
use Rattle.clause_tabling.proofs.Stores.{copies_stored}
use Rattle.clause_tabling.proofs.store.Goals as goal

pub returns : goal.returns
returns c =
    copies_stored c.copy.new.table _ (2017 + c.args.at) _ (length c.args.positive.now) c.args.h (omega arith) (omega (arith, c.requires, c.copy.array_long)) (c.fill.ensures.after (λ y e. e))
    ∙ ap (λ (xs : List ℕ). sets xs (2017 + c.args.at) (replicate (length c.args.positive.now) c.args.h)) c.copy.ensures
