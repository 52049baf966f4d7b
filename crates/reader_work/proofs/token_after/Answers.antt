use mathlib.Core.Path.{ap₂}
use Prim.Native.Nat.{ℕ}
use Rattle.reader_work.proofs.token_after.Goals as goal

pub returns : goal.returns
returns c = ap₂ (λ (v g : ℕ). record { k = c.args.k; value = v; begin = g }) c.value_after.ensures c.begin_after.ensures
