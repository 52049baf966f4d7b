use Prim.Native.Nat.{ℕ}
use mathlib.Core.Bool.{Bool}
use mathlib.Core.Path.{◌≡◌}
use lib.ListN.{length}
use Rattle.level_bits.specs.Bits.{truth_bytes}
use Rattle.level_fill.specs.Values.{TestsBy}
use Rattle.digits.specs.Bytes.{Wrote}
use Rattle.level_fill.proofs.put_truths.Given as goal

abbrev pub invariant-loop-k : goal.invariant-loop-k
invariant-loop-k g l =
    (length l.buf ≡ length l.initial.buf)
    × ((p : ℕ → Bool) → TestsBy l.n p (λ (k : ℕ) (b : Bool). goal.F-post g l.test k b) → Wrote (truth_bytes l.k p) l.initial.buf l.buf l.k)
