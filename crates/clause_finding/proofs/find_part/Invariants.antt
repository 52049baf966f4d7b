use Prim.Native.Nat.{ℕ, ◌<◌}
use Rattle.lists.specs.Lists.{sum}
use Rattle.clause_finding.specs.Falls.{SizesBy, Passed}
use Rattle.clause_finding.proofs.find_part.Given as goal

abbrev pub invariant-loop-k : goal.invariant-loop-k
invariant-loop-k g l =
    (f : ℕ → ℕ) → SizesBy l.n f (λ (k x : ℕ). goal.F-post g l.size k x) → l.left < sum l.n f → Passed l.n f l.left l.k l.at
