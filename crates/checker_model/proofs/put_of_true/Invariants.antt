use Prim.Native.Nat.{ℕ}
use Rattle.checker_model.specs.Model.{NumbersBy, chosen, numbers_text}
use Rattle.digits.specs.Bytes.{Wrote}
use Rattle.truth_literals.specs.Values.{value_in}
use lib.ListN.{length}
use Rattle.checker_model.proofs.put_of_true.Given as goal

abbrev pub invariant-loop-a : goal.invariant-loop-a
invariant-loop-a g l =
    (f : ℕ → ℕ) → NumbersBy (length l.atoms) f (λ (k x : ℕ). goal.F-post g l.number k x) → Wrote (numbers_text (chosen (value_in l.atoms) f l.a)) l.initial.buf l.buf l.to
