-- What stands where in a text. Places count from 0.
--   StandsAt t s u   from byte s on t has the bytes u
--   separates b      b parts numbers: a space, a bracket or a line end
--   WholeAt t s u    u stands at s, and the bytes before and after it part numbers; so s is the first byte of a number u
-- Assumes nothing.
use Rattle.std.specs.Prelude.{ℕ, zero, pred, ◌+◌, ◌<◌, ◌≡◌, Bool, ◌||◌, List, eqb, length, take, drop, get_or}
use Rattle.std.proofs.Math.Bool.{So}

abbrev pub StandsAt : List ℕ → ℕ → List ℕ → Type 0
StandsAt t s u = take (length u) (drop s t) ≡ u

abbrev pub separates : ℕ → Bool
separates b = eqb b 32 || (eqb b 40 || (eqb b 41 || eqb b 10))

pub record WholeAt (t : List ℕ) (s : ℕ) (u : List ℕ) : Type 0 where
  pub stands : StandsAt t s u
  pub starts : zero < s
  pub before : So (separates (get_or t (pred s) 0))
  pub behind : So (separates (get_or t (s + length u) 0))
