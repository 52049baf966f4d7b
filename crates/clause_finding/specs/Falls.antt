-- Numbers of clauses one after the other, and where a clause falls.
--   SizesBy n f P     of n parts P says that part k, before the last one, has f k clauses
--   Falls n f x r     with x of the f 1 + .. + f n clauses before it, a clause is in part r .number, after r.left clauses of that part
--   Passed n f x i k  the search is at part i, with k of the x clauses left to pass
--   Between n f x a b the clause is in one of the parts a + 1 to b
-- Assumes nothing.
use Rattle.std.specs.Prelude.{ℕ, pred, ◌+◌, ◌≤◌, ◌<◌, ◌≡◌}
use Rattle.lists.specs.Lists.{sum}
use Rattle.clause_finding.specs.declared.PartFound.{PartFound}

abbrev pub SizesBy : ℕ → (ℕ → ℕ) → (ℕ → ℕ → Type 0) → Type 0
SizesBy n f P = (k x : ℕ) → 0 < k → k < n → P k x → x ≡ f k

pub record Passed (n : ℕ) (f : ℕ → ℕ) (x i k : ℕ) : Type 0 where
  pub some : 0 < i
  pub within : i ≤ n
  pub left_are : sum (pred i) f + k ≡ x

pub record Falls (n : ℕ) (f : ℕ → ℕ) (x : ℕ) (r : PartFound) : Type 0 where
  pub at : Passed n f x r.number r.left
  pub inside : r.left < f r.number

pub record Between (n : ℕ) (f : ℕ → ℕ) (x a b : ℕ) : Type 0 where
  pub some : a < b
  pub within : b ≤ n
  pub low : sum a f ≤ x
  pub high : x < sum b f
