-- The order of the rows of document 01's table ("Verdicts"), for a call with its own order. A row has a place in the order, a number and a spot.
--   NotAfter k r s l q u   row r with spot s at place k comes no later than row q with spot u at place l
--   First Met r s          of the rows that are met, r with spot s is the first
-- Assumes nothing.
use Rattle.std.specs.Prelude.{ℕ, ◌≤◌, ◌<◌, ◌≡◌}

-- by place, then by the smaller spot, then by the smaller number
pub data NotAfter (k r s l q u : ℕ) : Type 0 where
  earlier : k < l → NotAfter k r s l q u
  nearer : k ≡ l → s < u → NotAfter k r s l q u
  smaller : k ≡ l → s ≡ u → r ≤ q → NotAfter k r s l q u

pub record First (Met : ℕ → ℕ → ℕ → Type 0) (r s : ℕ) : Type 0 where
  pub place : ℕ
  pub met : Met place r s
  pub first : (l q u : ℕ) → Met l q u → NotAfter place r s l q u
