-- Levels without gaps (document 02, Q-6).
--   WithoutGaps M ℓ k h   each number from 1 to h is the level of some atom of M, and h is at most k; where it is used, h is the highest level and k the
--                         number of atoms of M
-- Assumes nothing.
use Rattle.std.specs.Prelude.{ℕ, zero, ◌≤◌, ◌<◌, ◌≡◌}
use Rattle.std.proofs.Math.Bool.{So}
use Rattle.meaning.specs.Program.{Atoms}

pub record WithoutGaps (M : Atoms) (ℓ : ℕ → ℕ) (k h : ℕ) : Type 0 where
  -- each number from 1 to h is the level of some atom of M
  pub each_level : (i : ℕ) → zero < i → i ≤ h → (a : ℕ) × So (M a) × (ℓ a ≡ i)
  -- h is at most k
  pub at_most : h ≤ k
