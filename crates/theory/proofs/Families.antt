-- The variables 1 to V: each is of one family, at one place.
-- Assumes nothing.
use Prim.Native.Nat.{ℕ, zero, suc, ◌+◌, ◌-◌, ◌*◌, ◌≤◌, ◌<◌}
use native.Mathlib.Omega.{arith}
use mathlib.Core.Path.{◌≡◌}
use mathlib.Core.Logic.{⊎_elim}
use Rattle.lists.proofs.Tests.{le_or_lt}
use Rattle.lists.proofs.Tables.{row_place}
use Rattle.encoding.specs.Variables.{Sizes, body_var, founds_var, level_var, next_var, below_var, next_below_var, var_count}

-- variable v is of one of the families of document 01
pub data Member (S : Sizes) (K v : ℕ) : Type 0 where
  atom_at : (a : ℕ) → a < S.n → v ≡ suc a → Member S K v
  body_at : (r : ℕ) → r < S.m → v ≡ body_var S (suc r) → Member S K v
  founds_at : (r : ℕ) → r < S.m → v ≡ founds_var S (suc r) → Member S K v
  level_at : (a i : ℕ) → a < S.n → i < S.w → v ≡ level_var S (suc a) (suc i) → Member S K v
  next_at : (a i : ℕ) → a < S.n → i < S.w → v ≡ next_var S (suc a) (suc i) → Member S K v
  below_at : (k i : ℕ) → k < K → i < S.w → v ≡ below_var S (suc k) (suc i) → Member S K v
  next_below_at : (k i : ℕ) → k < K → i < S.w → v ≡ next_below_var S (suc k) (suc i) → Member S K v

module _ (S : Sizes) (K : ℕ) where
  open S use {n, m, w}

  pair_member : (v x : ℕ) → v ≡ suc (n + 2 * m + 2 * n * w + x) → x < K * (2 * w) → Member S K v
  pair_member v x e h =
      let q = row_place K (2 * w) x h in
      ⊎_elim (λ (l : w ≤ q.1). next_below_at q.0 (q.1 - w) q.2 (omega (arith, q.3)) (omega (arith, e, q.4)))
      (λ (l : q.1 < w). below_at q.0 q.1 q.2 l (omega (arith, e, q.4))) (le_or_lt w q.1)

  bit_member : (v x : ℕ) → v ≡ suc (n + 2 * m + x) → x < 2 * n * w + 2 * K * w → Member S K v
  bit_member v x e h =
      ⊎_elim
      (λ (l : n * w ≤ x).
      ⊎_elim (λ (k : n * w + n * w ≤ x). pair_member v (x - 2 * n * w) (omega arith) (omega arith))
      (λ (k : x < n * w + n * w). let q = row_place n w (x - n * w) (omega arith) in next_at q.0 q.1 q.2 q.3 (omega (arith, q.4)))
      (le_or_lt (n * w + n * w) x))
      (λ (l : x < n * w). let q = row_place n w x l in level_at q.0 q.1 q.2 q.3 (omega (arith, q.4))) (le_or_lt (n * w) x)

  pub member : (v : ℕ) → zero < v → v ≤ var_count S K → Member S K v
  member v p h =
      ⊎_elim (λ (l : v ≤ n). atom_at (v - 1) (omega arith) (omega arith))
      (λ (l : n < v).
      ⊎_elim (λ (k : v ≤ n + m). body_at (v - n - 1) (omega arith) (omega arith))
      (λ (k : n + m < v).
      ⊎_elim (λ (j : v ≤ n + m + m). founds_at (v - n - m - 1) (omega arith) (omega arith))
      (λ (j : n + m + m < v). bit_member v (v - n - m - m - 1) (omega arith) (omega arith))
      (le_or_lt v (n + m + m)))
      (le_or_lt v (n + m)))
      (le_or_lt v n)
