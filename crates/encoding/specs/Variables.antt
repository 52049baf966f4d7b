-- The variables and their numbers (document 01, "Variables"). Atom a is variable a.
--   Sizes             n atoms, m rules, counters of w bits
--   body_var S r      t(r), the body of rule r is true
--   founds_var S r    s(r), rule r founds its head
--   level_var S a i   v(a,i), bit i of the level of a
--   next_var S a i    u(a,i), bit i of the next of a
--   below_var S k i   p(k,i), pair k, level below
--   next_below_var S k i  q(k,i), pair k, next below
--   var_count S K     V, with K pairs
-- Rules, bits and pairs count from 1, as in the document.
-- Assumes nothing.
use Rattle.std.specs.Prelude.{ℕ, pred, ◌+◌, ◌*◌}

pub record Sizes : Type 0 where
  pub n : ℕ
  pub m : ℕ
  pub w : ℕ

abbrev pub body_var : Sizes → ℕ → ℕ
body_var S r = S.n + r

abbrev pub founds_var : Sizes → ℕ → ℕ
founds_var S r = S.n + S.m + r

abbrev pub level_var : Sizes → ℕ → ℕ → ℕ
level_var S a i = S.n + 2 * S.m + pred a * S.w + i

abbrev pub next_var : Sizes → ℕ → ℕ → ℕ
next_var S a i = S.n + 2 * S.m + S.n * S.w + pred a * S.w + i

abbrev pub below_var : Sizes → ℕ → ℕ → ℕ
below_var S k i = S.n + 2 * S.m + 2 * S.n * S.w + 2 * pred k * S.w + i

abbrev pub next_below_var : Sizes → ℕ → ℕ → ℕ
next_below_var S k i = S.w + below_var S k i

abbrev pub var_count : Sizes → ℕ → ℕ
var_count S K = S.n + 2 * S.m + 2 * S.n * S.w + 2 * K * S.w
