-- Truth of whole items of groups 3, 4 and 5: the clauses of an atom's level and next, and of a pair's two chains.
--   zero_true A S a             group 3: every clause of atom a is true
--   next_true A S a i           group 4: every clause of bit i of atom a is true
--   nexts_true A S a            every clause of atom a is true
--   chain_bit_true A z x y i    every clause of bit i of a chain is true, where z, x and y are the variables before those of its first bit
--   chain_true A w z x y        every clause of such a chain of w bits is true
--   pair_true A S k b h         group 5: every clause of pair k, with body atom b and head h, is true
--   LevelIn bs S a              the variables of atom a, of its level and of its next have bytes in bs
--   After bs w v                the w variables after variable v have bytes
--   ChainIn bs w z x y          the variables of such a chain of w bits have bytes
--   PairIn bs S k b h           those of pair k, with body atom b and head h, have bytes
-- Assumes nothing.
use Rattle.std.specs.Prelude.{ℕ, pred, ◌+◌, ◌*◌, ◌^◌, ◌≤◌, ◌<◌, Bool, ◌&&◌, List, length}
use Rattle.lists.specs.Lists.{all_to, any_to}
use Rattle.encoding.specs.Literal.{Assignment, literal_true}
use Rattle.encoding.specs.Variables.{Sizes, level_var, next_var, below_var, next_below_var, var_count}
use Rattle.clause_walk.specs.Walk.{slot3, slots4, slot4}
use Rattle.clause_chains.specs.Chain.{chain_with}
use Rattle.truth_literals.specs.Clauses.{bit_true}

-- clause y of group 3
abbrev pub zero_clause : Assignment → Sizes → ℕ → ℕ → Bool
zero_clause A S a y = any_to 2 (λ l. literal_true A (slot3 S a y l))

unfoldable pub zero_true : Assignment → Sizes → ℕ → Bool
zero_true A S a = all_to S.w (zero_clause A S a)

-- clause y of bit i of group 4
abbrev pub next_clause : Assignment → Sizes → ℕ → ℕ → ℕ → Bool
next_clause A S a i y = any_to (slots4 i y) (λ l. literal_true A (slot4 S a i y l))

unfoldable pub next_true : Assignment → Sizes → ℕ → ℕ → Bool
next_true A S a i = all_to (2 * i) (next_clause A S a i)

unfoldable pub nexts_true : Assignment → Sizes → ℕ → Bool
nexts_true A S a = all_to S.w (next_true A S a)

abbrev pub chain_bit_true : Assignment → ℕ → ℕ → ℕ → ℕ → Bool
chain_bit_true A z x y i = bit_true A (chain_with (z + i) (x + i) (y + i) (z + pred i)) i

unfoldable pub chain_true : Assignment → ℕ → ℕ → ℕ → ℕ → Bool
chain_true A w z x y = all_to w (chain_bit_true A z x y)

unfoldable pub pair_true : Assignment → Sizes → ℕ → ℕ → ℕ → Bool
pair_true A S k b h =
    chain_true A S.w (below_var S k 0) (level_var S b 0) (level_var S h 0)
    && chain_true A S.w (next_below_var S k 0) (next_var S b 0) (level_var S h 0)

-- ---- variables that have bytes

pub record LevelIn (bs : List ℕ) (S : Sizes) (a : ℕ) : Type 0 where
  pub some : 0 < a
  pub among : a ≤ S.n
  pub bytes : var_count S 0 ≤ length bs

-- the w variables after variable v have bytes, and numbers below 2^16
abbrev pub After : List ℕ → ℕ → ℕ → Type 0
After bs w v = (v + w < 2 ^ 16) × (v + w ≤ length bs)

abbrev pub ChainIn : List ℕ → ℕ → ℕ → ℕ → ℕ → Type 0
ChainIn bs w z x y = (0 < w) × (w ≤ 7) × (After bs w z) × (After bs w x) × (After bs w y)

pub record PairIn (bs : List ℕ) (S : Sizes) (k b h : ℕ) : Type 0 where
  pub some_bit : 0 < S.w
  pub some : 0 < k
  pub few : k ≤ 500
  pub body_some : 0 < b
  pub body_among : b ≤ S.n
  pub head_some : 0 < h
  pub head_among : h ≤ S.n
  pub bytes : var_count S k ≤ length bs
