-- Truth of clauses of two and three literals, and of a chain's bit.
--   Has bs v                    variable v has a byte in bs
--   LiteralIn bs x              the literal with the number x is of a variable that has a byte in bs
--   two_true, three_true        a clause of two literals is true, of three
--   pairs_true t z x y g        the three clauses of z and two of x, y and g are true
--   BitIn bs c i                the variables of bit i of the chain c have bytes in bs
--   bit_true A c i              every clause of that bit is true
-- Assumes nothing.
use Rattle.std.specs.Prelude.{ℕ, ◌≤◌, ◌<◌, ◌^◌, ◌≡◌, Bool, ◌&&◌, ◌||◌, List, ℤ, nat_abs, length}
use Rattle.lists.specs.Lists.{all_to, any_to}
use Rattle.encoding.specs.Literal.{Assignment, Literal, literal_true}
use Rattle.clause_walk.specs.Walk.{chain_size, chain_slots, chain_slot}
use Rattle.clause_chains.specs.declared.Chain.{Chain}

abbrev pub Has : List ℕ → ℕ → Type 0
Has bs v = (0 < v) × (v ≤ length bs)

-- with a negation in an i32
abbrev pub LiteralIn : List ℕ → ℤ → Type 0
LiteralIn bs x = (nat_abs x < 2 ^ 31) × (0 < nat_abs x) × (nat_abs x ≤ length bs)

abbrev pub two_true : Assignment → Literal → Literal → Bool
two_true A x y = literal_true A x || literal_true A y

abbrev pub three_true : Assignment → Literal → Literal → Literal → Bool
three_true A x y z = (literal_true A x || literal_true A y) || literal_true A z

-- the clauses that have z and two of x, y and g, each literal true as t says
abbrev pub pairs_true : (ℤ → Bool) → ℤ → ℤ → ℤ → ℤ → Bool
pairs_true t z x y g = (((t z || t x) || t y) && ((t z || t x) || t g)) && ((t z || t y) || t g)

pub record BitIn (bs : List ℕ) (c : Chain) (i : ℕ) : Type 0 where
  pub z_in : Has bs c.z.0
  pub x_in : Has bs c.x.0
  pub y_in : Has bs c.y.0
  -- the first bit has no bit before it
  pub g_in : (i ≡ 1 → ⊥) → Has bs c.g.0

-- clause y of the bit
abbrev pub bit_clause : Assignment → Chain → ℕ → ℕ → Bool
bit_clause A c i y = any_to (chain_slots i y) (λ l. literal_true A (chain_slot c.z.0 c.x.0 c.y.0 c.g.0 i y l))

unfoldable pub bit_true : Assignment → Chain → ℕ → Bool
bit_true A c i = all_to (chain_size i) (bit_clause A c i)
