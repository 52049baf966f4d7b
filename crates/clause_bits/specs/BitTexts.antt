-- The lines of a chain's bit, group 5, from their literals.
--   starts_text p x y        the lines of p with x and of p with y
--   ends_text p x y g        those of p and x with y and of p and x with g
--   half_text p x y g        those of p with two of x, y and g
--   first_text, next_text    the lines of a chain's first bit, and of a further one
--   chain_clause c i y       clause y of bit i of the chain c
--   bit_text c i             the lines of bit i of the chain c
--   ShortBit c i             all variables of bit i of the chain c are from 1 to 9,999
-- Assumes nothing.
use Rattle.std.specs.Prelude.{ℕ, ◌≡◌, List, [], ◌∷◌, ◌++◌}
use Rattle.lists.specs.Lists.{each}
use Rattle.encoding.specs.Literal.{Literal, Clause}
use Rattle.digits.specs.Bytes.{line_text}
use Rattle.clause_walk.specs.Walk.{chain_size, chain_slots, chain_slot}
use Rattle.clause_chains.specs.declared.Chain.{Chain}
use Rattle.clause_numerals.specs.Numbered.{Short}
use Rattle.clause_numerals.specs.Numerals.{opposed}

unfoldable pub starts_text : Literal → Literal → Literal → List ℕ
starts_text p x y = line_text (p ∷ x ∷ []) ++ line_text (p ∷ y ∷ [])

unfoldable pub ends_text : Literal → Literal → Literal → Literal → List ℕ
ends_text p x y g = line_text (p ∷ x ∷ y ∷ []) ++ line_text (p ∷ x ∷ g ∷ [])

unfoldable pub half_text : Literal → Literal → Literal → Literal → List ℕ
half_text p x y g = ends_text p x y g ++ line_text (p ∷ y ∷ g ∷ [])

unfoldable pub first_text : Literal → Literal → Literal → List ℕ
first_text z x y = starts_text (opposed z) (opposed x) y ++ line_text (z ∷ x ∷ opposed y ∷ [])

unfoldable pub next_text : Literal → Literal → Literal → Literal → List ℕ
next_text z x y g = half_text (opposed z) (opposed x) y g ++ half_text z x (opposed y) (opposed g)

abbrev pub chain_clause : Chain → ℕ → ℕ → Clause
chain_clause c i y = each (chain_slots i y) (λ l. chain_slot c.z.0 c.x.0 c.y.0 c.g.0 i y l ∷ [])

abbrev pub bit_text : Chain → ℕ → List ℕ
bit_text c i = each (chain_size i) (λ y. line_text (chain_clause c i y))

pub record ShortBit (c : Chain) (i : ℕ) : Type 0 where
  pub short_z : Short c.z.0
  pub short_x : Short c.x.0
  pub short_y : Short c.y.0
  pub short_g : (i ≡ 1 → ⊥) → Short c.g.0
