-- The counter width (document 01, "Variables"): the smallest w with 2^w at least n + 2, and its table.
--   IsWidth n w     w is the smallest with 2^w at least n + 2
--   bits_for x      the smallest w, from 1 on, with 2^w at least x
--   width n         the width for n atoms
--   widest          document 01's table: the largest n for w = 1 to 7
--   table_width n   the first w whose entry of the table reaches n, 0 if none does
-- Assumes nothing.
use Rattle.std.specs.Prelude.{ℕ, pred, ◌+◌, ◌^◌, ◌≤◌, List, [], ◌∷◌, leb, get_or}
use Rattle.lists.specs.Lists.{first}

pub record IsWidth (n w : ℕ) : Type 0 where
  pub enough : n + 2 ≤ 2 ^ w
  pub least : (v : ℕ) → n + 2 ≤ 2 ^ v → w ≤ v

unfoldable pub bits_for : ℕ → ℕ
bits_for x = first x (λ w. leb x (2 ^ w))

abbrev pub width : ℕ → ℕ
width n = bits_for (n + 2)

abbrev pub widest : List ℕ
widest = 0 ∷ 2 ∷ 6 ∷ 14 ∷ 30 ∷ 62 ∷ 126 ∷ []

unfoldable pub table_width : ℕ → ℕ
table_width n = first 7 (λ w. leb n (get_or widest (pred w) 0))
