-- Literals and clauses as bytes (document 01, "Clauses, in order"), and texts at the front of a buffer.
--   literal_text x    the literal x: the digits of its variable's number, byte 45 before them when it is negative
--   literals_text c   the literals of c, each followed by one space
--   line_text c       the line of clause c: its literals, each followed by one space, then 0 and byte 10
--   Room s b          the buffer b has room for the text s
--   Wrote s b e r     e is the buffer b with the text s at its front, of r bytes; the bytes after it stay
-- Assumes nothing.
use Rattle.std.specs.Prelude.{ℕ, suc, ◌≤◌, ◌≡◌, List, [], ◌∷◌, ◌++◌, ℤ, pos, negsuc, length, drop}
use Rattle.text.specs.Decimal.{decimal}
use Rattle.encoding.specs.Literal.{Literal, Clause, literal_number}

abbrev pub literal_text : ℤ → List ℕ
literal_text (pos n) = decimal n
literal_text (negsuc n) = 45 ∷ decimal (suc n)

abbrev pub literals_text : List Literal → List ℕ
literals_text [] = []
literals_text (l ∷ ls) = (literal_text (literal_number l) ++ (32 ∷ [])) ++ literals_text ls

abbrev pub line_text : Clause → List ℕ
line_text c = literals_text c ++ (48 ∷ 10 ∷ [])

abbrev pub Room : List ℕ → List ℕ → Type 0
Room s b = length s ≤ length b

pub record Wrote (s b e : List ℕ) (r : ℕ) : Type 0 where
  pub count : r ≡ length s
  pub bytes : e ≡ s ++ drop r b
