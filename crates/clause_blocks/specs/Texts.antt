-- The lines of whole blocks of group 4, the next levels, from their literals.
--   lower_word S a j       -v(a,j) and one space
--   lower_text S a k       -v(a,1) to -v(a,k), each followed by one space
--   pair_text x u v        the two lines of a lower bit, whose variable is x
--   pair_at S a u v j      those of bit j
--   pairs_text S a k u v   those of the k lowest bits
--   long_text S a k u v    the line of the k lower bits, negated, and of u and v
--   longs_text S a k u v   this with u and v negated, and as they are
--   next_block_text S a i  the lines of block i of atom a
-- Assumes nothing.
use Rattle.std.specs.Prelude.{ℕ, pred, List, [], ◌∷◌, ◌++◌}
use Rattle.lists.specs.Lists.{each}
use Rattle.encoding.specs.Literal.{Literal, var, −◌, literal_number}
use Rattle.encoding.specs.Variables.{Sizes, level_var, next_var}
use Rattle.digits.specs.Bytes.{literal_text, line_text}
use Rattle.clause_numerals.specs.Numerals.{opposed}

abbrev pub lower_word : Sizes → ℕ → ℕ → List ℕ
lower_word S a j = literal_text (literal_number (− level_var S a j)) ++ (32 ∷ [])

abbrev pub lower_text : Sizes → ℕ → ℕ → List ℕ
lower_text S a k = each k (lower_word S a)

unfoldable pub pair_text : Literal → Literal → Literal → List ℕ
pair_text x u v = line_text (x ∷ opposed u ∷ v ∷ []) ++ line_text (x ∷ u ∷ opposed v ∷ [])

abbrev pub pair_at : Sizes → ℕ → Literal → Literal → ℕ → List ℕ
pair_at S a u v j = pair_text (var (level_var S a j)) u v

abbrev pub pairs_text : Sizes → ℕ → ℕ → Literal → Literal → List ℕ
pairs_text S a k u v = each k (pair_at S a u v)

unfoldable pub long_text : Sizes → ℕ → ℕ → Literal → Literal → List ℕ
long_text S a k u v = lower_text S a k ++ line_text (u ∷ v ∷ [])

unfoldable pub longs_text : Sizes → ℕ → ℕ → Literal → Literal → List ℕ
longs_text S a k u v = long_text S a k (opposed u) (opposed v) ++ long_text S a k u v

unfoldable pub next_block_text : Sizes → ℕ → ℕ → List ℕ
next_block_text S a i =
    let u = var (next_var S a i) in
    let v = var (level_var S a i) in
    pairs_text S a (pred i) u v ++ longs_text S a (pred i) u v
