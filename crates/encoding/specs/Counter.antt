-- Binary counters: the number of a row of bits, the bits of a number, comparison chains (group 5) and the successor (group 4).
-- Bits count from 1, the lowest.
--   value X w        the number with the bits X 1 to X w: 2^(i − 1) for each true one, added up
--   bit x i          bit i of the number x
--   successor w u v  group 4 for one atom: u is the next of v
--   chain w z x y    a chain of group 5: z i compares the lowest i bits of x and y
-- Assumes nothing.
use Rattle.std.specs.Prelude.{ℕ, zero, suc, pred, ◌^◌, ◌/◌, ◌%◌, Bool, cond, List, [], ◌∷◌, ◌++◌, eqb}
use Rattle.lists.specs.Lists.{sum, tab, each}
use Rattle.encoding.specs.Literal.{var, −◌, Clause}

abbrev pub value : (ℕ → Bool) → ℕ → ℕ
value X w = sum w (λ i. cond (X i) (2 ^ pred i) 0)

abbrev pub bit : ℕ → ℕ → Bool
bit x i = eqb (x / 2 ^ pred i % 2) 1

-- (vj, −ui, vi), (vj, ui, −vi)
abbrev pub keeps_clauses : (ℕ → ℕ) → (ℕ → ℕ) → ℕ → ℕ → List Clause
keeps_clauses u v i j = (var (v j) ∷ − u i ∷ var (v i) ∷ []) ∷ (var (v j) ∷ var (u i) ∷ − v i ∷ []) ∷ []

-- (−v1 .. −v(i−1), −ui, −vi), (−v1 .. −v(i−1), ui, vi)
abbrev pub flips_clauses : (ℕ → ℕ) → (ℕ → ℕ) → ℕ → List Clause
flips_clauses u v i =
    (tab (pred i) (λ j. − v j) ++ (− u i ∷ − v i ∷ [])) ∷ (tab (pred i) (λ j. − v j) ++ (var (u i) ∷ var (v i) ∷ [])) ∷ []

-- for j from 1 to i − 1 the first two, then the last two; with i = 1 these are (−u1, −v1), (u1, v1)
abbrev pub successor_at : (ℕ → ℕ) → (ℕ → ℕ) → ℕ → List Clause
successor_at u v i = each (pred i) (keeps_clauses u v i) ++ flips_clauses u v i

unfoldable pub successor : ℕ → (ℕ → ℕ) → (ℕ → ℕ) → List Clause
successor w u v = each w (successor_at u v)

-- (−z1, −x1), (−z1, y1), (z1, x1, −y1); for i from 2, with g = z(i−1):
-- (−zi, −xi, yi), (−zi, −xi, g), (−zi, yi, g), (zi, xi, −yi), (zi, xi, −g), (zi, −yi, −g)
abbrev pub chain_at : (ℕ → ℕ) → (ℕ → ℕ) → (ℕ → ℕ) → ℕ → List Clause
chain_at z x y zero = []
chain_at z x y (suc zero) = (− z 1 ∷ − x 1 ∷ []) ∷ (− z 1 ∷ var (y 1) ∷ []) ∷ (var (z 1) ∷ var (x 1) ∷ − y 1 ∷ []) ∷ []
chain_at z x y (suc (suc j)) =
    let i = suc (suc j) in
    let g = z (suc j) in
    (− z i ∷ − x i ∷ var (y i) ∷ []) ∷ (− z i ∷ − x i ∷ var g ∷ []) ∷ (− z i ∷ var (y i) ∷ var g ∷ [])
    ∷ (var (z i) ∷ var (x i) ∷ − y i ∷ []) ∷ (var (z i) ∷ var (x i) ∷ − g ∷ []) ∷ (var (z i) ∷ − y i ∷ − g ∷ []) ∷ []

unfoldable pub chain : ℕ → (ℕ → ℕ) → (ℕ → ℕ) → (ℕ → ℕ) → List Clause
chain w z x y = each w (chain_at z x y)
