-- The bits of levels and the chains that compare them, as bytes (document 01, "Variables" and "Check and filling out").
--   truth_bytes n p      the truth values p 1 to p n, each as byte_of has it
--   bit_bytes w x        the w lowest bits of x
--   level_bytes n w d ℓ  the bits of ℓ a + d of each atom: of its level, or its next; level_at_bytes w d ℓ a those of atom a
--   less_bytes w x y     a chain: for i from 1 to w, whether the lowest i bits of x are below those of y
--   pair_bytes w x y     the two chains of a pair, for the levels x of its body atom and y of its head; pair_at_bytes G w ℓ k those of pair k
--   chain_bytes G w ℓ    those of each pair
-- Assumes nothing.
use Rattle.std.specs.Prelude.{ℕ, ◌+◌, Bool, cond, List, ◌++◌}
use Rattle.lists.specs.Lists.{tab, each}
use Rattle.encoding.specs.Code.{Code, pair_total, pair_body, pair_head}
use Rattle.encoding.specs.Counter.{bit}
use Rattle.encoding.specs.Fill.{less_at}

abbrev pub byte_of : Bool → ℕ
byte_of b = cond b 1 0

abbrev pub truth_bytes : ℕ → (ℕ → Bool) → List ℕ
truth_bytes n p = tab n (λ i. byte_of (p i))

abbrev pub bit_bytes : ℕ → ℕ → List ℕ
bit_bytes w x = truth_bytes w (bit x)

abbrev pub level_at_bytes : ℕ → ℕ → (ℕ → ℕ) → ℕ → List ℕ
level_at_bytes w d ℓ a = bit_bytes w (ℓ a + d)

abbrev pub level_bytes : ℕ → ℕ → ℕ → (ℕ → ℕ) → List ℕ
level_bytes n w d ℓ = each n (level_at_bytes w d ℓ)

abbrev pub less_bytes : ℕ → ℕ → ℕ → List ℕ
less_bytes w x y = truth_bytes w (less_at x y)

abbrev pub pair_bytes : ℕ → ℕ → ℕ → List ℕ
pair_bytes w x y = less_bytes w x y ++ less_bytes w (x + 1) y

abbrev pub pair_at_bytes : Code → ℕ → (ℕ → ℕ) → ℕ → List ℕ
pair_at_bytes G w ℓ k = pair_bytes w (ℓ (pair_body G k)) (ℓ (pair_head G k))

abbrev pub chain_bytes : Code → ℕ → (ℕ → ℕ) → List ℕ
chain_bytes G w ℓ = each (pair_total G) (pair_at_bytes G w ℓ)
