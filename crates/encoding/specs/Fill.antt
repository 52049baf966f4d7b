-- The filled-out assignment of a set of atoms (document 01, "Check and filling out"): the value of each variable, in their order.
--   fill_with S rule inner ps M ℓ  the values for sizes S, rules, their inner body atoms, pairs ps, set M and levels ℓ
--   fill P w M             the filled-out list of M
--   true_atoms P bs        the true atoms of a list of values
--   counter S A a          the counter of atom a under A
-- Assumes nothing.
use Rattle.std.specs.Prelude.{ℕ, ◌+◌, ◌^◌, ◌%◌, Bool, ◌&&◌, List, [], ◌∷◌, ◌++◌, ltb, length}
use Rattle.lists.specs.Lists.{all, tab, each, joined}
use Rattle.meaning.specs.Program.{Rule, Program, Atoms, rule_at, is_atom, body_true}
use Rattle.meaning.specs.Stage.{level}
use Rattle.encoding.specs.Literal.{Assignment, value_of}
use Rattle.encoding.specs.Variables.{Sizes, level_var}
use Rattle.encoding.specs.Counter.{value, bit}
use Rattle.encoding.specs.Clauses.{Pair, pair_at, sizes, pairs}

-- bit i of a chain: whether the lowest i bits of x are below those of y
abbrev pub less_at : ℕ → ℕ → ℕ → Bool
less_at x y i = ltb (x % 2 ^ i) (y % 2 ^ i)

-- rule r founds its head: its body is true and each inner body atom has a smaller level than the head
abbrev pub founds : Atoms → (ℕ → ℕ) → Rule → List ℕ → Bool
founds M ℓ R inner = body_true M R && all (λ b. ltb (ℓ b) (ℓ R.head)) inner

-- the bits of the levels, of the nexts, and the two chains of each pair
abbrev pub level_bits : Sizes → (ℕ → ℕ) → List Bool
level_bits S ℓ = each S.n (λ a. tab S.w (bit (ℓ a)))

abbrev pub next_bits : Sizes → (ℕ → ℕ) → List Bool
next_bits S ℓ = each S.n (λ a. tab S.w (bit (ℓ a + 1)))

abbrev pub chain_bits : Sizes → List Pair → (ℕ → ℕ) → ℕ → List Bool
chain_bits S ps ℓ k =
    tab S.w (less_at (ℓ (pair_at ps k).body) (ℓ (pair_at ps k).head)) ++ tab S.w (less_at (ℓ (pair_at ps k).body + 1) (ℓ (pair_at ps k).head))

-- rule r is `rule r`, with the inner body atoms `inner r`; pair k is element k of ps
unfoldable pub fill_with : Sizes → (ℕ → Rule) → (ℕ → List ℕ) → List Pair → Atoms → (ℕ → ℕ) → List Bool
fill_with S rule inner ps M ℓ =
    joined
    (tab S.n M
    ∷ tab S.m (λ r. body_true M (rule r))
    ∷ tab S.m (λ r. founds M ℓ (rule r) (inner r))
    ∷ level_bits S ℓ
    ∷ next_bits S ℓ
    ∷ each (length ps) (chain_bits S ps ℓ)
    ∷ [])

unfoldable pub fill : Program → ℕ → Atoms → List Bool
fill P w M = fill_with (sizes P w) (rule_at P.rules) (λ r. (rule_at P.rules r).positive) (pairs P) M (level P M)

-- the true atoms are those whose variable has 1
abbrev pub true_in : ℕ → Assignment → Atoms
true_in n A a = is_atom n a && A a

abbrev pub true_atoms : Program → List Bool → Atoms
true_atoms P bs = true_in P.atoms (value_of bs)

-- the counter of a is the number with the bits v(a,i)
abbrev pub counter : Sizes → Assignment → ℕ → ℕ
counter S A a = value (λ i. A (level_var S a i)) S.w
