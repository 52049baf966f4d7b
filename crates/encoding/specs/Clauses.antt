-- The clause list (document 01, "Clauses, in order"), clauses as derived, also where a literal meets its own negation.
--   sizes P w         the sizes of P with counters of w bits
--   pairs P           the pairs (body atom, head) in text order; pair_count P is K
--   pairs_of P r      the numbers of the pairs of rule r
--   rules_of P a      the numbers of the rules with head a
--   group1 P w ..     the groups of all rules, atoms or pairs
--   clauses P w       groups 1 to 7, in order
--   clause_count P w  document 01's formula for their number
-- Assumes nothing.
use Rattle.std.specs.Prelude.{ℕ, suc, pred, ◌+◌, ◌-◌, ◌*◌, cond, List, [], ◌∷◌, ◌++◌, map, eqb, length, get_or}
use Rattle.lists.specs.Lists.{tab, each, joined, select, sum}
use Rattle.meaning.specs.Program.{Rule, Program, rule_at}
use Rattle.encoding.specs.Literal.{var, −◌, Clause}
use Rattle.encoding.specs.Variables.{Sizes, body_var, founds_var, level_var, next_var, below_var, next_below_var, var_count}
use Rattle.encoding.specs.Counter.{successor, chain}

-- ---- the groups, for one rule, atom or pair

-- group 1, rule r: (−t, b) for each B; (−t, −c) for each C; then (t, −b .., c ..)
abbrev pub body_clauses : Sizes → ℕ → Rule → List Clause
body_clauses S r R =
    let t = body_var S r in
    map (λ b. − t ∷ var b ∷ []) R.positive
    ++ (map (λ c. − t ∷ − c ∷ []) R.negative
    ++ ((var t ∷ (map −◌ R.positive ++ map var R.negative)) ∷ []))

-- group 2, atom a with the rules rs: (a, −t(r)) for each of its rules; then (−a, t(r) ..)
abbrev pub implied_clauses : Sizes → ℕ → List ℕ → List Clause
implied_clauses S a rs = map (λ r. var a ∷ − body_var S r ∷ []) rs

abbrev pub supported_clause : Sizes → ℕ → List ℕ → Clause
supported_clause S a rs = − a ∷ map (λ r. var (body_var S r)) rs

-- group 3, atom a: (a, −v(a,i)) for i from 1
abbrev pub zero_clauses : Sizes → ℕ → List Clause
zero_clauses S a = tab S.w (λ i. var a ∷ − level_var S a i ∷ [])

-- group 4, atom a
abbrev pub next_clauses : Sizes → ℕ → List Clause
next_clauses S a = successor S.w (next_var S a) (level_var S a)

-- group 5, pair k of body atom b and head h: z = p with x = v(b), y = v(h), then z = q with x = u(b), y = v(h)
abbrev pub pair_clauses : Sizes → ℕ → ℕ → ℕ → List Clause
pair_clauses S k b h =
    chain S.w (below_var S k) (level_var S b) (level_var S h) ++ chain S.w (next_below_var S k) (next_var S b) (level_var S h)

-- group 6, rule r with the pairs ks: (−s, t); (−s, p(k,w)) for each of its pairs; (s, −t, −p(k,w) ..)
abbrev pub founds_clauses : Sizes → ℕ → List ℕ → List Clause
founds_clauses S r ks =
    let s = founds_var S r in
    let t = body_var S r in
    (− s ∷ var t ∷ [])
    ∷ (map (λ k. − s ∷ var (below_var S k S.w) ∷ []) ks
    ++ ((var s ∷ − t ∷ map (λ k. − below_var S k S.w) ks) ∷ []))

-- the counter of h is 1 where variable x is true: (−x, v(h,1)) and (−x, −v(h,i)) for i from 2
abbrev pub one_clauses : Sizes → ℕ → ℕ → List Clause
one_clauses S x h = (− x ∷ var (level_var S h 1) ∷ []) ∷ tab (pred S.w) (λ i. − x ∷ − level_var S h (suc i) ∷ [])

-- group 6, its last clauses: with B empty, (−t, v(H,1)) and (−t, −v(H,i)) for i from 2, else (−t, −q(k,w) ..)
abbrev pub lowest_clauses : Sizes → ℕ → ℕ → List ℕ → List Clause
lowest_clauses S r h [] = one_clauses S (body_var S r) h
lowest_clauses S r h (k ∷ ks) = (− body_var S r ∷ map (λ k. − next_below_var S k S.w) (k ∷ ks)) ∷ []

-- group 7, atom a with the rules rs: (−a, s(r) ..)
abbrev pub founded_clause : Sizes → ℕ → List ℕ → Clause
founded_clause S a rs = − a ∷ map (λ r. var (founds_var S r)) rs

-- ---- the pairs and rules of a program

abbrev pub sizes : Program → ℕ → Sizes
sizes P w = record { n = P.atoms; m = length P.rules; w = w }

pub record Pair : Type 0 where
  pub body : ℕ
  pub head : ℕ

abbrev pub no_pair : Pair
no_pair = record { body = 0; head = 0 }

abbrev pub pair_at : List Pair → ℕ → Pair
pair_at ps k = get_or ps (pred k) no_pair

-- the pairs of head h with the body atoms bs
abbrev pub pairs_with : ℕ → List ℕ → List Pair
pairs_with h bs = map (λ b. record { body = b; head = h }) bs

unfoldable pub pairs : Program → List Pair
pairs P = each (length P.rules) (λ r. pairs_with (rule_at P.rules r).head (rule_at P.rules r).positive)

abbrev pub pair_count : Program → ℕ
pair_count P = length (pairs P)

-- the pairs of rule r stand after those of the rules before it
unfoldable pub pairs_before : Program → ℕ → ℕ
pairs_before P r = sum (pred r) (λ q. length (rule_at P.rules q).positive)

abbrev pub pairs_of : Program → ℕ → List ℕ
pairs_of P r = tab (length (rule_at P.rules r).positive) (λ j. pairs_before P r + j)

unfoldable pub rules_of : List Rule → ℕ → List ℕ
rules_of rs a = select (length rs) (λ r. eqb (rule_at rs r).head a)

-- ---- the list

abbrev pub group1 : Program → ℕ → List Clause
group1 P w = each (length P.rules) (λ r. body_clauses (sizes P w) r (rule_at P.rules r))

abbrev pub group2 : Program → ℕ → List Clause
group2 P w =
    each P.atoms (λ a. implied_clauses (sizes P w) a (rules_of P.rules a) ++ (supported_clause (sizes P w) a (rules_of P.rules a) ∷ []))

abbrev pub group3 : Program → ℕ → List Clause
group3 P w = each P.atoms (zero_clauses (sizes P w))

abbrev pub group4 : Program → ℕ → List Clause
group4 P w = each P.atoms (next_clauses (sizes P w))

abbrev pub group5 : Program → ℕ → List Clause
group5 P w = each (pair_count P) (λ k. pair_clauses (sizes P w) k (pair_at (pairs P) k).body (pair_at (pairs P) k).head)

abbrev pub group6 : Program → ℕ → List Clause
group6 P w =
    each (length P.rules)
    (λ r. founds_clauses (sizes P w) r (pairs_of P r) ++ lowest_clauses (sizes P w) r (rule_at P.rules r).head (pairs_of P r))

abbrev pub group7 : Program → ℕ → List Clause
group7 P w = each P.atoms (λ a. founded_clause (sizes P w) a (rules_of P.rules a) ∷ [])

unfoldable pub clauses : Program → ℕ → List Clause
clauses P w =
    joined (group1 P w ∷ group2 P w ∷ group3 P w ∷ group4 P w ∷ group5 P w ∷ group6 P w ∷ group7 P w ∷ [])

unfoldable pub variables : Program → ℕ → ℕ
variables P w = var_count (sizes P w) (pair_count P)

-- O body atoms of rules in all, e rules with B empty: O + 5m − e + we + 2n + nw(w + 2) + K(12w − 5)
unfoldable pub body_atoms : Program → ℕ
body_atoms P = sum (length P.rules) (λ r. length (rule_at P.rules r).positive + length (rule_at P.rules r).negative)

unfoldable pub empty_bodies : Program → ℕ
empty_bodies P = sum (length P.rules) (λ r. cond (eqb (length (rule_at P.rules r).positive) 0) 1 0)

unfoldable pub clause_count : Program → ℕ → ℕ
clause_count P w =
    let n = P.atoms in
    let m = length P.rules in
    let e = empty_bodies P in
    body_atoms P + 5 * m - e + w * e + 2 * n + n * w * (w + 2) + pair_count P * (12 * w - 5)
