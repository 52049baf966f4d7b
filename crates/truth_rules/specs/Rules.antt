-- Truth of whole items of groups 1 and 6: the bodies of rules, and the rules.
--   AtomsIn vs bs               each atom of bs has a byte in vs
--   body_item_true A t bs p         group 1, a rule with the variable t of its body and the body atoms bs, the first p of them positive: every clause is true
--   founds_true A S r k b       group 6, rule r with b pairs after k others: the clauses of s(r) are true
--   fact_true A S r h           its last clauses, where it has no pair and head h
--   bound_true A S r k b        its last clause, where it has pairs
--   rule_true A S r h k b       every clause of rule r is true
-- Assumes nothing.
use Rattle.std.specs.Prelude.{ℕ, ◌+◌, ◌<◌, Bool, ◌&&◌, ◌||◌, cond, List, eqb, length, get_or}
use Rattle.lists.specs.Lists.{all_to, any_to}
use Rattle.encoding.specs.Literal.{Assignment, var, −◌, literal_true}
use Rattle.encoding.specs.Variables.{Sizes, body_var, founds_var, level_var, below_var, next_below_var}
use Rattle.clause_walk.specs.Walk.{signed, body_literal, body_opposite}
use Rattle.truth_literals.specs.Clauses.{Has, two_true}

abbrev pub AtomsIn : List ℕ → List ℕ → Type 0
AtomsIn vs bs = (j : ℕ) → j < length bs → Has vs (get_or bs j 0)

-- ---- group 1

-- the body and its atom y, and the long clause's literal of that atom
abbrev pub body_clause : Assignment → ℕ → List ℕ → ℕ → ℕ → Bool
body_clause A t bs p y = two_true A (− t) (body_literal bs p y)

abbrev pub body_fails : Assignment → List ℕ → ℕ → ℕ → Bool
body_fails A bs p y = literal_true A (body_opposite bs p y)

unfoldable pub body_item_true : Assignment → ℕ → List ℕ → ℕ → Bool
body_item_true A t bs p = all_to (length bs) (body_clause A t bs p) && (literal_true A (var t) || any_to (length bs) (body_fails A bs p))

-- ---- group 6

-- the pair at place j of the rule: variable f, which is s(r), and its level below; its level is not below; its next is not below
abbrev pub below_true : Assignment → Sizes → ℕ → ℕ → ℕ → Bool
below_true A S k f j = two_true A (− f) (var (below_var S (k + j) S.w))

abbrev pub not_below : Assignment → Sizes → ℕ → ℕ → Bool
not_below A S k j = literal_true A (− below_var S (k + j) S.w)

abbrev pub not_next : Assignment → Sizes → ℕ → ℕ → Bool
not_next A S k j = literal_true A (− next_below_var S (k + j) S.w)

-- s(r) and the body, s(r) and each pair's level below, and the long clause
unfoldable pub founds_true : Assignment → Sizes → ℕ → ℕ → ℕ → Bool
founds_true A S r k b =
    (two_true A (− founds_var S r) (var (body_var S r)) && all_to b (below_true A S k (founds_var S r)))
    && (two_true A (var (founds_var S r)) (− body_var S r) || any_to b (not_below A S k))

-- with the variable t of the body: bit j of the level of h is as bit j of the number 1
abbrev pub fact_clause : Assignment → Sizes → ℕ → ℕ → ℕ → Bool
fact_clause A S h t j = two_true A (− t) (signed (eqb j 1) (level_var S h j))

unfoldable pub fact_true : Assignment → Sizes → ℕ → ℕ → Bool
fact_true A S r h = all_to S.w (fact_clause A S h (body_var S r))

unfoldable pub bound_true : Assignment → Sizes → ℕ → ℕ → ℕ → Bool
bound_true A S r k b = literal_true A (− body_var S r) || any_to b (not_next A S k)

unfoldable pub rule_true : Assignment → Sizes → ℕ → ℕ → ℕ → ℕ → Bool
rule_true A S r h k b = founds_true A S r k b && cond (eqb b 0) (fact_true A S r h) (bound_true A S r k b)
