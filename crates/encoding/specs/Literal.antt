-- Literals, clauses and assignments with their truth (document 01, "Clauses, in order" and "Check and filling out").
--   Literal           a variable, `var v`, or its negation, `− v`
--   literal_number l  the number that stands for l: the variable's, negative when negated
--   Assignment        a truth value for each variable number
--   value_of bs        the assignment of a list of values: variable v has the value at place v − 1
--   literal_true, clause_true, all_true  a literal, a clause, every clause of a list is true
--   within n cs       each literal of the clauses is of a variable from 1 to n
--   occurs v cs       some literal of the clauses is of variable v
-- Assumes nothing.
use Rattle.std.specs.Prelude.{ℕ, pred, Bool, false, not, List, eqb, ℤ, pos, neg_ℤ, get_or}
use Rattle.lists.specs.Lists.{all, any}
use Rattle.meaning.specs.Program.{is_atom}

infix 90 −◌
pub data Literal : Type 0 where
  var : ℕ → Literal
  −◌ : ℕ → Literal

abbrev pub literal_number : Literal → ℤ
literal_number (var v) = pos v
literal_number (− v) = neg_ℤ (pos v)

-- the variable of a literal
abbrev pub variable : Literal → ℕ
variable (var v) = v
variable (− v) = v

abbrev pub Clause : Type 0
Clause = List Literal

abbrev pub Assignment : Type 0
Assignment = ℕ → Bool

unfoldable pub value_of : List Bool → Assignment
value_of bs v = get_or bs (pred v) false

-- a positive literal is true where its variable has 1, a negative one where it has 0
abbrev pub literal_true : Assignment → Literal → Bool
literal_true A (var v) = A v
literal_true A (− v) = not (A v)

-- a clause is true if one of its literals is
abbrev pub clause_true : Assignment → Clause → Bool
clause_true A c = any (literal_true A) c

abbrev pub all_true : Assignment → List Clause → Bool
all_true A cs = all (clause_true A) cs

abbrev pub within : ℕ → List Clause → Bool
within n cs = all (λ c. all (λ l. is_atom n (variable l)) c) cs

abbrev pub occurs : ℕ → List Clause → Bool
occurs v cs = any (λ c. any (λ l. eqb (variable l) v) c) cs
