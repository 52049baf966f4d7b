-- Truth of whole items of groups 2 and 7: the rules of an atom.
--   each_true A S hs a founds   with the heads hs of all rules: each clause of a and x(r) is true, where a is the head of r;
--                               x(r) is s(r) where founds holds, else t(r)
--   some_true A S hs a founds   some x(r) is true, where a is the head of r
--   support_of A S hs a founds  both
--   head_true G A a             group 2: every clause of atom a is true
--   founded_true G A a          group 7: its clause is true
-- Assumes nothing.
use Rattle.std.specs.Prelude.{ℕ, Bool, true, false, ◌&&◌, ◌||◌, cond, List, eqb, length}
use Rattle.lists.specs.Lists.{all_to, any_to}
use Rattle.encoding.specs.Code.{Code, code_sizes}
use Rattle.encoding.specs.Literal.{Assignment, var, −◌, literal_true}
use Rattle.encoding.specs.Variables.{Sizes}
use Rattle.clause_walk.specs.Walk.{heads_of, head_at}
use Rattle.clause_slots.specs.SlotNumber.{rule_var}
use Rattle.truth_literals.specs.Clauses.{two_true}
use Rattle.truth_heads.specs.declared.Support.{Support}

-- rule r, if a is its head
abbrev pub implied_true : Assignment → Sizes → List ℕ → ℕ → Bool → ℕ → Bool
implied_true A S hs a founds r = cond (eqb (head_at hs r) a) (two_true A (var a) (− rule_var S founds r)) true

abbrev pub supports : Assignment → Sizes → List ℕ → ℕ → Bool → ℕ → Bool
supports A S hs a founds r = cond (eqb (head_at hs r) a) (literal_true A (var (rule_var S founds r))) false

abbrev pub each_true : Assignment → Sizes → List ℕ → ℕ → Bool → Bool
each_true A S hs a founds = all_to (length hs) (implied_true A S hs a founds)

abbrev pub some_true : Assignment → Sizes → List ℕ → ℕ → Bool → Bool
some_true A S hs a founds = any_to (length hs) (supports A S hs a founds)

unfoldable pub support_of : Assignment → Sizes → List ℕ → ℕ → Bool → Support
support_of A S hs a founds = record { each = each_true A S hs a founds; some = some_true A S hs a founds }

unfoldable pub head_true : Code → Assignment → ℕ → Bool
head_true G A a =
    each_true A (code_sizes G) (heads_of G) a false && (literal_true A (− a) || some_true A (code_sizes G) (heads_of G) a false)

unfoldable pub founded_true : Code → Assignment → ℕ → Bool
founded_true G A a = literal_true A (− a) || some_true A (code_sizes G) (heads_of G) a true
