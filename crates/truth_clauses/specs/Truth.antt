-- Truth of clauses under an assignment of bytes (document 01, "Check and filling out").
--   value_in bs v, number_true bs x  those of crate truth_literals
--   item_before G g a     how many clauses stand before those of item a of group g
--   InItem G g a i j      clause j is clause i of item a of group g
--   group_true G A g      every clause of group g is true
--   first_false_item G A g  the first item of group g with a false clause, 0 if there is none
--   code_true G bs j      clause j is true
--   code_first_false G bs  the first clause that is false, 0 if none is
-- Assumes nothing.
use Rattle.std.specs.Prelude.{ℕ, pred, ◌+◌, ◌≤◌, ◌<◌, ◌≡◌, Bool, not, List, [], length, get_or}
use Rattle.lists.specs.Lists.{all_to, sum, first}
use Rattle.encoding.specs.Code.{Code, clauses_of}
use Rattle.encoding.specs.Literal.{Assignment, clause_true}
use Rattle.clause_walk.specs.Walk.{group_count, item_count}
use Rattle.clause_counts.specs.Counts.{item_size, group_size}
use Rattle.truth_literals.specs.Items.{item_true}
pub use Rattle.truth_literals.specs.Values.{value_in, number_true}

abbrev pub item_before : Code → ℕ → ℕ → ℕ
item_before G g a = sum (pred g) (group_size G) + sum (pred a) (item_size G g)

pub record InItem (G : Code) (g a i j : ℕ) : Type 0 where
  pub group_some : 0 < g
  pub group_in : g ≤ group_count
  pub item_some : 0 < a
  pub item_in : a ≤ item_count G g
  pub clause_some : 0 < i
  pub clause_in_lem : i ≤ item_size G g a
  pub number_is : j ≡ item_before G g a + i

abbrev pub group_true : Code → Assignment → ℕ → Bool
group_true G A g = all_to (item_count G g) (item_true G A g)

abbrev pub first_false_item : Code → Assignment → ℕ → ℕ
first_false_item G A g = first (item_count G g) (λ a. not (item_true G A g a))

abbrev pub code_true : Code → List ℕ → ℕ → Bool
code_true G bs j = clause_true (value_in bs) (get_or (clauses_of G) (pred j) [])

-- clause j is false
abbrev pub code_false : Code → List ℕ → ℕ → Bool
code_false G bs j = not (code_true G bs j)

unfoldable pub code_first_false : Code → List ℕ → ℕ
code_first_false G bs = first (length (clauses_of G)) (code_false G bs)
