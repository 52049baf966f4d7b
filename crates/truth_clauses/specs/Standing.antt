-- The way to the first false clause.
--   TrueTo G vs n        the first n clauses are true
--   Standing G t vs c    c is a place, or the one after the last, with all clauses before it true
--   FalseItem G A g a    item a of group g has a false clause, and no group or item before it has one
-- Assumes nothing.
use Rattle.std.specs.Prelude.{ℕ, suc, pred, ◌≤◌, ◌<◌, ◌≡◌, true, false, List}
use Rattle.lists.specs.Lists.{all_to}
use Rattle.encoding.specs.Code.{Code}
use Rattle.encoding.specs.Literal.{Assignment}
use Rattle.clause_walk.specs.Walk.{group_count, item_count}
use Rattle.truth_literals.specs.Items.{item_true}
use Rattle.clause_tables.specs.declared.Totals.{Totals}
use Rattle.clause_places.specs.declared.Place.{Place}
use Rattle.clause_places.specs.Places.{place_at}
use Rattle.truth_clauses.specs.Truth.{group_true, code_false}

pub record TrueTo (G : Code) (vs : List ℕ) (n : ℕ) : Type 0 where
  pub each_true_lem : (j : ℕ) → j < n → code_false G vs (suc j) ≡ false

pub record Standing (G : Code) (t : Totals) (vs : List ℕ) (c : Place) : Type 0 where
  pub own : c ≡ place_at G c.number
  pub some : 0 < c.number
  pub within : c.number ≤ suc t.clauses
  pub true_before : TrueTo G vs (pred c.number)

pub record FalseItem (G : Code) (A : Assignment) (g a : ℕ) : Type 0 where
  pub group_some : 0 < g
  pub group_in : g ≤ group_count
  pub item_some : 0 < a
  pub item_in : a ≤ item_count G g
  pub groups_before : all_to (pred g) (group_true G A) ≡ true
  pub items_before : all_to (pred a) (item_true G A g) ≡ true
  pub item_false : item_true G A g a ≡ false
