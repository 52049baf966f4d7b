-- An item of a group that is known by its number.
--   in_group, of_group   an item of group k, where g is k, and what is known of it
-- Assumes nothing.
use Prim.Native.Nat.{ℕ, ◌≤◌}
use mathlib.Core.Path.{◌≡◌, sym, ◌∙◌, ap, subst}
use mathlib.Core.Bool.{Bool}
use Rattle.encoding.specs.Code.{Code}
use Rattle.encoding.specs.Literal.{Assignment}
use Rattle.clause_walk.specs.Walk.{item_count}
use Rattle.truth_literals.specs.Items.{item_true}

module _ (G : Code) {g k : ℕ} (e : g ≡ k) (a : ℕ) where
  pub in_group : a ≤ item_count G g → a ≤ item_count G k
  in_group h = subst (λ (n : ℕ). a ≤ item_count G n) e h

  pub of_group : (A : Assignment) {r : Bool} → r ≡ item_true G A k a → r ≡ item_true G A g a
  of_group A u = u ∙ ap (λ (n : ℕ). item_true G A n a) (sym e)
