-- Truth of blocks and items of the walk, by the literals in their slots.
--   any_slots                slots of one literal each
--   clause_at_lem, block_at  the places of a block's clauses, and of an item's blocks
--   block_of_lem             a block whose slots have one literal each
--   item_of_lem              an item by its blocks
--   item_one                 an item of one block
-- Assumes nothing.
use Prim.Native.Nat.{ℕ, suc, ◌≤◌, ◌<◌}
use native.Mathlib.Omega.{arith}
use mathlib.Core.Path.{◌≡◌, sym, ◌∙◌, ap, subst}
use mathlib.Core.Bool.{Bool, or-false}
use mathlib.Core.List.{List, [], ◌∷◌}
use Rattle.lists.specs.Lists.{any, each, all_to, any_to}
use Rattle.lists.proofs.Tests.{all_to_ext, any_to_ext, any_each}
use Rattle.encoding.specs.Code.{Code}
use Rattle.encoding.specs.Literal.{Assignment, Literal, literal_true, clause_true}
use Rattle.clause_walk.specs.Walk.{group_count, item_count, block_count, size, slots, slot, clause_at, BlockAt, At}
use Rattle.truth_literals.specs.Items.{block_true, item_true}

pub any_slots : (p : Literal → Bool) (n : ℕ) (f : ℕ → List Literal) (F : ℕ → Literal) → ((l : ℕ) → l < n → f (suc l) ≡ F (suc l) ∷ [])
    → any p (each n f) ≡ any_to n (λ l. p (F l))
any_slots p n f F q =
    any_each p n f ∙ any_to_ext n (λ l. any p (f l)) (λ l. p (F l)) (λ l h. ap (any p) (q l h) ∙ or-false (p (F (suc l))))

module _ {G : Code} {g a i : ℕ} (R : BlockAt G g a i) where
  pub clause_at_lem : (y : ℕ) → 0 < y → y ≤ size G g a i → At G g a i y
  clause_at_lem y p h = record { block_at = R; clause_some = p; clause_in_lem = h }

  pub block_of_lem : (A : Assignment) (k : ℕ) (n : ℕ → ℕ) (F : ℕ → ℕ → Literal) → k ≡ size G g a i → ((y : ℕ) → At G g a i y → n y ≡ slots G g a i y)
      → ((y l : ℕ) → At G g a i y → slot G g a i y l ≡ F y l ∷ [])
      → all_to k (λ y. any_to (n y) (λ l. literal_true A (F y l))) ≡ block_true G A g a i
  unfolding block_true
  block_of_lem A k n F e q s =
      all_to_ext k (λ y. any_to (n y) (λ l. literal_true A (F y l))) (λ y. clause_true A (clause_at G g a i y))
      (λ y h. clause_is (suc y) (clause_at_lem (suc y) (omega arith) (subst (λ (m : ℕ). y < m) e h)))
      ∙ ap (λ (m : ℕ). all_to m (λ y. clause_true A (clause_at G g a i y))) e
    where
      clause_is : (y : ℕ) → At G g a i y → any_to (n y) (λ l. literal_true A (F y l)) ≡ clause_true A (clause_at G g a i y)
      clause_is y B =
          ap (λ (m : ℕ). any_to m (λ l. literal_true A (F y l))) (q y B)
          ∙ sym (any_slots (literal_true A) (slots G g a i y) (slot G g a i y) (F y) (λ l h. s y (suc l) B))

module _ (G : Code) (g a : ℕ) (p : 0 < g) (q : g ≤ group_count) (h : 0 < a) (l : a ≤ item_count G g) where
  pub block_at : (i : ℕ) → 0 < i → i ≤ block_count G g → BlockAt G g a i
  block_at i m n = record { group_some = p; group_in = q; item_some = h; item_in = l; block_some = m; block_in = n }

  module _ (A : Assignment) where
    -- k blocks, each true as f says
    pub item_of_lem : (k : ℕ) (f : ℕ → Bool) → k ≡ block_count G g → ((i : ℕ) → i < k → BlockAt G g a (suc i) → f (suc i) ≡ block_true G A g a (suc i))
        → all_to k f ≡ item_true G A g a
    unfolding item_true
    item_of_lem k f e s =
        all_to_ext k f (block_true G A g a) (λ i m. s i m (block_at (suc i) (omega arith) (subst (λ (n : ℕ). suc i ≤ n) e m)))
        ∙ ap (λ (n : ℕ). all_to n (block_true G A g a)) e

    pub item_one : 1 ≡ block_count G g → {r : Bool} → (BlockAt G g a 1 → r ≡ block_true G A g a 1) → r ≡ item_true G A g a
    unfolding item_true
    item_one e s = s (block_at 1 (omega arith) (subst (λ (n : ℕ). 1 ≤ n) e (omega arith))) ∙ ap (λ (n : ℕ). all_to n (block_true G A g a)) e
