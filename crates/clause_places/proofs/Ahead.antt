-- The coordinates of the clauses follow one another.
--   each_after, tab_after   tables from their first element on
--   after_past                the numbers that add nothing are passed
--   Stands G c              a clause stands at c
--   Chained xs                each of the coordinates xs is a clause's, and what follows it in xs is what follows it in the walk
--   all_coordinates_chained   the coordinates of the clauses are so, and follow the place before the first group
-- Assumes nothing.
use Prim.Native.Nat.{ℕ, zero, suc, ◌+◌, ◌-◌, ◌≤◌, ◌<◌}
use native.Mathlib.Nat.{zero-add, suc-add}
use native.Mathlib.Omega.{arith}
use mathlib.Core.Path.{◌≡◌, refl, sym, ◌∙◌, ap, ap₂, subst}
use mathlib.Core.List.{List, [], ◌∷◌, ◌++◌, append_assoc}
use Rattle.encoding.specs.Code.{Code}
use Rattle.lists.specs.Lists.{tab, each}
use Rattle.lists.proofs.Tables.{each_front, tab_each}
use Rattle.clause_walk.specs.Walk.{item_count, block_count, size, At}
use Rattle.clause_places.specs.declared.Coordinates.{Coordinates}
use Rattle.clause_places.specs.Places.{coordinates, block_coordinates, item_coordinates, group_coordinates, all_coordinates, group_start}
use Rattle.clause_places.specs.Ahead.{after, groups_ahead, items_ahead, blocks_ahead, ahead}

module _ {A : Type 0} where
  after_shift : (d k : ℕ) (f : ℕ → List A) → after d (suc k) f ≡ after d k (λ i. f (suc i))
  after_shift zero k f = refl
  after_shift (suc d) k f = ap (λ (xs : List A). f (suc k) ++ xs) (after_shift d (suc k) f)

  pub each_after : (n : ℕ) (f : ℕ → List A) → each n f ≡ after n 1 f
  each_after zero f = refl
  each_after (suc n) f = each_front n f ∙ ap (λ (xs : List A). f 1 ++ xs) (each_after n (λ i. f (suc i)) ∙ sym (after_shift n 1 f))

  pub tab_after : (n : ℕ) (f : ℕ → A) → tab n f ≡ after n 1 (λ i. f i ∷ [])
  tab_after n f = tab_each n f ∙ each_after n (λ i. f i ∷ [])

  pub after_past : (x d k : ℕ) (f : ℕ → List A) → ((q : ℕ) → k ≤ q → q < x + k → f q ≡ []) → after (x + d) k f ≡ after d (x + k) f
  after_past zero d k f none = ap₂ (λ (d k : ℕ). after d k f) (zero-add d) (sym (zero-add k))
  after_past (suc x) d k f none =
      ap (λ (n : ℕ). after n k f) (suc-add x d)
      ∙ ap (λ (xs : List A). xs ++ after (x + d) (suc k) f) (none k (omega arith) (omega arith))
      ∙ after_past x d (suc k) f (λ q h n. none q (omega (arith, h)) (omega (arith, n)))
      ∙ ap (λ (n : ℕ). after d n f) (shift x k)
    where
      shift : (x k : ℕ) → x + suc k ≡ suc x + k
      shift x k = omega arith

module _ (G : Code) where
  abbrev pub AtCoordinates : Coordinates → Type 0
  AtCoordinates c = At G c.group c.item c.block c.clause

  -- coordinates where a clause stands
  pub record Stands (c : Coordinates) : Type 0 where
    pub at : AtCoordinates c
    pub is : c ≡ coordinates G c.group c.item c.block c.clause

  pub data Chained : List Coordinates → Type 0 where
    end : Chained []
    link : {c : Coordinates} {cs : List Coordinates} → Stands c → ahead G c ≡ cs → Chained cs → Chained (c ∷ cs)

  -- ---- the coordinates of the clauses are chained, level by level

  chain_block : (g a i d y : ℕ) (cs : List Coordinates) → ((x : ℕ) → 0 < x → x ≤ size G g a i → At G g a i x)
      → 0 < y → y + d ≡ suc (size G g a i) → cs ≡ blocks_ahead G g a i (item_count G g - a) (block_count G g - i) → Chained cs
      → Chained (after d y (λ x. coordinates G g a i x ∷ []) ++ cs)
  chain_block g a i zero y cs at p q e ch = ch
  chain_block g a i (suc d) y cs at p q e ch =
      link
      (record { at = at y p (omega (arith, q)); is = refl })
      (ap₂ (λ (k : ℕ) (xs : List Coordinates). after k (suc y) (λ x. coordinates G g a i x ∷ []) ++ xs) (left (size G g a i) q) (sym e))
      (chain_block g a i d (suc y) cs at (omega arith) (omega (arith, q)) e ch)
    where
      left : (s : ℕ) → y + suc d ≡ suc s → s - y ≡ d
      left s q = omega (arith, q)

  chain_blocks : (g a d i : ℕ) (cs : List Coordinates)
      → ((j x : ℕ) → 0 < j → j ≤ block_count G g → 0 < x → x ≤ size G g a j → At G g a j x)
      → 0 < i → i + d ≡ suc (block_count G g) → cs ≡ items_ahead G g a (item_count G g - a) → Chained cs
      → Chained (after d i (block_coordinates G g a) ++ cs)
  chain_blocks g a zero i cs at p q e ch = ch
  chain_blocks g a (suc d) i cs at p q e ch =
      subst Chained
      (ap (λ (xs : List Coordinates). xs ++ (after d (suc i) (block_coordinates G g a) ++ cs)) (sym (tab_after (size G g a i) (coordinates G g a i)))
      ∙ sym (append_assoc (block_coordinates G g a i) (after d (suc i) (block_coordinates G g a)) cs))
      (chain_block g a i (size G g a i) 1 (after d (suc i) (block_coordinates G g a) ++ cs)
      (λ x. at i x p (omega (arith, q))) (omega arith) (omega arith)
      (ap₂ (λ (k : ℕ) (xs : List Coordinates). after k (suc i) (block_coordinates G g a) ++ xs) (sym (left (block_count G g) q)) e)
      (chain_blocks g a d (suc i) cs at (omega arith) (omega (arith, q)) e ch))
    where
      left : (s : ℕ) → i + suc d ≡ suc s → s - i ≡ d
      left s q = omega (arith, q)

  chain_items : (g d a : ℕ) (cs : List Coordinates)
      → ((b j x : ℕ) → 0 < b → b ≤ item_count G g → 0 < j → j ≤ block_count G g → 0 < x → x ≤ size G g b j → At G g b j x)
      → 0 < a → a + d ≡ suc (item_count G g) → cs ≡ groups_ahead G g → Chained cs
      → Chained (after d a (item_coordinates G g) ++ cs)
  chain_items g zero a cs at p q e ch = ch
  chain_items g (suc d) a cs at p q e ch =
      subst Chained
      (ap (λ (xs : List Coordinates). xs ++ (after d (suc a) (item_coordinates G g) ++ cs)) (sym (each_after (block_count G g) (block_coordinates G g a)))
      ∙ sym (append_assoc (item_coordinates G g a) (after d (suc a) (item_coordinates G g)) cs))
      (chain_blocks g a (block_count G g) 1 (after d (suc a) (item_coordinates G g) ++ cs)
      (λ j x. at a j x p (omega (arith, q))) (omega arith) (omega arith)
      (ap₂ (λ (k : ℕ) (xs : List Coordinates). after k (suc a) (item_coordinates G g) ++ xs) (sym (left (item_count G g) q)) e)
      (chain_items g d (suc a) cs at (omega arith) (omega (arith, q)) e ch))
    where
      left : (s : ℕ) → a + suc d ≡ suc s → s - a ≡ d
      left s q = omega (arith, q)

  chain_groups : (d g : ℕ) → 0 < g → g + d ≡ 8 → Chained (after d g (group_coordinates G))
  chain_groups zero g p q = end
  chain_groups (suc d) g p q =
      subst Chained
      (ap (λ (xs : List Coordinates). xs ++ after d (suc g) (group_coordinates G)) (sym (each_after (item_count G g) (item_coordinates G g))))
      (chain_items g (item_count G g) 1 (after d (suc g) (group_coordinates G))
      (λ b j x p₁ q₁ p₂ q₂ p₃ q₃. record {
        block_at = record { group_some = p; group_in = omega (arith, q); item_some = p₁; item_in = q₁; block_some = p₂; block_in = q₂ };
        clause_some = p₃;
        clause_in_lem = q₃;
      }) (omega arith) (omega arith)
      (ap (λ (k : ℕ). after k (suc g) (group_coordinates G)) (left q))
      (chain_groups d (suc g) (omega arith) (omega (arith, q))))
    where
      left : g + suc d ≡ 8 → d ≡ 7 - g
      left q = omega (arith, q)

  pub all_coordinates_chained : Chained (all_coordinates G)
  unfolding all_coordinates
  all_coordinates_chained = subst Chained (sym (each_after 7 (group_coordinates G))) (chain_groups 7 1 (omega arith) (omega arith))

  -- they follow the place before the first group
  pub ahead_first : ahead G (group_start G 1) ≡ all_coordinates G
  unfolding all_coordinates
  ahead_first =
      ap (λ (xs : List Coordinates). xs ++ after 6 2 (group_coordinates G)) (sym (each_after (item_count G 1) (item_coordinates G 1)))
      ∙ sym (each_after 7 (group_coordinates G))
