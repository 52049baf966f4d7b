-- What follows a place in the walk, and the search for the next clause.
--   after d k f        f k, f (k + 1), .., d of them, in one list
--   ahead G c        the coordinates that follow c
--   first_of cs         the first of them, past all groups if there is none
--   In G c           c stands within its group, item and block, as far as they are begun
--   is_over c           no block, item or group follows
--   head_block m hs c  group 2: the next block of c's item that holds a clause, from m and the heads
--   steps_left c       a bound of the steps that are left
--   Onward G c d     d is nearer to the next clause, with the same coordinates ahead
-- Assumes nothing.
use Rattle.std.specs.Prelude.{ℕ, zero, suc, ◌+◌, ◌-◌, ◌*◌, ◌≤◌, ◌<◌, ◌≡◌, Bool, false, cond, List, [], ◌∷◌, ◌++◌, ltb, get_or, take}
use Rattle.encoding.specs.Code.{Code}
use Rattle.clause_walk.specs.Walk.{item_count, block_count, size, group_count}
use Rattle.clause_heads.specs.NextHead.{next_head}
use Rattle.clause_places.specs.declared.Coordinates.{Coordinates}
use Rattle.clause_places.specs.Places.{coordinates, block_coordinates, item_coordinates, group_coordinates, past}

abbrev pub after : {A : Type 0} → ℕ → ℕ → (ℕ → List A) → List A
after zero k f = []
after (suc d) k f = f k ++ after d (suc k) f

module _ (G : Code) where
  -- the groups after g; with the items after a before them; with the blocks after i; with the clauses after y
  abbrev pub groups_ahead : ℕ → List Coordinates
  groups_ahead g = after (group_count - g) (suc g) (group_coordinates G)

  abbrev pub items_ahead : ℕ → ℕ → ℕ → List Coordinates
  items_ahead g a items = after items (suc a) (item_coordinates G g) ++ groups_ahead g

  abbrev pub blocks_ahead : ℕ → ℕ → ℕ → ℕ → ℕ → List Coordinates
  blocks_ahead g a i items blocks = after blocks (suc i) (block_coordinates G g a) ++ items_ahead g a items

  abbrev pub clauses_ahead : ℕ → ℕ → ℕ → ℕ → ℕ → ℕ → ℕ → List Coordinates
  clauses_ahead g a i y items blocks clauses = after clauses (suc y) (λ x. coordinates G g a i x ∷ []) ++ blocks_ahead g a i items blocks

  abbrev pub ahead : Coordinates → List Coordinates
  ahead c = clauses_ahead c.group c.item c.block c.clause c.items c.blocks c.clauses

  pub record In (c : Coordinates) : Type 0 where
    pub group_some : 0 < c.group
    pub group_in : c.group ≤ group_count
    pub items_are : c.item + c.items ≡ item_count G c.group
    pub blocks_are : 0 < c.blocks + c.clauses → (0 < c.item) × (c.block + c.blocks ≡ block_count G c.group)
    pub clauses_are : 0 < c.clauses → (0 < c.block) × (c.clause + c.clauses ≡ size G c.group c.item c.block)

abbrev pub first_of : List Coordinates → Coordinates
first_of cs = get_or cs 0 past

abbrev pub is_over : Coordinates → Bool
is_over c = cond (ltb 0 c.blocks) false (cond (ltb 0 c.items) false (ltb (group_count - 1) c.group))

abbrev pub head_block : ℕ → List ℕ → Coordinates → Coordinates
head_block m hs c =
    let j = next_head (take m hs) c.item c.block in
    record { group = c.group; item = c.item; block = j + 1; clause = 0; clauses = 1; blocks = m - j; items = c.items }

abbrev pub steps_left : Coordinates → ℕ
steps_left c = (group_count - c.group) * 400000 + c.items * 600 + c.blocks

pub record Onward (G : Code) (c d : Coordinates) : Type 0 where
  pub same : ahead G d ≡ ahead G c
  pub within : In G d
  pub nearer : steps_left d < steps_left c
