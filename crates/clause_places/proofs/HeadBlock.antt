-- Group 2: the next block of an atom that holds a clause.
--   head_block_is       it is as code has it
--   block_in            the block is not past the last rule
--   head_block_onward   the block is a step to the next clause: the blocks before it are empty
-- Assumes nothing.
use Prim.Native.Nat.{ℕ, suc, ◌+◌, ◌-◌, ◌≤◌, ◌<◌}
use native.Mathlib.Numerals.{add-one}
use native.Mathlib.Omega.{arith}
use mathlib.Core.Path.{◌≡◌, refl, sym, ◌∙◌, ap, subst}
use mathlib.Core.Logic.{◌⊎◌, inl, inr}
use mathlib.Core.List.{List, [], ◌++◌}
use lib.ListN.{get_or, take}
use lib.Seq.{get_or-take, length-take-le}
use Rattle.encoding.specs.Code.{Code}
use Rattle.lists.specs.Lists.{tab}
use Rattle.lists.proofs.Tests.{le_or_lt}
use Rattle.clause_walk.specs.Walk.{block_count, size, BlockAt}
use Rattle.clause_tables.specs.declared.Totals.{Totals}
use Rattle.clause_tables.specs.Tables.{Tabled}
use Rattle.clause_layout.specs.Numbers.{blocks_of, implied_size}
use Rattle.clause_heads.specs.NextHead.{next_head}
use Rattle.clause_layout.proofs.Parts.{implied_past, implied_own, implied_other}
use Rattle.clause_heads.proofs.NextHeads.{next_from, next_in, next_at_lem, next_between}
use Rattle.clause_layout.proofs.Groups.{heads_in_lem, size_implied}
use Rattle.clause_places.specs.declared.Coordinates.{Coordinates}
use Rattle.clause_places.specs.Places.{coordinates, block_coordinates}
use Rattle.clause_places.specs.Ahead.{after, items_ahead, clauses_ahead, In, head_block, Onward}
use Rattle.clause_places.proofs.Ahead.{after_past}
use Rattle.clause_places.proofs.Steps.{into_block, blocks_is, block_at}

pub head_block_is : (m : ℕ) (hs : List ℕ) (c : Coordinates) {j : ℕ} → j ≡ next_head (take m hs) c.item c.block
    → record { group = c.group; item = c.item; block = j + 1; clause = 0; clauses = 1; blocks = m - j; items = c.items } ≡ head_block m hs c
head_block_is m hs c e =
    λ i. record { group = c.group; item = c.item; block = e i + 1; clause = 0; clauses = 1; blocks = m - e i; items = c.items }

module _ {G : Code} {t : Totals} {hs ss bs ks xs ys : List ℕ} (T : Tabled G t hs ss bs ks xs ys) {c : Coordinates} (I : In G c) (z : c.clauses ≡ 0) (h : 0 < c.blocks) (g2 : c.group ≡ 2) where
  abbrev m : ℕ
  m = t.sizes.m

  -- the next block is j + 1
  abbrev j : ℕ
  j = next_head (take m hs) c.item c.block

  R : BlockAt G c.group c.item (c.block + 1)
  R = block_at T I z h

  blocks_all : block_count G c.group ≡ suc m
  blocks_all = sym (blocks_is T c.group) ∙ ap (blocks_of t.sizes) g2

  blocks_end : c.block + c.blocks ≡ suc m
  blocks_end = (I.blocks_are (omega (arith, h))).1 ∙ blocks_all

  pub block_in : c.block ≤ m
  block_in = omega (arith, blocks_end, h)

  from : c.block ≤ j
  from = next_from (take m hs) c.item c.block

  within_rules : j ≤ m
  within_rules = next_in hs m c.item c.block (heads_in_lem T R) block_in

  -- how many clauses a block has
  size_is : (q : ℕ) → 0 < q → q ≤ suc m → {x : ℕ} → x ≡ implied_size m hs c.item q → x ≡ size G c.group c.item q
  size_is q p n = size_implied T at g2
    where
      at : BlockAt G c.group c.item q
      at =
          record {
            group_some = R.group_some;
            group_in = R.group_in;
            item_some = R.item_some;
            item_in = R.item_in;
            block_some = p;
            block_in = subst (λ (k : ℕ). q ≤ k) (sym blocks_all) n;
          }

  between : (q : ℕ) → c.block < q → q ≤ j → 0 ≡ size G c.group c.item q
  between q n k = size_is q (omega (arith, n)) (omega (arith, k, within_rules)) (implied_other m q c.item hs (omega (arith, k, within_rules)) refl other)
    where
      other : get_or hs (q - 1) 0 ≡ c.item → ⊥
      other e =
          next_between (take m hs) c.item c.block (q - 1) (omega (arith, n)) (omega (arith, n, k))
          (get_or-take m hs (q - 1) 0 (omega (arith, n, k, within_rules)) ∙ e)

  there : 1 ≡ size G c.group c.item (j + 1)
  there = size_is (j + 1) (omega arith) (omega (arith, within_rules)) (go (le_or_lt m j))
    where
      less : (j : ℕ) → j + 1 - 1 ≡ j
      less j = omega arith

      go : (m ≤ j) ⊎ (j < m) → 1 ≡ implied_size m hs c.item (j + 1)
      go (inl k) = implied_past m (j + 1) c.item hs (omega (arith, k))
      go (inr k) =
          implied_own m (j + 1) c.item hs (omega (arith, k)) refl
          (ap (λ (q : ℕ). get_or hs q 0) (less j) ∙ sym (get_or-take m hs j 0 k)
          ∙ next_at_lem (take m hs) c.item c.block (subst (λ (n : ℕ). j < n) (sym (length-take-le m hs (heads_in_lem T R))) k))

  -- the blocks that are passed are empty
  blocks_past : after (suc (m - j)) (suc j) (block_coordinates G c.group c.item) ≡ after c.blocks (suc c.block) (block_coordinates G c.group c.item)
  blocks_past =
      ap (λ (k : ℕ). after (suc (m - j)) k (block_coordinates G c.group c.item)) (back j c.block from)
      ∙ sym (after_past (j - c.block) (suc (m - j)) (suc c.block) (block_coordinates G c.group c.item) empty)
      ∙ ap (λ (n : ℕ). after n (suc c.block) (block_coordinates G c.group c.item)) (rest m j c.block c.blocks from within_rules blocks_end)
    where
      back : (j i : ℕ) → i ≤ j → suc j ≡ (j - i) + suc i
      back j i h = omega (arith, h)

      rest : (m j i k : ℕ) → i ≤ j → j ≤ m → i + k ≡ suc m → (j - i) + suc (m - j) ≡ k
      rest m j i k h n e = omega (arith, h, n, e)

      empty : (q : ℕ) → suc c.block ≤ q → q < (j - c.block) + suc c.block → block_coordinates G c.group c.item q ≡ []
      empty q n k = ap (λ (x : ℕ). tab x (coordinates G c.group c.item q)) (sym (between q n (omega (arith, k, from))))

  pub head_block_onward : {d : Coordinates} → d ≡ head_block m hs c → Onward G c d
  head_block_onward u = subst (Onward G c) (sym u) onward
    where
      ends : (m j : ℕ) → j ≤ m → j + 1 + (m - j) ≡ suc m
      ends m j h = omega (arith, h)

      onward : Onward G c (head_block m hs c)
      onward =
          record {
            same =
                ap (λ (k : ℕ). clauses_ahead G c.group c.item (j + 1) 0 c.items (m - j) k) there
                ∙ ap (λ (i : ℕ). clauses_ahead G c.group c.item i 0 c.items (m - j) (size G c.group c.item i)) (add-one j)
                ∙ into_block G c.group c.item j c.clause c.items (m - j)
                ∙ ap (λ (blocks : List Coordinates). blocks ++ items_ahead G c.group c.item c.items) blocks_past
                ∙ ap (λ (k : ℕ). clauses_ahead G c.group c.item c.block c.clause c.items c.blocks k) (sym z);
            within =
                record {
                  group_some = I.group_some;
                  group_in = I.group_in;
                  items_are = I.items_are;
                  blocks_are = λ q. (R.item_some, ends m j within_rules ∙ sym blocks_all);
                  clauses_are = λ q. (omega arith, there);
                };
            nearer = omega (arith, blocks_end, from, within_rules, h);
          }
