-- The steps of the search for the next clause.
-- Assumes nothing.
use Prim.Native.Nat.{ℕ, suc, ◌+◌, ◌-◌, ◌≤◌, ◌<◌}
use native.Mathlib.Nat.{not-suc-le-zero, pos_of_ne-zero, zero-add}
use native.Mathlib.Omega.{arith}
use native.Mathlib.Numerals.{add-one}
use mathlib.Core.Path.{◌≡◌, refl, sym, ◌∙◌, ap, ap₂, subst}
use mathlib.Core.Bool.{true, false, cond}
use mathlib.Core.Logic.{◌⊎◌, inl, inr}
use Rattle.encoding.specs.Code.{Code, pair_total}
use Rattle.lists.proofs.Bools.{not_So}
use mathlib.Core.List.{List, [], ◌++◌, append_assoc}
use lib.Dec.{ltb, eqb}
use lib.ListN.{length}
use borrow.Author.Tests.{lt-ltb, le-ltb, ltb-true, ltb-false}
use Rattle.lists.proofs.Tests.{le_or_lt}
use Rattle.clause_walk.specs.Walk.{item_count, block_count, size, BlockAt}
use Rattle.clause_walk.proofs.Groups.{items_by, blocks_by}
use Rattle.clause_tables.specs.declared.Totals.{Totals}
use Rattle.clause_tables.specs.Tables.{Tabled}
use Rattle.clause_table_laws.proofs.Elements.{rules_are, atoms_are, pairs_are, width_are}
use Rattle.clause_table_laws.proofs.Bounds.{items_fit, blocks_fit, size_fits}
use Rattle.clause_layout.specs.Numbers.{items_of, blocks_of}
use Rattle.clause_places.specs.declared.Coordinates.{Coordinates}
use Rattle.clause_places.specs.Places.{coordinates, block_coordinates, item_coordinates, group_coordinates, group_start, past, coordinates_at, place_at}
use Rattle.clause_places.specs.Ahead.{after, groups_ahead, items_ahead, blocks_ahead, clauses_ahead, ahead, first_of, In, is_over, Onward}
use Rattle.clause_places.proofs.Ahead.{each_after, tab_after}

-- ---- numbers

one_less : (k : ℕ) → 0 < k → suc (k - 1) ≡ k
one_less k h = omega (arith, h)

shifted : (i k : ℕ) → 0 < k → i + 1 + (k - 1) ≡ i + k
shifted i k h = omega (arith, h)

-- ---- what is ahead

module _ (G : Code) where
  pub into_block : (g a i y items k : ℕ) → clauses_ahead G g a (suc i) 0 items k (size G g a (suc i)) ≡ clauses_ahead G g a i y items (suc k) 0
  into_block g a i y items k =
      ap (λ (xs : List Coordinates). xs ++ blocks_ahead G g a (suc i) items k) (sym (tab_after (size G g a (suc i)) (coordinates G g a (suc i))))
      ∙ sym (append_assoc (block_coordinates G g a (suc i)) (after k (suc (suc i)) (block_coordinates G g a)) (items_ahead G g a items))

  into_item : (g a i y k : ℕ) → clauses_ahead G g (suc a) 0 0 k (block_count G g) 0 ≡ clauses_ahead G g a i y (suc k) 0 0
  into_item g a i y k =
      ap (λ (xs : List Coordinates). xs ++ items_ahead G g (suc a) k) (sym (each_after (block_count G g) (block_coordinates G g (suc a))))
      ∙ sym (append_assoc (item_coordinates G g (suc a)) (after k (suc (suc a)) (item_coordinates G g)) (groups_ahead G g))

  into_group : (g a i y : ℕ) → g < 7 → ahead G (group_start G (suc g)) ≡ clauses_ahead G g a i y 0 0 0
  into_group g a i y h =
      ap (λ (xs : List Coordinates). xs ++ groups_ahead G (suc g)) (sym (each_after (item_count G (suc g)) (item_coordinates G (suc g))))
      ∙ sym (ap (λ (k : ℕ). after k (suc g) (group_coordinates G)) (one_left g h))
    where
      one_left : (g : ℕ) → g < 7 → 7 - g ≡ suc (7 - suc g)
      one_left g h = omega (arith, h)

  none_ahead : (g a i y : ℕ) → 6 < g → clauses_ahead G g a i y 0 0 0 ≡ []
  none_ahead g a i y h = ap (λ (k : ℕ). after k (suc g) (group_coordinates G)) (none g h)
    where
      none : (g : ℕ) → 6 < g → 7 - g ≡ 0
      none g h = omega (arith, h)

-- ---- the test for the end

module _ (c : Coordinates) where
  pub over_block : 0 < c.blocks → false ≡ is_over c
  over_block h = rw (lt-ltb 0 c.blocks h)

  pub over_item : c.blocks ≤ 0 → 0 < c.items → false ≡ is_over c
  over_item h k = rw (le-ltb 0 c.blocks h, lt-ltb 0 c.items k)

  pub over_group : c.blocks ≤ 0 → c.items ≤ 0 → ltb 6 c.group ≡ is_over c
  over_group h k = rw (le-ltb 0 c.blocks h, le-ltb 0 c.items k)

  -- what holds at the end
  pub record Ended : Type 0 where
    pub no_block : c.blocks ≡ 0
    pub no_item : c.items ≡ 0
    pub no_group : 6 < c.group

  pub over_true : is_over c ≡ true → Ended
  over_true e = go (le_or_lt c.blocks 0) (le_or_lt c.items 0)
    where
      go : (c.blocks ≤ 0) ⊎ (0 < c.blocks) → (c.items ≤ 0) ⊎ (0 < c.items) → Ended
      go (inr h) q = absurd (not_So true (sym (over_block h ∙ e)) refl)
      go (inl h) (inr k) = absurd (not_So true (sym (over_item h k ∙ e)) refl)
      go (inl h) (inl k) = record { no_block = omega (arith, h); no_item = omega (arith, k); no_group = ltb-true 6 c.group (over_group h k ∙ e) }

  pub group_left : is_over c ≡ false → c.blocks ≤ 0 → c.items ≤ 0 → c.group < 7
  group_left e h k = omega (arith, ltb-false 6 c.group (over_group h k ∙ e))

-- ---- steps

module _ {G : Code} {t : Totals} {hs ss bs ks xs ys : List ℕ} (T : Tabled G t hs ss bs ks xs ys) where
  pub items_is : (g : ℕ) → items_of t g ≡ item_count G g
  items_is g =
      ap₂ (λ (m k : ℕ). cond (eqb g 1) m (cond (eqb g 5) k (cond (eqb g 6) m t.sizes.n))) (rules_are G t hs ss bs ks xs ys T) (pairs_are G t hs ss bs ks xs ys T)
      ∙ ap (λ (n : ℕ). cond (eqb g 1) (length G.rules) (cond (eqb g 5) (pair_total G) (cond (eqb g 6) (length G.rules) n))) (atoms_are G t hs ss bs ks xs ys T)
      ∙ sym (items_by G g)

  pub blocks_is : (g : ℕ) → blocks_of t.sizes g ≡ block_count G g
  blocks_is g =
      ap₂ (λ (m w : ℕ). cond (eqb g 2) (suc m) (cond (eqb g 4) w (cond (eqb g 5) (w + w) 1))) (rules_are G t hs ss bs ks xs ys T) (width_are G t hs ss bs ks xs ys T)
      ∙ sym (blocks_by G g)

  module _ {c : Coordinates} (I : In G c) where
    item_fits : c.item + c.items ≤ 500
    item_fits = subst (λ (k : ℕ). k ≤ 500) (sym I.items_are) (items_fit G T.limits c.group)

    -- a further block of the item
    module _ (z : c.clauses ≡ 0) (h : 0 < c.blocks) where
      some_block : 0 < c.blocks + c.clauses
      some_block = omega (arith, h)

      block_end : c.block + c.blocks ≡ block_count G c.group
      block_end = (I.blocks_are some_block).1

      block_fits : c.block + c.blocks ≤ 501
      block_fits = subst (λ (k : ℕ). k ≤ 501) (sym block_end) (blocks_fit G T.limits c.group)

      pub block_adds : c.block + 1 ≤ 501
      block_adds = omega (arith, block_fits, h)

      pub block_at : BlockAt G c.group c.item (c.block + 1)
      block_at =
          record {
            group_some = I.group_some;
            group_in = I.group_in;
            item_some = (I.blocks_are some_block).0;
            item_in = omega (arith, I.items_are);
            block_some = omega arith;
            block_in = omega (arith, block_end, h);
          }

      pub block_onward : {x : ℕ} → x ≡ size G c.group c.item (c.block + 1)
          → Onward G c (record { group = c.group; item = c.item; block = c.block + 1; clause = 0; clauses = x; blocks = c.blocks - 1; items = c.items })
      block_onward {x} e =
          record {
            same =
                ap (λ (k : ℕ). clauses_ahead G c.group c.item (c.block + 1) 0 c.items (c.blocks - 1) k) e
                ∙ ap (λ (i : ℕ). clauses_ahead G c.group c.item i 0 c.items (c.blocks - 1) (size G c.group c.item i)) (add-one c.block)
                ∙ into_block G c.group c.item c.block c.clause c.items (c.blocks - 1)
                ∙ ap₂ (λ (k d : ℕ). clauses_ahead G c.group c.item c.block c.clause c.items k d) (one_less c.blocks h) (sym z);
            within =
                record {
                  group_some = I.group_some;
                  group_in = I.group_in;
                  items_are = I.items_are;
                  blocks_are = λ q. ((I.blocks_are some_block).0, shifted c.block c.blocks h ∙ block_end);
                  clauses_are = λ q. (omega arith, zero-add x ∙ e);
                };
            nearer = omega (arith, h);
          }

    -- a further item of the group
    module _ (z : c.clauses ≡ 0) (n : c.blocks ≤ 0) (h : 0 < c.items) where
      pub item_adds : c.item + 1 ≤ 500
      item_adds = omega (arith, item_fits, h)

      pub item_onward : {x : ℕ} → x ≡ blocks_of t.sizes c.group
          → Onward G c (record { group = c.group; item = c.item + 1; block = 0; clause = 0; clauses = 0; blocks = x; items = c.items - 1 })
      item_onward {x} e =
          record {
            same =
                ap₂ (λ (k a : ℕ). clauses_ahead G c.group a 0 0 (c.items - 1) k 0) (e ∙ blocks_is c.group) (add-one c.item)
                ∙ into_item G c.group c.item c.block c.clause (c.items - 1)
                ∙ ap (λ (k : ℕ). clauses_ahead G c.group c.item c.block c.clause k 0 0) (one_less c.items h)
                ∙ ap₂ (λ (k d : ℕ). clauses_ahead G c.group c.item c.block c.clause c.items k d) (sym none) (sym z);
            within =
                record {
                  group_some = I.group_some;
                  group_in = I.group_in;
                  items_are = shifted c.item c.items h ∙ I.items_are;
                  blocks_are = λ q. (omega arith, zero-add x ∙ e ∙ blocks_is c.group);
                  clauses_are = λ q. absurd (not-suc-le-zero q);
                };
            nearer = omega (arith, h, subst (λ (k : ℕ). k ≤ 501) (sym (e ∙ blocks_is c.group)) (blocks_fit G T.limits c.group));
          }
        where
          none : c.blocks ≡ 0
          none = omega (arith, n)

    -- a further group
    module _ (z : c.clauses ≡ 0) (v : is_over c ≡ false) (n : c.blocks ≤ 0) (q : c.items ≤ 0) where
      left : c.group < 7
      left = group_left c v n q

      pub group_onward : {x : ℕ} {d : Coordinates} → x ≡ items_of t (c.group + 1)
          → d ≡ record { group = c.group + 1; item = 0; block = 0; clause = 0; clauses = 0; blocks = 0; items = x } → Onward G c d
      group_onward {x} {d} e u = subst (λ (d : Coordinates). Onward G c d) (sym (u ∙ ap₂ group_begun (add-one c.group) (e ∙ items_is (c.group + 1) ∙ ap (item_count G) (add-one c.group)))) onward
        where
          group_begun : ℕ → ℕ → Coordinates
          group_begun g k = record { group = g; item = 0; block = 0; clause = 0; clauses = 0; blocks = 0; items = k }

          no_blocks : c.blocks ≡ 0
          no_blocks = omega (arith, n)

          no_items : c.items ≡ 0
          no_items = omega (arith, q)

          onward : Onward G c (group_start G (suc c.group))
          onward =
              record {
                same =
                    into_group G c.group c.item c.block c.clause left
                    ∙ ap₂ (λ (k d : ℕ). clauses_ahead G c.group c.item c.block c.clause k 0 d) (sym no_items) (sym z)
                    ∙ ap (λ (k : ℕ). clauses_ahead G c.group c.item c.block c.clause c.items k c.clauses) (sym no_blocks);
                within =
                    record {
                      group_some = omega arith;
                      group_in = left;
                      items_are = zero-add (item_count G (suc c.group));
                      blocks_are = λ q. absurd (omega (arith, q));
                      clauses_are = λ q. absurd (not-suc-le-zero q);
                    };
                nearer = omega (arith, left, items_fit G T.limits (suc c.group));
              }

  -- ---- the end of the search

  pub nothing_follows : (c : Coordinates) → c.clauses ≡ 0 → is_over c ≡ true → past ≡ first_of (ahead G c)
  nothing_follows c z v =
      ap first_of
      (sym
      (ap₂ (λ (k d : ℕ). clauses_ahead G c.group c.item c.block c.clause k c.blocks d) E.no_item z
      ∙ ap (λ (k : ℕ). clauses_ahead G c.group c.item c.block c.clause 0 k 0) E.no_block
      ∙ none_ahead G c.group c.item c.block c.clause E.no_group))
    where
      E : Ended c
      E = over_true c v

  module _ (c : Coordinates) (I : In G c) (f : c.clauses ≡ 0 → ⊥) where
    some : 0 < c.clauses
    some = pos_of_ne-zero f

    more_clauses : 0 < c.blocks + c.clauses
    more_clauses = omega (arith, some)

    pub clause_adds : c.clause + 1 ≤ 503
    clause_adds =
        omega (
          arith,
          some,
          (I.clauses_are some).1,
          size_fits G T.limits c.group c.item c.block
              (record {
                group_some = I.group_some;
                group_in = I.group_in;
                item_some = (I.blocks_are more_clauses).0;
                item_in = omega (arith, I.items_are);
                block_some = (I.clauses_are some).0;
                block_in = omega (arith, (I.blocks_are more_clauses).1);
              }),
        )

    pub clause_follows : record { group = c.group; item = c.item; block = c.block; clause = c.clause + 1; clauses = c.clauses - 1; blocks = c.blocks; items = c.items } ≡ first_of (ahead G c)
    clause_follows =
        (λ i. record {
          group = c.group;
          item = c.item;
          block = c.block;
          clause = add-one c.clause i;
          clauses = less (size G c.group c.item c.block) c.clause c.clauses (I.clauses_are some).1 i;
          blocks = rest (block_count G c.group) c.block c.blocks (I.blocks_are more_clauses).1 i;
          items = rest (item_count G c.group) c.item c.items I.items_are i;
        })
        ∙ ap (λ (k : ℕ). first_of (clauses_ahead G c.group c.item c.block c.clause c.items c.blocks k)) (one_less c.clauses some)
      where
        less : (s y k : ℕ) → y + k ≡ s → k - 1 ≡ s - suc y
        less s y k e = omega (arith, e)

        rest : (s y k : ℕ) → y + k ≡ s → k ≡ s - y
        rest s y k e = omega (arith, e)

  -- ---- the place before the first clause

  pub started : {x : ℕ} {d : Coordinates} → x ≡ items_of t 1 → d ≡ record { group = 1; item = 0; block = 0; clause = 0; clauses = 0; blocks = 0; items = x }
      → record { number = 0; coordinates = d } ≡ place_at G 0
  unfolding coordinates_at
  started {x} {d} e u = ap (λ (c : Coordinates). record { number = 0; coordinates = c }) (u ∙ ap first_begun (e ∙ items_is 1))
    where
      first_begun : ℕ → Coordinates
      first_begun k = record { group = 1; item = 0; block = 0; clause = 0; clauses = 0; blocks = 0; items = k }
