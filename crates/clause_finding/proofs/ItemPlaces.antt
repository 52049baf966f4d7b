-- The places of an item's clauses, from that of its first one.
--   number_at                    the number of a clause, from its group, item, block and number there
--   item_stands, item_listed     where clause y of block i of the item stands, and that it is in the list
--   item_within                  the item's clauses are in the list
--   item_blocks                  how many blocks it has
--   item_end                     the place of its last clause
-- Assumes nothing.
use Prim.Native.Nat.{ℕ, zero, suc, pred, ◌+◌, ◌-◌, ◌≤◌, ◌<◌}
use native.Mathlib.Nat.{not-suc-le-zero}
use native.Mathlib.Numerals.{add-one}
use native.Mathlib.Omega.{arith}
use mathlib.Core.Path.{◌≡◌, sym, ◌∙◌, ap, ap₂, subst}
use mathlib.Core.List.{List}
use Rattle.encoding.specs.Code.{Code}
use Rattle.lists.specs.Lists.{sum}
use Rattle.lists.proofs.Tables.{sum_mono, sum_place}
use Rattle.clause_walk.specs.Walk.{group_count, item_count, block_count, size, At}
use Rattle.clause_tables.specs.declared.Totals.{Totals}
use Rattle.clause_tables.specs.Tables.{Tabled}
use Rattle.clause_places.specs.declared.Coordinates.{Coordinates}
use Rattle.clause_places.specs.declared.Place.{Place}
use Rattle.clause_places.specs.Places.{coordinates, coordinates_at, place_at}
use Rattle.clause_places.proofs.Ahead.{Stands}
use Rattle.clause_places.proofs.Numbers.{count_is, stands_at, placed_at, place_in}
use Rattle.clause_counts.specs.Counts.{item_size, group_size}
use Rattle.clause_counts.proofs.Counted.{groups_all}
use Rattle.clause_finding.specs.Falls.{Falls}
use Rattle.clause_finding.proofs.Located.{located}

-- a term and those before it are part of the sum
sum_to : (n i : ℕ) (f : ℕ → ℕ) → 0 < i → i ≤ n → sum (pred i) f + f i ≤ sum n f
sum_to n zero f p h = absurd (not-suc-le-zero p)
sum_to n (suc i) f p h = sum_mono n f i h

-- after the first i terms and y more: part i + 1
falls_at : (n : ℕ) (f : ℕ → ℕ) (i y : ℕ) → i < n → y < f (suc i) → {x : ℕ} → x ≡ sum i f + y → Falls n f x (record { number = suc i; left = y })
falls_at n f i y h l e = record { at = record { some = omega arith; within = h; left_are = sym e }; inside = l }

-- after the terms before term i and y more: part i
falls_to : (n : ℕ) (f : ℕ → ℕ) (i y : ℕ) → 0 < i → i ≤ n → y < f i → Falls n f (sum (pred i) f + y) (record { number = i; left = y })
falls_to n f zero y p h l = absurd (not-suc-le-zero p)
falls_to n f (suc i) y p h l = record { at = record { some = p; within = h; left_are = omega arith }; inside = l }

-- how many clauses stand up to that of coordinates d
abbrev number_of : Code → Coordinates → ℕ
number_of G d =
    suc
    (sum (pred d.group) (group_size G)
    + (sum (pred d.item) (item_size G d.group) + (sum (pred d.block) (size G d.group d.item) + pred d.clause)))

module _ {G : Code} {t : Totals} {hs ss bs ks xs ys : List ℕ} (T : Tabled G t hs ss bs ks xs ys) {c : Place} (e : c ≡ place_at G c.number) (p : 0 < c.number) (h : c.number ≤ t.clauses) where
  abbrev g : ℕ
  g = c.coordinates.group

  abbrev a : ℕ
  a = c.coordinates.item

  -- from the parts that it falls into
  number_by : (k n i y : ℕ) {u v : ℕ} → k < group_count → u < group_size G (suc k) → c.number - 1 ≡ sum k (group_size G) + u
      → n < item_count G (suc k) → v < item_size G (suc k) (suc n) → u ≡ sum n (item_size G (suc k)) + v
      → i < block_count G (suc k) → y < size G (suc k) (suc n) (suc i) → v ≡ sum i (size G (suc k) (suc n)) + y → c.number ≡ number_of G c.coordinates
  number_by k n i y l₁ m₁ e₁ l₂ m₂ e₂ l₃ m₃ e₃ =
      whole c.number p (sum k (group_size G)) (sum n (item_size G (suc k))) (sum i (size G (suc k) (suc n))) y e₁ e₂ e₃
      ∙ sym
      (ap (number_of G)
      (ap (λ (d : Place). d.coordinates) e ∙ ap (coordinates_at G) (back c.number p)
      ∙ located G
      (falls_at group_count (group_size G) k _ l₁ m₁ e₁)
      (falls_at (item_count G (suc k)) (item_size G (suc k)) n _ l₂ m₂ e₂)
      (falls_at (block_count G (suc k)) (size G (suc k) (suc n)) i y l₃ m₃ e₃)))
    where
      back : (j : ℕ) → 0 < j → j ≡ suc (j - 1)
      back j p = omega (arith, p)

      whole : (j : ℕ) → 0 < j → (x y z m : ℕ) {k l : ℕ} → j - 1 ≡ x + k → k ≡ y + l → l ≡ z + m → j ≡ suc (x + (y + (z + pred (m + 1))))
      whole j p x y z m e f q =
          let r : j ≡ suc (x + (y + (z + m))) = omega (arith, p, e, f, q) in r ∙ ap (λ (n : ℕ). suc (x + (y + (z + pred n)))) (sym (add-one m))

  number_at : c.number ≡ number_of G c.coordinates
  number_at =
      let u = sum_place group_count (group_size G) (c.number - 1) (omega (arith, p, h, groups_all T)) in
      let v = sum_place (item_count G (suc u.0)) (item_size G (suc u.0)) u.1 u.3 in
      let q = sum_place (block_count G (suc u.0)) (size G (suc u.0) (suc v.0)) v.1 v.3 in
      number_by u.0 v.0 q.0 q.1 {u = u.1} {v = v.1} u.2 u.3 u.4 v.2 v.3 v.4 q.2 q.3 q.4

  -- where its block and its clause are the first of the item
  module _ (b : c.coordinates.block ≡ 1) (z : c.coordinates.clause ≡ 1) where
    first_number : c.number ≡ suc (sum (pred g) (group_size G) + sum (pred a) (item_size G g))
    first_number =
        number_at
        ∙ ap₂ (λ (i y : ℕ). suc (sum (pred g) (group_size G) + (sum (pred a) (item_size G g) + (sum (pred i) (size G g a) + pred y)))) b z
        ∙ omega arith

    A : At G g a c.coordinates.block c.coordinates.clause
    A = placed_at T e p h

    item_in : sum (pred a) (item_size G g) + item_size G g a ≤ group_size G g
    item_in = sum_to (item_count G g) a (item_size G g) A.block_at.item_some A.block_at.item_in

    pub item_within : c.number + item_size G g a ≤ suc t.clauses
    item_within =
        omega (
          arith,
          first_number,
          item_in,
          sum_to group_count g (group_size G) A.block_at.group_some A.block_at.group_in,
          groups_all T,
        )

    module _ (i y : ℕ) (l : i < block_count G g) (m : y < size G g a (suc i)) where
      inside : sum i (size G g a) + y < item_size G g a
      inside = omega (arith, sum_mono (block_count G g) (size G g a) i l, m)

      pub item_listed : c.number + (sum i (size G g a) + y) ≤ t.clauses
      item_listed = omega (arith, item_within, inside)

      pub item_stands : coordinates_at G (c.number + (sum i (size G g a) + y)) ≡ coordinates G g a (suc i) (y + 1)
      item_stands =
          ap (coordinates_at G) (after c.number (sum (pred g) (group_size G)) (sum (pred a) (item_size G g)) (sum i (size G g a) + y) first_number)
          ∙ located G
          (falls_to group_count (group_size G) g (sum (pred a) (item_size G g) + (sum i (size G g a) + y)) A.block_at.group_some A.block_at.group_in (omega (arith, inside, item_in)))
          (falls_to (item_count G g) (item_size G g) a (sum i (size G g a) + y) A.block_at.item_some A.block_at.item_in inside)
          (falls_to (block_count G g) (size G g a) (suc i) y (omega arith) l m)
        where
          after : (j x u v : ℕ) → j ≡ suc (x + u) → j + v ≡ suc (x + (u + v))
          after j x u v e = omega (arith, e)

    S : Stands G c.coordinates
    S = subst (Stands G) (sym (ap (λ (d : Place). d.coordinates) e)) (stands_at G c.number p (subst (λ (n : ℕ). c.number ≤ n) (sym (count_is T)) h))

    pub item_blocks : c.coordinates.blocks + 1 ≡ block_count G g
    item_blocks = omega (arith, ap (λ (d : Coordinates). d.blocks) S.is, b, A.block_at.block_in)

    -- the place of clause s of block n, the last ones of the item, which has k clauses
    pub item_end : {n s k : ℕ} → n ≡ block_count G g → s ≡ size G g a n → 0 < s → k ≡ item_size G g a
        → (record { number = c.number + (k - 1); coordinates = record { group = g; item = a; block = n; clause = s; clauses = 0; blocks = 0; items = c.coordinates.items } } ≡ place_at G (c.number + (k - 1)))
        × (c.number + (k - 1) ≤ t.clauses)
    item_end {n} {s} {k} q r o v = go n q s r o
      where
        go : (n : ℕ) → n ≡ block_count G g → (s : ℕ) → s ≡ size G g a n → 0 < s
            → (record { number = c.number + (k - 1); coordinates = record { group = g; item = a; block = n; clause = s; clauses = 0; blocks = 0; items = c.coordinates.items } } ≡ place_at G (c.number + (k - 1)))
            × (c.number + (k - 1) ≤ t.clauses)
        go zero q s r o = absurd (omega (arith, q, item_blocks))
        go (suc i) q zero r o = absurd (not-suc-le-zero o)
        go (suc i) q (suc y) r o = (λ j. record { number = c.number + (k - 1); coordinates = same j }, omega (arith, item_within, v, before))
          where
            before : k - 1 ≡ sum i (size G g a) + y
            before = omega (arith, v, r, ap (λ (n : ℕ). sum n (size G g a)) q)

            none : (m n : ℕ) → m ≡ n → 0 ≡ n - m
            none m n e = omega (arith, e)

            rest : c.coordinates.items ≡ item_count G g - a
            rest = omega (arith, (place_in T e h).items_are)

            same : record { group = g; item = a; block = suc i; clause = suc y; clauses = 0; blocks = 0; items = c.coordinates.items } ≡ coordinates_at G (c.number + (k - 1))
            same =
                (λ j. record {
                  group = g;
                  item = a;
                  block = suc i;
                  clause = sym (add-one y) j;
                  clauses = none (y + 1) (size G g a (suc i)) (add-one y ∙ r) j;
                  blocks = none (suc i) (block_count G g) q j;
                  items = rest j;
                })
                ∙ sym (item_stands i y (omega (arith, q)) (omega (arith, r)))
                ∙ ap (λ (m : ℕ). coordinates_at G (c.number + m)) (sym before)
