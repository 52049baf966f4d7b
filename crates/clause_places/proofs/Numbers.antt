-- The clauses by their numbers.
--   all_coordinates_clauses   the clauses at the coordinates, in order, are the clause list
--   coordinates_count         there are as many coordinates as clauses, C
--   clauses_many, count_is    so many are C of the tables
--   stands_at                 clause j stands at its coordinates
--   clause_at_lem             and is clause j of the clause list
--   next_is                   what follows clause j is clause j + 1
--   place_some                a place with a clause has a number
--   placed_at, placed_clause, number_is, own_number    a place that code has
-- Assumes nothing.
use Prim.Native.Nat.{ℕ, zero, suc, pred, ◌+◌, ◌-◌, ◌≤◌, ◌<◌}
use native.Mathlib.Nat.{not-suc-le-zero, zero-add}
use native.Mathlib.Omega.{arith}
use native.Mathlib.Numerals.{add-one}
use mathlib.Core.Path.{◌≡◌, refl, sym, ◌∙◌, ap, ap₂, subst}
use mathlib.Core.Logic.{◌⊎◌, inl, inr}
use mathlib.Core.List.{List, [], ◌∷◌, ◌++◌, map, map-append}
use lib.ListN.{length, get_or, length-map}
use Rattle.lists.specs.Lists.{each}
use Rattle.lists.proofs.Tests.{le_or_lt}
use Rattle.lists.proofs.Tables.{each_ext, get_d_map, map_tab}
use Rattle.encoding.specs.Code.{Code, clauses_of, clause_total_of}
use Rattle.encoding.specs.Literal.{Clause}
use Rattle.clause_walk.specs.Walk.{item_count, block_count, size, block, group, walked, clause_at, At}
use Rattle.clause_walk.proofs.Walked.{walked_clauses}
use Rattle.clause_tables.specs.declared.Totals.{Totals}
use Rattle.clause_tables.specs.Tables.{Limited, Tabled}
use Rattle.clause_table_laws.proofs.Elements.{clauses_are}
use Rattle.clause_places.specs.declared.Coordinates.{Coordinates}
use Rattle.clause_places.specs.declared.Place.{Place}
use Rattle.clause_places.specs.Places.{coordinates, block_coordinates, item_coordinates, group_coordinates, all_coordinates, past, coordinates_at, place_at, clause_in}
use Rattle.clause_places.specs.Ahead.{ahead, first_of, In}
use Rattle.clause_places.proofs.Ahead.{Stands, Chained, link, all_coordinates_chained, ahead_first}

-- ---- lists

module _ {A B : Type 0} (f : A → B) where
  map_each : (n : ℕ) (g : ℕ → List A) → map f (each n g) ≡ each n (λ i. map f (g i))
  map_each zero g = refl
  map_each (suc n) g = map-append f (each n g) (g (suc n)) ∙ ap (λ (xs : List B). xs ++ map f (g (suc n))) (map_each n g)

module _ (G : Code) where
  all_coordinates_walked : map (clause_in G) (all_coordinates G) ≡ walked G
  unfolding all_coordinates walked
  all_coordinates_walked =
      map_each (clause_in G) 7 (group_coordinates G)
      ∙ each_ext 7 (λ g. map (clause_in G) (group_coordinates G g)) (group G)
      (λ g h. map_each (clause_in G) (item_count G (suc g)) (item_coordinates G (suc g))
      ∙ each_ext (item_count G (suc g)) (λ a. map (clause_in G) (item_coordinates G (suc g) a)) (λ a. each (block_count G (suc g)) (block G (suc g) a))
      (λ a h. map_each (clause_in G) (block_count G (suc g)) (block_coordinates G (suc g) (suc a))
      ∙ each_ext (block_count G (suc g)) (λ i. map (clause_in G) (block_coordinates G (suc g) (suc a) i)) (block G (suc g) (suc a))
      (λ i h. map_tab (clause_in G) (size G (suc g) (suc a) (suc i)) (coordinates G (suc g) (suc a) (suc i)))))

  pub all_coordinates_clauses : Limited G → map (clause_in G) (all_coordinates G) ≡ clauses_of G
  all_coordinates_clauses L = all_coordinates_walked ∙ walked_clauses G L.some_bit L.none_open

  pub coordinates_count : Limited G → length (all_coordinates G) ≡ clause_total_of G
  coordinates_count L = sym (length-map (all_coordinates G) (clause_in G)) ∙ ap length (all_coordinates_clauses L)

  pub clause_at_lem : Limited G → (j : ℕ) → 0 < j → j ≤ length (all_coordinates G) → clause_in G (coordinates_at G j) ≡ get_or (clauses_of G) (pred j) []
  unfolding coordinates_at
  clause_at_lem L zero h k = absurd (not-suc-le-zero h)
  clause_at_lem L (suc j) h k =
      sym (get_d_map (clause_in G) (all_coordinates G) past [] j k) ∙ ap (λ (cs : List Clause). get_or cs j []) (all_coordinates_clauses L)

  -- ---- along the chain

  chained_stands : (cs : List Coordinates) → Chained G cs → (j : ℕ) → j < length cs → Stands G (get_or cs j past)
  chained_stands [] ch j h = absurd (not-suc-le-zero h)
  chained_stands (c ∷ cs) (link s e ch) zero h = s
  chained_stands (c ∷ cs) (link s e ch) (suc j) h = chained_stands cs ch j (omega (arith, h))

  chained_next : (cs : List Coordinates) → Chained G cs → (j : ℕ) → j < length cs → get_or cs (suc j) past ≡ first_of (ahead G (get_or cs j past))
  chained_next [] ch j h = absurd (not-suc-le-zero h)
  chained_next (c ∷ cs) (link s e ch) zero h = ap first_of (sym e)
  chained_next (c ∷ cs) (link s e ch) (suc j) h = chained_next cs ch j (omega (arith, h))

  pub stands_at : (j : ℕ) → 0 < j → j ≤ length (all_coordinates G) → Stands G (coordinates_at G j)
  unfolding coordinates_at
  stands_at zero h k = absurd (not-suc-le-zero h)
  stands_at (suc j) h k = chained_stands (all_coordinates G) (all_coordinates_chained G) j k

  pub next_is : (j : ℕ) → j ≤ length (all_coordinates G) → coordinates_at G (suc j) ≡ first_of (ahead G (coordinates_at G j))
  unfolding coordinates_at
  next_is zero k = ap first_of (sym (ahead_first G))
  next_is (suc j) k = chained_next (all_coordinates G) (all_coordinates_chained G) j k

  stands_in : (c : Coordinates) → Stands G c → In G c
  stands_in c s =
      record {
        group_some = s.at.block_at.group_some;
        group_in = s.at.block_at.group_in;
        items_are = ap (λ (d : Coordinates). c.item + d.items) s.is ∙ rest (item_count G c.group) c.item s.at.block_at.item_in;
        blocks_are = λ q. (s.at.block_at.item_some, ap (λ (d : Coordinates). c.block + d.blocks) s.is ∙ rest (block_count G c.group) c.block s.at.block_at.block_in);
        clauses_are = λ q. (s.at.block_at.block_some, ap (λ (d : Coordinates). c.clause + d.clauses) s.is ∙ rest (size G c.group c.item c.block) c.clause s.at.clause_in_lem);
      }
    where
      rest : (s y : ℕ) → y ≤ s → y + (s - y) ≡ s
      rest s y h = omega (arith, h)

  pub in_at : (j : ℕ) → j ≤ length (all_coordinates G) → In G (coordinates_at G j)
  unfolding coordinates_at
  in_at zero k =
      record {
        group_some = omega arith;
        group_in = omega arith;
        items_are = zero-add (item_count G 1);
        blocks_are = λ q. absurd (omega (arith, q));
        clauses_are = λ q. absurd (not-suc-le-zero q);
      }
  in_at (suc j) k = stands_in (get_or (all_coordinates G) j past) (chained_stands (all_coordinates G) (all_coordinates_chained G) j k)

-- ---- the next place, from the tables

module _ {G : Code} {t : Totals} {hs ss bs ks xs ys : List ℕ} (T : Tabled G t hs ss bs ks xs ys) where
  pub clauses_many : clause_total_of G ≡ t.clauses
  clauses_many = sym (clauses_are G t hs ss bs ks xs ys T)

  pub count_is : length (all_coordinates G) ≡ t.clauses
  count_is = coordinates_count G T.limits ∙ clauses_many

  module _ {c : Place} (e : c ≡ place_at G c.number) (h : c.number ≤ t.clauses) where
    listed : c.number ≤ length (all_coordinates G)
    listed = subst (λ (x : ℕ). c.number ≤ x) (sym count_is) h

    pub place_in : In G c.coordinates
    place_in = subst (In G) (sym (ap (λ (d : Place). d.coordinates) e)) (in_at G c.number listed)

    -- a place with a clause has a number
    pub place_some : 0 < c.coordinates.clause → 0 < c.number
    unfolding coordinates_at
    place_some p = go (le_or_lt c.number 0)
      where
        go : (c.number ≤ 0) ⊎ (0 < c.number) → 0 < c.number
        go (inr q) = q
        go (inl q) = absurd (omega (arith, p, ap (λ (d : Place). d.coordinates.clause) (e ∙ ap (place_at G) zero_is)))
          where
            zero_is : c.number ≡ 0
            zero_is = omega (arith, q)

    pub follows : {d : Coordinates} → d ≡ first_of (ahead G c.coordinates) → record { number = c.number + 1; coordinates = d } ≡ place_at G (suc c.number)
    follows {d} u =
        ap₂ (λ (n : ℕ) (x : Coordinates). record { number = n; coordinates = x }) (add-one c.number)
        (u ∙ ap (λ (x : Place). first_of (ahead G x.coordinates)) e ∙ sym (next_is G c.number listed))

  -- ---- places by their numbers

  module _ {n : ℕ} {c : Place} (e : c ≡ place_at G n) where
    pub number_is : c.number ≡ n
    number_is = ap (λ (d : Place). d.number) e

    pub own_number : c ≡ place_at G c.number
    own_number = e ∙ ap (place_at G) (sym number_is)

  -- at the place of clause n stands clause n
  module _ {c : Place} (e : c ≡ place_at G c.number) (p : 0 < c.number) (h : c.number ≤ t.clauses) where
    coordinates_is : c.coordinates ≡ coordinates_at G c.number
    coordinates_is = ap (λ (d : Place). d.coordinates) e

    in_list : c.number ≤ length (all_coordinates G)
    in_list = subst (λ (k : ℕ). c.number ≤ k) (sym count_is) h

    pub placed_at : At G c.coordinates.group c.coordinates.item c.coordinates.block c.coordinates.clause
    placed_at = subst (λ (d : Coordinates). At G d.group d.item d.block d.clause) (sym coordinates_is) (stands_at G c.number p in_list).at

    pub placed_clause : clause_at G c.coordinates.group c.coordinates.item c.coordinates.block c.coordinates.clause ≡ get_or (clauses_of G) (pred c.number) []
    placed_clause = ap (clause_in G) coordinates_is ∙ clause_at_lem G T.limits c.number p in_list
