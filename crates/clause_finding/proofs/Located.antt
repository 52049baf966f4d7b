-- The place of a clause from its group, item, block and number there.
--   located      where the clause after x others stands
--   found_at     there is such a clause
--   found_fits   its number in the block is small
--   first_place, placed    the place of line j
-- Assumes nothing.
use Prim.Native.Nat.{ℕ, suc, ◌+◌, ◌-◌, ◌<◌}
use native.Mathlib.Nat.{pos_of_ne-zero}
use native.Mathlib.Numerals.{add-one}
use native.Mathlib.Omega.{arith}
use mathlib.Core.Path.{◌≡◌, sym, ◌∙◌, ap}
use Rattle.encoding.specs.Code.{Code}
use Rattle.lists.proofs.Tables.{length_tab, get_or_tab}
use Rattle.clause_walk.specs.Walk.{item_count, block_count, size, At}
use Rattle.clause_tables.specs.Tables.{Limited}
use Rattle.clause_table_laws.proofs.Bounds.{size_fits}
use Rattle.clause_places.specs.declared.Coordinates.{Coordinates}
use Rattle.clause_places.specs.declared.Place.{Place}
use Rattle.clause_places.specs.Places.{coordinates, block_coordinates, item_coordinates, group_coordinates, all_coordinates, past, coordinates_at, place_at}
use Rattle.clause_finding.specs.declared.PartFound.{PartFound}
use Rattle.clause_finding.specs.Falls.{Falls}
use Rattle.clause_counts.specs.Counts.{item_size, group_size}
use Rattle.clause_finding.proofs.Falling.{each_falls}
use Rattle.clause_counts.proofs.Counted.{item_length, group_length}

module _ (G : Code) {x : ℕ} {g a i : PartFound} (F : Falls 7 (group_size G) x g) (A : Falls (item_count G g.number) (item_size G g.number) g.left a) (I : Falls (block_count G g.number) (size G g.number a.number) a.left i) where
  pub located : coordinates_at G (suc x) ≡ coordinates G g.number a.number i.number (i.left + 1)
  unfolding coordinates_at all_coordinates
  located =
      each_falls 7 (group_coordinates G) (group_size G) past x g (group_length G) F
      ∙ each_falls (item_count G g.number) (item_coordinates G g.number) (item_size G g.number) past g.left a (item_length G g.number) A
      ∙ each_falls (block_count G g.number) (block_coordinates G g.number a.number) (size G g.number a.number) past a.left i (λ k. length_tab (size G g.number a.number k) (coordinates G g.number a.number k)) I
      ∙ get_or_tab (size G g.number a.number i.number) (coordinates G g.number a.number i.number) past i.left I.inside
      ∙ ap (coordinates G g.number a.number i.number) (sym (add-one i.left))

  pub found_at : At G g.number a.number i.number (i.left + 1)
  found_at =
      record {
        block_at =
            record {
              group_some = F.at.some;
              group_in = F.at.within;
              item_some = A.at.some;
              item_in = A.at.within;
              block_some = I.at.some;
              block_in = I.at.within;
            };
        clause_some = omega arith;
        clause_in_lem = omega (arith, I.inside);
      }

  pub found_fits : Limited G → i.left < 503
  found_fits L = omega (arith, I.inside, size_fits G L g.number a.number i.number found_at.block_at)

-- ---- by line numbers

module _ (G : Code) (j : ℕ) where
  pub first_place : j ≡ 0 → {c : Place} → c ≡ place_at G 0 → c ≡ place_at G j
  first_place e q = q ∙ ap (place_at G) (sym e)

  pub placed : (j ≡ 0 → ⊥) → {g a i : PartFound} → Falls 7 (group_size G) (j - 1) g → Falls (item_count G g.number) (item_size G g.number) g.left a
      → Falls (block_count G g.number) (size G g.number a.number) a.left i
      → {s : Coordinates} → s ≡ coordinates G g.number a.number i.number (i.left + 1) → record { number = j; coordinates = s } ≡ place_at G j
  placed n F A I e =
      ap (λ (s : Coordinates). record { number = j; coordinates = s }) (e ∙ sym (located G F A I) ∙ ap (coordinates_at G) (whole j (pos_of_ne-zero n)))
    where
      whole : (j : ℕ) → 0 < j → suc (j - 1) ≡ j
      whole j h = omega (arith, h)
