-- The lines of a whole item of group 4 or 5.
--   block_in          block i + 1 of the item
--   item_size_lem     how many lines there are
--   size_some         each of its blocks has clauses
--   item_short        they have at most 3,008 bytes
-- Assumes nothing.
use Prim.Native.Nat.{ℕ, zero, suc, ◌+◌, ◌*◌, ◌≤◌, ◌<◌}
use native.Mathlib.Omega.{arith}
use mathlib.Core.Path.{◌≡◌, refl, sym, ◌∙◌, ap, subst}
use mathlib.Core.Bool.{Bool, true, false, cond}
use mathlib.Core.Logic.{◌⊎◌, inl, inr}
use mathlib.Core.List.{List, [], ◌∷◌, ◌++◌}
use lib.Dec.{eqb, ltb}
use lib.ListN.{length, length-append}
use Rattle.encoding.specs.Code.{Code}
use Rattle.encoding.specs.Literal.{Literal, literal_number}
use Rattle.encoding.proofs.Literals.{number_size}
use Rattle.lists.specs.Lists.{each, sum}
use Rattle.lists.proofs.Tables.{sum_const}
use Rattle.digits.specs.Bytes.{literal_text, literals_text, line_text}
use Rattle.digits.proofs.Lengths.{literal_fits, literals_append_length, line_length}
use Rattle.clause_walk.specs.Walk.{group_count, item_count, block_count, size, slots, slot, clause_at, bit_of, chain_bit, BlockAt, At}
use Rattle.clause_tables.specs.declared.Totals.{Totals}
use Rattle.clause_tables.specs.Tables.{Tabled}
use Rattle.clause_table_laws.proofs.Elements as elements
use Rattle.clause_table_laws.proofs.Bounds.{Slotted, empty, holds, literal_in_lem}
use Rattle.clause_layout.specs.Numbers.{blocks_of}
use Rattle.clause_layout.proofs.Groups.{bits4, size_next, size_pair, slots_next, slots_pair}
use Rattle.clause_places.proofs.Steps.{blocks_is}
use Rattle.clause_counts.specs.Counts.{item_size, is_fixed, fixed_size}
use Rattle.clause_counts.proofs.Counted.{fixed_item}
use Rattle.clause_counts.proofs.Sized.{sizes_in, next_fits, size_fits}
use Rattle.clause_text.specs.Blocks.{is_blockwise, block_text}
use Rattle.clause_text.proofs.BlockLaws.{blockwise_is}
use Rattle.clause_runs.specs.Items.{item_text}

-- ---- lengths

-- row i has at most m bytes for each of its f i parts
rows_short : (F : ℕ → List ℕ) (f : ℕ → ℕ) (m k : ℕ) → ((i : ℕ) → i < k → length (F (suc i)) ≤ f (suc i) * m) → length (each k F) ≤ sum k f * m
rows_short F f m zero h = omega arith
rows_short F f m (suc k) h =
    omega (arith, length-append (each k F) (F (suc k)), rows_short F f m k (λ i l. h i (omega (arith, l))), h k (omega arith))

slot_bytes : (ls : List Literal) → Slotted ls → length (literals_text ls) ≤ 6
slot_bytes ls (empty q) = subst (λ (zs : List Literal). length (literals_text zs) ≤ 6) (sym q) (omega arith)
slot_bytes ls (holds x q p h) =
    subst (λ (zs : List Literal). length (literals_text zs) ≤ 6) (sym q)
    (omega (
      arith,
      literals_append_length (x ∷ []) [],
      length-append (literal_text (literal_number x) ++ (32 ∷ [])) [],
      length-append (literal_text (literal_number x)) (32 ∷ []),
      literal_fits 3 (literal_number x) (omega (arith, number_size x, h)),
    ))

module _ {G : Code} {t : Totals} {hs ss bs ks xs ys : List ℕ} (T : Tabled G t hs ss bs ks xs ys) where
  abbrev w : ℕ
  w = t.sizes.w

  -- the first l slots of a clause
  slots_bytes : {g a i y : ℕ} → At G g a i y → (l : ℕ) → l ≤ slots G g a i y → length (literals_text (each l (slot G g a i y))) ≤ l * 6
  slots_bytes A zero h = omega arith
  slots_bytes {g} {a} {i} {y} A (suc l) h =
      omega (
        arith,
        literals_append_length (each l (slot G g a i y)) (slot G g a i y (suc l)),
        slots_bytes A l (omega (arith, h)),
        slot_bytes (slot G g a i y (suc l)) (literal_in_lem G T.limits g a i y (suc l) A (omega arith) h),
      )

  line_bytes_lem : {g a i y : ℕ} → At G g a i y → (k : ℕ) → slots G g a i y ≤ k → length (line_text (clause_at G g a i y)) ≤ k * 6 + 2
  line_bytes_lem {g} {a} {i} {y} A k h =
      omega (arith, line_length (clause_at G g a i y), slots_bytes A (slots G g a i y) (omega arith), h)

  next_slots : {g a i y : ℕ} → At G g a i y → g ≡ 4 → slots G g a i y ≤ 8
  next_slots {g} {a} {i} {y} A e = subst (λ (n : ℕ). n ≤ 8) (slots_next T A e refl) (go (ltb (bit_of y) i) (bits4 T A.block_at e))
    where
      go : (d : Bool) → i ≤ 7 → cond d 3 (suc i) ≤ 8
      go true h = omega arith
      go false h = omega (arith, h)

  pair_slots : {g a i y : ℕ} → At G g a i y → g ≡ 5 → slots G g a i y ≤ 3
  pair_slots {g} {a} {i} {y} A e = subst (λ (n : ℕ). n ≤ 3) (slots_pair T A e refl refl) (go (eqb (chain_bit w i) 1) (eqb y 3))
    where
      go : (d f : Bool) → cond d (cond f 3 2) 3 ≤ 3
      go true true = omega arith
      go true false = omega arith
      go false f = omega arith

  module _ {g a : ℕ} (p : 0 < g) (h : g ≤ group_count) (q : 0 < a) (l : a ≤ item_count G g) where
    pub block_in : {n i : ℕ} → n ≡ blocks_of t.sizes g → i < n → BlockAt G g a (i + 1)
    block_in {n} {i} e m =
        record {
          group_some = p;
          group_in = h;
          item_some = q;
          item_in = l;
          block_some = omega arith;
          block_in = omega (arith, m, e ∙ blocks_is T g);
        }

    at : (i y : ℕ) → i < block_count G g → y < size G g a (suc i) → At G g a (suc i) (suc y)
    at i y m o =
        record {
          block_at = record { group_some = p; group_in = h; item_some = q; item_in = l; block_some = omega arith; block_in = m };
          clause_some = omega arith;
          clause_in_lem = o;
        }

    -- of lines of at most m bytes
    item_bytes : (m : ℕ) → ((i y : ℕ) → At G g a i y → length (line_text (clause_at G g a i y)) ≤ m) → length (item_text G g a) ≤ item_size G g a * m
    item_bytes m f =
        rows_short (block_text G g a) (size G g a) m (block_count G g)
        (λ i o. subst (λ (k : ℕ). length (block_text G g a (suc i)) ≤ k * m) (sum_const (size G g a (suc i)) 1 ∙ omega arith)
        (rows_short (λ y. line_text (clause_at G g a (suc i) y)) (λ y. 1) m (size G g a (suc i)) (λ y u. omega (arith, f (suc i) (suc y) (at i y o u)))))

    module _ (b : is_blockwise g ≡ true) where
      fixed : (g ≡ 4) ⊎ (g ≡ 5) → is_fixed g ≡ true
      fixed (inl e) = ap is_fixed e
      fixed (inr e) = ap is_fixed e

      pub item_size_lem : {v k : ℕ} → v ≡ w → k ≡ fixed_size v g → k ≡ item_size G g a
      item_size_lem u r =
          r ∙ ap (λ (n : ℕ). fixed_size n g) (u ∙ elements.width_are G t hs ss bs ks xs ys T)
          ∙ sym (fixed_item G T.limits.some_bit g p h (fixed (blockwise_is g b)) a)

      bits : w ≤ 7
      bits = (sizes_in T).bits

      pub item_short : length (item_text G g a) ≤ 3008
      item_short = go (blockwise_is g b)
        where
          is : fixed_size w g ≡ item_size G g a
          is = item_size_lem refl refl

          go : (g ≡ 4) ⊎ (g ≡ 5) → length (item_text G g a) ≤ 3008
          go (inl e) =
              omega (
                arith,
                item_bytes 50 (λ i y A. line_bytes_lem A 8 (next_slots A e)),
                is,
                ap (fixed_size w) e,
                next_fits g w bits,
              )
          go (inr e) =
              omega (
                arith,
                item_bytes 20 (λ i y A. line_bytes_lem A 3 (pair_slots A e)),
                is,
                (size_fits g w (elements.width_pos G t hs ss bs ks xs ys T) bits).1,
              )

  pub size_some : {g a i : ℕ} → BlockAt G g a i → is_blockwise g ≡ true → 0 < size G g a i
  size_some {g} {a} {i} R b = go (blockwise_is g b)
    where
      chain : (d : Bool) → 0 < cond d 3 6
      chain true = omega arith
      chain false = omega arith

      go : (g ≡ 4) ⊎ (g ≡ 5) → 0 < size G g a i
      go (inl e) = omega (arith, size_next T R e, R.block_some)
      go (inr e) = subst (λ (n : ℕ). 0 < n) (size_pair T R e refl refl) (chain (eqb (chain_bit w i) 1))
