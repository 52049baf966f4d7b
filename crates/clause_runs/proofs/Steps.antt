-- One line, and the lines of a whole item, written at the front of a buffer.
--   one_taken               one line
--   item_asks               what is asked at the first clause of an item
--   item_many, item_some    how many clauses the item has
--   end_block, end_asks     its last block, and the place of its last clause; end_adds, end_fits: bounds of these
--   item_past               the place after it
--   item_taken              the lines of an item
-- Assumes nothing.
use Prim.Native.Nat.{ℕ, zero, suc, pred, ◌+◌, ◌-◌, ◌≤◌, ◌<◌}
use native.Mathlib.Nat.{le_trans}
use native.Mathlib.Omega.{arith}
use native.Mathlib.Numerals.{add-one}
use mathlib.Core.Path.{◌≡◌, refl, sym, ◌∙◌, ap, ap₂, subst}
use mathlib.Core.Bool.{true}
use mathlib.Core.List.{List, [], ◌++◌, append-nil}
use lib.ListN.{length, get_or, take, drop, length-drop}
use lib.Seq.{drop-cons, drop-drop, get_or-drop}
use Rattle.encoding.specs.Code.{Code}
use Rattle.lists.specs.Lists.{each, joined, sum}
use Rattle.lists.proofs.Tables.{each_ext, sum_mono}
use Rattle.digits.specs.Bytes.{line_text, Room, Wrote}
use Rattle.digits.proofs.Wrote.{wrote_as}
use Rattle.clause_walk.specs.Walk.{group_count, item_count, block_count, size, clause_at, BlockAt}
use Rattle.clause_tables.specs.declared.Totals.{Totals}
use Rattle.clause_tables.specs.Tables.{Tabled}
use Rattle.clause_table_laws.proofs.Bounds.{clauses_short, blocks_fit}
use Rattle.clause_places.specs.declared.Coordinates.{Coordinates}
use Rattle.clause_places.specs.declared.Place.{Place}
use Rattle.clause_places.specs.Places.{place_at}
use Rattle.clause_places.proofs.Numbers.{place_some, placed_at}
use Rattle.clause_counts.specs.Counts.{item_size, fixed_size}
use Rattle.clause_finding.proofs.ItemPlaces.{item_stands, item_listed, item_within, item_blocks, item_end}
use Rattle.clause_text.specs.Blocks.{is_blockwise, block_text}
use Rattle.clause_runs.specs.Lines.{code_lines, code_line}
use Rattle.clause_runs.specs.Items.{item_text}
use Rattle.clause_runs.specs.Taken.{Taken}
use Rattle.clause_runs.proofs.ItemTexts.{item_size_lem, item_short, size_some}
use Rattle.clause_runs.proofs.Placed.{lines_count, clause_is}
use Rattle.clause_runs.proofs.Runs.{joined_next, joined_take}

-- k lines from line n on, line by line
lines_each : (ls : List (List ℕ)) (n k : ℕ) → n + k ≤ length ls → joined (take k (drop n ls)) ≡ each k (λ y. get_or ls (n + pred y) [])
lines_each ls n zero h = refl
lines_each ls n (suc k) h =
    joined_next (drop n ls) k (subst (λ (m : ℕ). k < m) (sym (length-drop n ls)) (omega (arith, h)))
    ∙ ap₂ (λ (x y : List ℕ). x ++ y) (lines_each ls n k (omega (arith, h))) (get_or-drop n ls k [])

module _ {G : Code} {t : Totals} {hs ss bs ks xs ys : List ℕ} (T : Tabled G t hs ss bs ks xs ys) {c : Place} (e : c ≡ place_at G c.number) (h : c.number ≤ t.clauses) where
  -- ---- one line

  one_line_lem : joined (take 1 (drop c.number (code_lines G))) ≡ code_line G c.number
  one_line_lem =
      ap (λ (ls : List (List ℕ)). joined (take 1 ls)) (drop-cons (code_lines G) c.number [] (subst (λ (m : ℕ). c.number < m) (sym (lines_count T)) (omega (arith, h))))
      ∙ append-nil (code_line G c.number)

  pub one_taken : (b : List ℕ) {r : ℕ} {l : List ℕ} {d : Place} → Room (code_line G c.number) b
      → Wrote (code_line G c.number) b l r → d ≡ place_at G (suc c.number)
      → Taken G c.number (record { lines = 1; bytes = r; place = d }) b l
  one_taken b {r} {l} {d} f u v =
      record {
        some = omega arith;
        listed = omega (arith, h, lines_count T);
        in_room = omega (arith, f, u.count);
        wrote = wrote_as (sym one_line_lem) u;
        place_is = v ∙ ap (place_at G) (sym (add-one c.number));
      }

  -- ---- the lines of the item that begins at c

  abbrev g : ℕ
  g = c.coordinates.group

  abbrev a : ℕ
  a = c.coordinates.item

  module _ (r : is_blockwise g ≡ true) (b : c.coordinates.block ≡ 1) (z : c.coordinates.clause ≡ 1) where
    some : 0 < c.number
    some = place_some T e h (omega (arith, z))

    R : BlockAt G g a c.coordinates.block
    R = (placed_at T e some h).block_at

    pub item_asks : {n : ℕ} → 3008 ≤ n
        → (0 < g) × (g ≤ group_count) × (0 < a) × (a ≤ item_count G g) × (is_blockwise g ≡ true) × (length (item_text G g a) ≤ n)
    item_asks f =
        (R.group_some, R.group_in, R.item_some, R.item_in, r, le_trans (item_short T R.group_some R.group_in R.item_some R.item_in r) f)

    pub item_many : {v k : ℕ} → v ≡ t.sizes.w → k ≡ fixed_size v g → k ≡ item_size G g a
    item_many = item_size_lem T R.group_some R.group_in R.item_some R.item_in r

    -- line by line
    line_at : (i y : ℕ) → i < block_count G g → y < size G g a (suc i)
        → get_or (code_lines G) (c.number + sum i (size G g a) + y) [] ≡ line_text (clause_at G g a (suc i) (suc y))
    line_at i y l m =
        ap (λ (n : ℕ). get_or (code_lines G) n []) (both c.number (sum i (size G g a)) y)
        ∙ sym (clause_is T {c = place_at G (c.number + (sum i (size G g a) + y))} refl (omega (arith, some)) (item_listed T e some h b z i y l m))
        ∙ ap (λ (d : Coordinates). line_text (clause_at G d.group d.item d.block d.clause)) (item_stands T e some h b z i y l m)
        ∙ ap (λ (n : ℕ). line_text (clause_at G g a (suc i) n)) (add-one y)
      where
        both : (x y z : ℕ) → x + y + z ≡ x + (y + z)
        both x y z = omega arith

    -- block by block
    block_lines : (i : ℕ) → i < block_count G g
        → joined (take (size G g a (suc i)) (drop (c.number + sum i (size G g a)) (code_lines G))) ≡ block_text G g a (suc i)
    block_lines i l =
        lines_each (code_lines G) (c.number + sum i (size G g a)) (size G g a (suc i))
        (omega (arith, lines_count T, item_within T e some h b z, sum_mono (block_count G g) (size G g a) i l))
        ∙ each_ext (size G g a (suc i)) (λ y. get_or (code_lines G) (c.number + sum i (size G g a) + pred y) []) (λ y. line_text (clause_at G g a (suc i) y))
        (λ y m. line_at i y l m)

    item_lines : (i : ℕ) → i ≤ block_count G g → joined (take (sum i (size G g a)) (drop c.number (code_lines G))) ≡ each i (block_text G g a)
    item_lines zero l = refl
    item_lines (suc i) l =
        joined_take (drop c.number (code_lines G)) (sum i (size G g a)) (size G g a (suc i))
        ∙ ap₂ (λ (x y : List ℕ). x ++ y) (item_lines i (omega (arith, l)))
        (ap (λ (ls : List (List ℕ)). joined (take (size G g a (suc i)) ls)) (drop-drop (sum i (size G g a)) c.number (code_lines G)) ∙ block_lines i l)

    -- ---- its last clause, and the place after it

    pub end_block : BlockAt G g a (c.coordinates.blocks + 1)
    end_block =
        record {
          group_some = R.group_some;
          group_in = R.group_in;
          item_some = R.item_some;
          item_in = R.item_in;
          block_some = omega arith;
          block_in = omega (arith, item_blocks T e some h b z);
        }

    pub end_adds : c.coordinates.blocks + 1 ≤ 501
    end_adds = omega (arith, item_blocks T e some h b z, blocks_fit G T.limits g)

    module _ {k : ℕ} (v : k ≡ item_size G g a) where
      pub item_some : 0 < k
      item_some =
          omega (
            arith,
            v,
            size_some T end_block r,
            ap (size G g a) (add-one c.coordinates.blocks),
            ap (λ (n : ℕ). sum n (size G g a)) (sym (add-one c.coordinates.blocks) ∙ item_blocks T e some h b z),
          )

      pub end_fits : c.number + (k - 1) ≤ 53690
      end_fits = omega (arith, v, item_some, item_within T e some h b z, clauses_short T)

      pub end_asks : {s : ℕ} → s ≡ size G g a (c.coordinates.blocks + 1)
          → (record {
            number = c.number + (k - 1);
            coordinates = record { group = g; item = a; block = c.coordinates.blocks + 1; clause = s; clauses = 0; blocks = 0; items = c.coordinates.items };
          }
          ≡ place_at G (c.number + (k - 1)))
          × (c.number + (k - 1) ≤ t.clauses)
      end_asks q = item_end T e some h b z (item_blocks T e some h b z) q (subst (λ (n : ℕ). 0 < n) (sym q) (size_some T end_block r)) v

      pub item_past : {d : Place} → d ≡ place_at G (suc (c.number + (k - 1))) → d ≡ place_at G (c.number + k)
      item_past q = q ∙ ap (place_at G) (whole c.number k item_some)
        where
          whole : (n k : ℕ) → 0 < k → suc (n + (k - 1)) ≡ n + k
          whole n k p = omega (arith, p)

      pub item_taken : (x : List ℕ) {j : ℕ} {l : List ℕ} {d : Place} → 3008 ≤ length x → Wrote (item_text G g a) x l j → d ≡ place_at G (c.number + k)
          → Taken G c.number (record { lines = k; bytes = j; place = d }) x l
      item_taken x f u q =
          record {
            some = item_some;
            listed = omega (arith, lines_count T, item_within T e some h b z, v);
            in_room = omega (arith, u.count, (item_asks f).5);
            wrote = wrote_as (sym (ap (λ (m : ℕ). joined (take m (drop c.number (code_lines G)))) v ∙ item_lines (block_count G g) (omega arith))) u;
            place_is = q;
          }
