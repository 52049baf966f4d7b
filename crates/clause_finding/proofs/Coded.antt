-- What the code asks and answers, over plain numbers.
--   last_in, in_last, before_last       group 7, from its end
--   atoms_before, rule_size, item_even how many clauses items have, as the code finds it
--   atoms_all, atoms_fit, falls_2       the search in group 2
--   block_below, blocks_within, blocks_end    the numbers of blocks
--   block_here, item_here               the blocks where the search is
--   coordinates_is                      the coordinates made from them
-- Assumes nothing.
use Prim.Native.Nat.{ℕ, suc, ◌+◌, ◌-◌, ◌/◌, ◌%◌, ◌≤◌, ◌<◌}
use native.Mathlib.Omega.{arith}
use mathlib.Core.Path.{◌≡◌, sym, ◌∙◌, ap, subst}
use mathlib.Core.Bool.{Bool, true, false, cond}
use mathlib.Core.List.{List}
use lib.Dec.{eqb}
use Rattle.encoding.specs.Code.{Code}
use Rattle.lists.specs.Lists.{sum}
use Rattle.clause_walk.specs.Walk.{item_count, block_count, size, BlockAt, At}
use Rattle.clause_tables.specs.declared.Totals.{Totals}
use Rattle.clause_tables.specs.Tables.{Tabled}
use Rattle.clause_table_laws.proofs.Elements as elements
use Rattle.clause_table_laws.proofs.Bounds.{items_fit}
use Rattle.clause_layout.specs.Numbers.{items_of, blocks_of}
use Rattle.clause_places.specs.Places.{coordinates}
use Rattle.clause_places.proofs.Steps.{items_is, blocks_is}
use Rattle.clause_finding.specs.declared.PartFound.{PartFound}
use Rattle.clause_finding.specs.Falls.{Falls, Between}
use Rattle.clause_counts.specs.Counts.{item_size, group_size, low_count, is_fixed, fixed_size}
use Rattle.clause_finding.proofs.Falling.{between_all, falls_even}
use Rattle.clause_counts.proofs.Counted.{fixed_item, rule_item, atoms_sum, groups_all, last_group}
use Rattle.clause_counts.proofs.Sized.{sizes_in, size_fits}

module _ {G : Code} {t : Totals} {hs ss bs ks xs ys : List ℕ} (T : Tabled G t hs ss bs ks xs ys) where
  abbrev w : ℕ
  w = t.sizes.w

  abbrev gs : ℕ → ℕ
  gs = group_size G

  module _ {x : ℕ} (e : x ≡ t.sizes.n) where
    pub last_in : x ≤ t.clauses
    last_in = omega (arith, e, groups_all T, last_group T)

    last_is : t.clauses - x ≡ sum 6 gs
    last_is = omega (arith, e, groups_all T, last_group T)

    pub before_last : {left : ℕ} → left < t.clauses - x → left < sum 6 gs
    before_last h = omega (arith, h, last_is)

    pub in_last : {left : ℕ} → t.clauses - x ≤ left → left < t.clauses → Falls 7 gs left (record { number = 7; left = left - (t.clauses - x) })
    in_last h q =
        record {
          at = record { some = omega arith; within = omega arith; left_are = omega (arith, h, last_is) };
          inside = omega (arith, h, q, last_is, groups_all T);
        }

  -- ---- items

  pub atoms_before : (a : ℕ) {x : ℕ} → x ≡ low_count t.sizes.m hs a + a → x ≡ sum a (item_size G 2)
  atoms_before a e = e ∙ atoms_sum T a

  pub rule_size : (g a : ℕ) → 0 < g → g ≤ 7 → is_fixed g ≡ false → (g ≡ 2 → ⊥) → {x : ℕ} → x ≡ size G g a 1 → x ≡ item_size G g a
  rule_size g a h l f n p = p ∙ rule_item G g h l f n a

  -- all atoms
  pub atoms_all : {left : ℕ} → left < gs 2 → Between (item_count G 2) (item_size G 2) left 0 t.sizes.n
  atoms_all {left} h = subst (λ (n : ℕ). Between (item_count G 2) (item_size G 2) left 0 n) (sym (items_is T 2)) (between_all h)

  pub atoms_fit : {left a b : ℕ} → Between (item_count G 2) (item_size G 2) left a b → b ≤ 500
  atoms_fit B = omega (arith, B.within, items_fit G T.limits 2)

  -- in group g, which is 2
  pub falls_2 : {g left : ℕ} {r : PartFound} → g ≡ 2 → Falls (item_count G 2) (item_size G 2) left r → Falls (item_count G g) (item_size G g) left r
  falls_2 {g} {left} {r} e F = subst (λ (k : ℕ). Falls (item_count G k) (item_size G k) left r) (sym e) F

  pub left_2 : {g left : ℕ} → g ≡ 2 → left < gs g → left < gs 2
  left_2 {g} {left} e h = subst (λ (k : ℕ). left < gs k) e h

  module _ {left v k : ℕ} (g : ℕ) (h : 0 < g) (l : g ≤ 7) (f : is_fixed g ≡ true) (b : left < gs g) (u : v ≡ w) (r : k ≡ fixed_size v g) where
    even_is : k ≡ fixed_size w g
    even_is = r ∙ ap (λ (b : ℕ). fixed_size b g) u

    pub even_some : 0 < k
    even_some = subst (λ (n : ℕ). 0 < n) (sym even_is) (size_fits g w (elements.width_pos G t hs ss bs ks xs ys T) (sizes_in T).bits).0

    pub item_even : Falls (item_count G g) (item_size G g) left (record { number = left / k + 1; left = left % k })
    item_even = falls_even even_some (λ a q. fixed_item G T.limits.some_bit g h l f (suc a) ∙ ap (λ (v : ℕ). fixed_size v g) (sym (elements.width_are G t hs ss bs ks xs ys T)) ∙ sym even_is) b

    pub even_fits : left / k < 500
    even_fits = omega (arith, item_even.at.within, items_fit G T.limits g)

  -- ---- the numbers of blocks and items

  module _ (g : ℕ) {n i : ℕ} where
    pub block_below : n ≡ blocks_of t.sizes g → i < n → i < block_count G g
    block_below e h = subst (λ (k : ℕ). i < k) (e ∙ blocks_is T g) h

    pub blocks_within : n ≡ blocks_of t.sizes g → i ≤ n → i ≤ block_count G g
    blocks_within e h = subst (λ (k : ℕ). i ≤ k) (e ∙ blocks_is T g) h

    pub blocks_end : n ≡ blocks_of t.sizes g → n ≤ i → block_count G g ≤ i
    blocks_end e h = subst (λ (k : ℕ). k ≤ i) (e ∙ blocks_is T g) h

  -- block i of the item, and block 1 of item a
  pub block_here : {g a i n : ℕ} → 0 < g → g ≤ 7 → 0 < a → a ≤ item_count G g → n ≡ blocks_of t.sizes g → 0 < i → i < n → BlockAt G g a i
  block_here {g} {i = i} h l p q e r s =
      record { group_some = h; group_in = l; item_some = p; item_in = q; block_some = r; block_in = omega (arith, block_below g e s) }

  pub item_here : {g a n : ℕ} → 0 < g → g ≤ 7 → n ≡ items_of t g → 0 < a → a < n → BlockAt G g a 1
  item_here {g} {a} h l e p q =
      record { group_some = h; group_in = l; item_some = p; item_in = omega (arith, subst (λ (k : ℕ). a < k) (e ∙ items_is T g) q); block_some = omega arith; block_in = block_some }
    where
      block_some : 0 < block_count G g
      block_some = subst (λ (k : ℕ). 0 < k) (blocks_is T g) (go (eqb g 2) (eqb g 4) (eqb g 5))
        where
          go : (b2 b4 b5 : Bool) → 0 < cond b2 (suc t.sizes.m) (cond b4 w (cond b5 (w + w) 1))
          go true b4 b5 = omega arith
          go false true b5 = elements.width_pos G t hs ss bs ks xs ys T
          go false false true = omega (arith, elements.width_pos G t hs ss bs ks xs ys T)
          go false false false = omega arith

  module _ {g a i y : ℕ} (A : At G g a i y) where
    pub blocks_left : {r : ℕ} → r ≡ blocks_of t.sizes g → i ≤ r
    blocks_left e = subst (λ (k : ℕ). i ≤ k) (sym (e ∙ blocks_is T g)) A.block_at.block_in

    pub items_left : {n : ℕ} → n ≡ items_of t g → a ≤ n
    items_left e = subst (λ (k : ℕ). a ≤ k) (sym (e ∙ items_is T g)) A.block_at.item_in

    pub coordinates_is : {x r n : ℕ} → x ≡ size G g a i → r ≡ blocks_of t.sizes g → n ≡ items_of t g
        → record { group = g; item = a; block = i; clause = y; clauses = x - y; blocks = r - i; items = n - a } ≡ coordinates G g a i y
    coordinates_is p q e =
        λ j. record {
          group = g;
          item = a;
          block = i;
          clause = y;
          clauses = p j - y;
          blocks = (q ∙ blocks_is T g) j - i;
          items = (e ∙ items_is T g) j - a;
        }
