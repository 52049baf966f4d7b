-- How many clauses stand before an item, as the code finds it.
--   sum_up                              more summands give no smaller sum
--   items_short, groups_short           the first items of a group, and the first groups, have at most 53,690 clauses
--   rule_here, rules_more, rules_add, rules_done  groups 1 and 6: the block of a rule, one rule more, and that its clauses can be added
--   fixed_front, fixed_short            items of one size
--   atoms_front                         group 2
--   groups_more, groups_add, groups_done          one group more, and all before group g
--   groups_before_last, last_short                all but the last
-- Assumes nothing.
use Prim.Native.Nat.{ℕ, zero, suc, pred, ◌+◌, ◌-◌, ◌*◌, ◌≤◌, ◌<◌}
use native.Mathlib.Nat.{le_refl, le_antisymm}
use native.Mathlib.Numerals.{add-one}
use native.Mathlib.Omega.{arith}
use mathlib.Core.Path.{◌≡◌, refl, sym, ◌∙◌, ap, ap₂, subst}
use mathlib.Core.Logic.{◌⊎◌, inl, inr}
use mathlib.Core.Bool.{true, false, true≢false}
use mathlib.Core.List.{List}
use Rattle.encoding.specs.Code.{Code}
use Rattle.lists.specs.Lists.{sum}
use Rattle.lists.proofs.Tests.{le_or_lt}
use Rattle.lists.proofs.Tables.{sum_ext, sum_const, sum_mono}
use Rattle.clause_walk.specs.Walk.{group_count, item_count, block_count, size, group_of, BlockAt}
use Rattle.clause_tables.specs.declared.Totals.{Totals}
use Rattle.clause_tables.specs.Tables.{Tabled}
use Rattle.clause_table_laws.proofs.Elements as elements
use Rattle.clause_table_laws.proofs.Bounds.{clauses_short}
use Rattle.clause_counts.specs.Counts.{item_size, group_size, low_count, is_fixed, fixed_size}
use Rattle.clause_counts.proofs.Counted.{fixed_item, rule_item, atoms_sum, groups_all, last_group}

pub sum_up : (a n : ℕ) (f : ℕ → ℕ) → a ≤ n → sum a f ≤ sum n f
sum_up a n f h = go (le_or_lt n a)
  where
    go : (n ≤ a) ⊎ (a < n) → sum a f ≤ sum n f
    go (inl l) = subst (λ (k : ℕ). sum a f ≤ sum k f) (le_antisymm h l) (le_refl (sum a f))
    go (inr l) = omega (arith, sum_mono n f a l)

-- the items of groups 1 and 6 have one block
one_block : (G : Code) (g : ℕ) → 0 < g → g ≤ group_count → is_fixed g ≡ false → (g ≡ 2 → ⊥) → block_count G g ≡ 1
unfolding block_count group_of
one_block G zero h k e f = absurd (omega (arith, h))
one_block G (suc zero) h k e f = refl
one_block G (suc (suc zero)) h k e f = absurd (f refl)
one_block G (suc (suc (suc zero))) h k e f = absurd (true≢false e)
one_block G (suc (suc (suc (suc zero)))) h k e f = absurd (true≢false e)
one_block G (suc (suc (suc (suc (suc zero))))) h k e f = absurd (true≢false e)
one_block G (suc (suc (suc (suc (suc (suc zero)))))) h k e f = refl
one_block G (suc (suc (suc (suc (suc (suc (suc zero))))))) h k e f = absurd (true≢false e)
one_block G (suc (suc (suc (suc (suc (suc (suc (suc g)))))))) h k e f = absurd (omega (arith, k))

module _ {G : Code} {t : Totals} {hs ss bs ks xs ys : List ℕ} (T : Tabled G t hs ss bs ks xs ys) where
  abbrev gs : ℕ → ℕ
  gs = group_size G

  pub groups_short : (k : ℕ) → k ≤ group_count → sum k gs ≤ 53690
  groups_short k h = omega (arith, sum_up k 7 gs h, groups_all T, clauses_short T)

  module _ (g : ℕ) (p : 0 < g) (q : g ≤ group_count) where
    group_short : sum (pred g) gs + gs g ≤ 53690
    group_short = go g p q
      where
        go : (g : ℕ) → 0 < g → g ≤ group_count → sum (pred g) gs + gs g ≤ 53690
        go zero p q = absurd (omega (arith, p))
        go (suc g) p q = groups_short (suc g) q

    pub items_short : (a : ℕ) → a ≤ item_count G g → sum (pred g) gs + sum a (item_size G g) ≤ 53690
    items_short a h = omega (arith, group_short, sum_up a (item_count G g) (item_size G g) h)

    -- the first a rules
    pub rules_done : {r a k : ℕ} → r ≤ a → a ≤ r → k ≡ sum r (item_size G g) → k ≡ sum a (item_size G g)
    rules_done {r} {a} h l e = e ∙ ap (λ (k : ℕ). sum k (item_size G g)) (le_antisymm h l)

    module _ (f : is_fixed g ≡ false) (n : g ≡ 2 → ⊥) (r : ℕ) (h : r < item_count G g) where
      pub rule_here : BlockAt G g (r + 1) 1
      rule_here =
          record {
            group_some = p;
            group_in = q;
            item_some = omega arith;
            item_in = omega (arith, h);
            block_some = omega arith;
            block_in = subst (λ (k : ℕ). 1 ≤ k) (sym (one_block G g p q f n)) (omega arith);
          }

      pub rules_more : {k x y : ℕ} → k ≡ sum r (item_size G g) → x ≡ size G g (r + 1) 1 → y ≡ x → k + y ≡ sum (r + 1) (item_size G g)
      rules_more e u v =
          ap₂ ◌+◌ e (v ∙ u ∙ rule_item G g p q f n (r + 1) ∙ ap (item_size G g) (add-one r)) ∙ sym (ap (λ (k : ℕ). sum k (item_size G g)) (add-one r))

      pub rules_add : {k x y : ℕ} → k ≡ sum r (item_size G g) → x ≡ size G g (r + 1) 1 → y ≡ x → k + y ≤ 53690
      rules_add e u v = omega (arith, rules_more e u v, items_short (r + 1) (omega (arith, h)))

    module _ (f : is_fixed g ≡ true) (a : ℕ) (h : a ≤ item_count G g) {x v y : ℕ} (e : x ≡ a) (u : v ≡ t.sizes.w) (d : y ≡ fixed_size v g) where
      pub fixed_front : x * y ≡ sum a (item_size G g)
      fixed_front =
          ap₂ ◌*◌ e (d ∙ ap (λ (b : ℕ). fixed_size b g) (u ∙ elements.width_are G t hs ss bs ks xs ys T))
          ∙ sym (sum_ext a (item_size G g) (λ i. fixed_size G.w g) (λ i l. fixed_item G T.limits.some_bit g p q f (suc i)) ∙ sum_const a (fixed_size G.w g))

      pub fixed_short : x * y ≤ 53690
      fixed_short = omega (arith, fixed_front, items_short a h)

  pub atoms_front : {g : ℕ} → g ≡ 2 → (a : ℕ) {x : ℕ} → x ≡ low_count t.sizes.m hs a + a → x ≡ sum a (item_size G g)
  atoms_front e a u = u ∙ atoms_sum T a ∙ ap (λ (k : ℕ). sum a (item_size G k)) (sym e)

  -- ---- groups

  module _ {h k x : ℕ} (p : 0 < h) (e : k ≡ sum (pred h) gs) (u : x ≡ gs h) where
    up_to : k + x ≡ sum h gs
    up_to = go h p e u
      where
        go : (h : ℕ) → 0 < h → k ≡ sum (pred h) gs → x ≡ gs h → k + x ≡ sum h gs
        go zero p e u = absurd (omega (arith, p))
        go (suc h) p e u = ap₂ ◌+◌ e u

    pub groups_more : k + x ≡ sum (pred (h + 1)) gs
    groups_more = up_to ∙ ap (λ (j : ℕ). sum (pred j) gs) (sym (add-one h))

    pub groups_add : h ≤ group_count → k + x ≤ 53690
    groups_add l = omega (arith, up_to, groups_short h l)

  -- the groups before group g
  pub groups_done : {g h k : ℕ} → h ≤ g → g ≤ h → k ≡ sum (pred h) gs → k ≡ sum (pred g) gs
  groups_done l q e = e ∙ ap (λ (j : ℕ). sum (pred j) gs) (le_antisymm l q)

  module _ {x : ℕ} (e : x ≡ t.sizes.n) where
    pub last_short : x ≤ t.clauses
    last_short = omega (arith, e, groups_all T, last_group T)

    pub groups_before_last : {g : ℕ} → g ≡ group_count → t.clauses - x ≡ sum (pred g) gs
    groups_before_last q = omega (arith, e, groups_all T, last_group T) ∙ ap (λ (k : ℕ). sum (pred k) gs) (sym q)
