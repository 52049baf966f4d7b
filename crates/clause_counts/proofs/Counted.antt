-- How many clauses items and groups have.
--   item_length, group_length, all_coordinates_length   as many coordinates as the sizes say
--   fixed_item      each item of group 3, 4, 5 or 7
--   rule_item       an item of group 1 or 6
--   atoms_sum       the first a items of group 2
--   bodies_group, atoms_group, fixed_group              group 1, group 2, and groups 3, 4, 5 and 7, from the tables
--   groups_all      all groups have C clauses
-- Assumes nothing.
use Prim.Native.Nat.{ℕ, zero, suc, pred, ◌+◌, ◌-◌, ◌*◌, ◌≤◌, ◌<◌}
use native.Mathlib.Nat.{not-suc-le-zero, le_refl, zero-add, add-zero, add-suc}
use native.Mathlib.Omega.{arith}
use mathlib.Core.Path.{◌≡◌, refl, sym, ◌∙◌, ap, ap₂, subst}
use mathlib.Core.Logic.{◌⊎◌, inl, inr}
use mathlib.Core.Bool.{Bool, true, false, cond, false≢true, true≢false}
use mathlib.Core.List.{List}
use lib.Dec.{eqb, leb}
use lib.ListN.{length, get_or}
use borrow.Author.Tests.{eq-eqb, ne_eqb, le-leb, lt-leb}
use Rattle.encoding.specs.Code.{Code}
use Rattle.lists.specs.Lists.{sum}
use Rattle.lists.proofs.Tests.{le_or_lt}
use Rattle.lists.proofs.Growing.{one}
use Rattle.lists.proofs.Tables.{sum_ext, sum_add, sum_const, sum_zero, length_tab, length_each, sum_twice}
use Rattle.clause_walk.specs.Walk.{item_count, block_count, size, size2, head_of, body_count, chain_size, chain_bit, group_of}
use Rattle.program.specs.Arrays.{kept}
use Rattle.clause_tables.specs.declared.Totals.{Totals}
use Rattle.clause_tables.specs.Tables.{Tabled}
use Rattle.clause_table_laws.proofs.Elements.{rules_are, atoms_are, width_are, head_is, head_atom, start_at_lem}
use Rattle.clause_layout.specs.Numbers.{items_of}
use Rattle.clause_places.specs.Places.{coordinates, block_coordinates, item_coordinates, group_coordinates, all_coordinates}
use Rattle.clause_places.proofs.Steps.{items_is}
use Rattle.clause_places.proofs.Numbers.{count_is}
use Rattle.clause_counts.specs.Counts.{item_size, group_size, low_count, is_fixed, fixed_size}

-- ---- sums

sum_append : (a b : ℕ) (f : ℕ → ℕ) → sum (a + b) f ≡ sum a f + sum b (λ i. f (a + i))
sum_append a zero f = ap (λ (k : ℕ). sum k f) (add-zero a) ∙ sym (add-zero (sum a f))
sum_append a (suc b) f =
    ap (λ (k : ℕ). sum k f) (add-suc a b) ∙ ap₂ ◌+◌ (sum_append a b f) (ap f (sym (add-suc a b)))
    ∙ omega arith

-- how many of the first m heads are a
abbrev head_count : ℕ → List ℕ → ℕ → ℕ
head_count m hs a = sum m (λ r. cond (eqb (get_or hs (pred r) 0) a) 1 0)

low_more : (m : ℕ) (hs : List ℕ) (a : ℕ) → low_count m hs a + head_count m hs (suc a) ≡ low_count m hs (suc a)
low_more m hs a =
    sym (sum_add m (λ r. cond (leb (get_or hs (pred r) 0) a) 1 0) (λ r. cond (eqb (get_or hs (pred r) 0) (suc a)) 1 0))
    ∙ sum_ext m _ _ (λ r l. more (get_or hs r 0) (le_or_lt (get_or hs r 0) a) (le_or_lt (get_or hs r 0) (suc a)))
  where
    more : (h : ℕ) → (h ≤ a) ⊎ (a < h) → (h ≤ suc a) ⊎ (suc a < h) → one (leb h a) + one (eqb h (suc a)) ≡ one (leb h (suc a))
    more h (inl p) q = ap₂ ◌+◌ (ap one (le-leb h a p)) (ap one (ne_eqb h (suc a) (λ e. omega (arith, e, p)))) ∙ sym (ap one (le-leb h (suc a) (omega (arith, p))))
    more h (inr p) (inl q) = ap₂ ◌+◌ (ap one (lt-leb h a p)) (ap one (eq-eqb h (suc a) (omega (arith, p, q)))) ∙ sym (ap one (le-leb h (suc a) q))
    more h (inr p) (inr q) = ap₂ ◌+◌ (ap one (lt-leb h a p)) (ap one (ne_eqb h (suc a) (λ e. omega (arith, e, q)))) ∙ sym (ap one (lt-leb h (suc a) q))

-- ---- the coordinates

module _ (G : Code) where
  pub item_length : (g a : ℕ) → length (item_coordinates G g a) ≡ item_size G g a
  item_length g a =
      length_each (block_count G g) (block_coordinates G g a)
      ∙ sum_ext (block_count G g) _ (size G g a) (λ i h. length_tab (size G g a (suc i)) (coordinates G g a (suc i)))

  pub group_length : (g : ℕ) → length (group_coordinates G g) ≡ group_size G g
  group_length g =
      length_each (item_count G g) (item_coordinates G g) ∙ sum_ext (item_count G g) _ (item_size G g) (λ a h. item_length g (suc a))

  all_coordinates_length : length (all_coordinates G) ≡ sum 7 (group_size G)
  unfolding all_coordinates
  all_coordinates_length = length_each 7 (group_coordinates G) ∙ sum_ext 7 (λ g. length (group_coordinates G g)) (group_size G) (λ g h. group_length (suc g))

-- ---- items

chain_sum : (k : ℕ) → sum (suc k) chain_size ≡ 3 + 6 * k
chain_sum zero = refl
chain_sum (suc k) = omega (arith, chain_sum k, ap {B = ℕ} (λ (b : Bool). cond b 3 6) (ne_eqb (suc (suc k)) 1 (λ e. omega arith)))

-- the two chains of a pair
pair_sum : (w : ℕ) → 0 < w → sum (w + w) (λ i. chain_size (chain_bit w i)) ≡ 12 * w - 6
pair_sum zero p = absurd (not-suc-le-zero p)
pair_sum (suc k) p =
    sum_append (suc k) (suc k) (λ i. chain_size (chain_bit (suc k) i))
    ∙ ap₂ ◌+◌
    (sum_ext (suc k) _ chain_size (λ i h. ap (λ (b : Bool). chain_size (cond b (suc i) (suc i - suc k))) (le-leb (suc i) (suc k) h)))
    (sum_ext (suc k) _ chain_size (λ i h.
    ap (λ (b : Bool). chain_size (cond b (suc k + suc i) (suc k + suc i - suc k))) (lt-leb (suc k + suc i) (suc k) (omega arith)) ∙ ap chain_size (back (suc k) (suc i))))
    ∙ omega (arith, chain_sum k)
  where
    back : (n i : ℕ) → n + i - n ≡ i
    back n i = omega arith

module _ (G : Code) where
  pub fixed_item : 0 < G.w → (g : ℕ) → 0 < g → g ≤ 7 → is_fixed g ≡ true → (a : ℕ) → item_size G g a ≡ fixed_size G.w g
  unfolding block_count size group_of
  fixed_item p zero h k e a = absurd (not-suc-le-zero h)
  fixed_item p (suc zero) h k e a = absurd (false≢true e)
  fixed_item p (suc (suc zero)) h k e a = absurd (false≢true e)
  fixed_item p (suc (suc (suc zero))) h k e a = zero-add G.w
  fixed_item p (suc (suc (suc (suc zero)))) h k e a = sum_twice G.w
  fixed_item p (suc (suc (suc (suc (suc zero))))) h k e a = pair_sum G.w p
  fixed_item p (suc (suc (suc (suc (suc (suc zero)))))) h k e a = absurd (false≢true e)
  fixed_item p (suc (suc (suc (suc (suc (suc (suc zero))))))) h k e a = refl
  fixed_item p (suc (suc (suc (suc (suc (suc (suc (suc g)))))))) h k e a = absurd (omega (arith, k))

  pub rule_item : (g : ℕ) → 0 < g → g ≤ 7 → is_fixed g ≡ false → (g ≡ 2 → ⊥) → (a : ℕ) → size G g a 1 ≡ item_size G g a
  unfolding block_count size group_of
  rule_item zero h k e f a = absurd (not-suc-le-zero h)
  rule_item (suc zero) h k e f a = sym (zero-add (size G 1 a 1))
  rule_item (suc (suc zero)) h k e f a = absurd (f refl)
  rule_item (suc (suc (suc zero))) h k e f a = absurd (true≢false e)
  rule_item (suc (suc (suc (suc zero)))) h k e f a = absurd (true≢false e)
  rule_item (suc (suc (suc (suc (suc zero))))) h k e f a = absurd (true≢false e)
  rule_item (suc (suc (suc (suc (suc (suc zero)))))) h k e f a = sym (zero-add (size G 6 a 1))
  rule_item (suc (suc (suc (suc (suc (suc (suc zero))))))) h k e f a = absurd (true≢false e)
  rule_item (suc (suc (suc (suc (suc (suc (suc (suc g)))))))) h k e f a = absurd (omega (arith, k))

-- ---- from the tables

rule_clauses : (G : Code) (r : ℕ) → item_size G 1 r ≡ suc (body_count G r)
unfolding block_count size group_of
rule_clauses G r = zero-add (suc (body_count G r))

first_start : {G : Code} {t : Totals} {hs ss bs ks xs ys : List ℕ} → Tabled G t hs ss bs ks xs ys → get_or ss 0 0 + 0 ≡ 0
unfolding kept
first_start T = ap (λ (l : List ℕ). get_or l 0 0 + 0) T.starts_are

module _ {G : Code} {t : Totals} {hs ss bs ks xs ys : List ℕ} (T : Tabled G t hs ss bs ks xs ys) where
  abbrev w : ℕ
  w = t.sizes.w

  abbrev m : ℕ
  m = t.sizes.m

  rules : m ≡ length G.rules
  rules = rules_are G t hs ss bs ks xs ys T

  -- head r, from 0
  head_at_lem : (i : ℕ) → i < length G.rules → get_or hs i 0 ≡ head_of G (suc i)
  head_at_lem i h = ap (λ (k : ℕ). get_or hs k 0) (less i) ∙ head_is G t hs ss bs ks xs ys T (suc i) (omega arith) h
    where
      less : (i : ℕ) → i ≡ suc i - 1
      less i = omega arith

  atom_item : (a : ℕ) → head_count m hs a + 1 ≡ item_size G 2 a
  unfolding block_count size group_of
  atom_item a =
      ap₂ ◌+◌
      (ap (λ (k : ℕ). head_count k hs a) rules
      ∙ sum_ext (length G.rules) _ (size2 G a)
      (λ i h. ap (λ (k : ℕ). cond (eqb k a) 1 0) (head_at_lem i h) ∙ sym (ap (λ (b : Bool). cond b (cond (eqb (head_of G (suc i)) a) 1 0) 1) (le-leb (suc i) (length G.rules) h))))
      (sym (ap (λ (b : Bool). cond b (cond (eqb (head_of G (suc (length G.rules))) a) 1 0) 1) (lt-leb (suc (length G.rules)) (length G.rules) (omega arith))))

  pub bodies_group : get_or ss (2 * m) 0 + m ≡ group_size G 1
  unfolding item_count group_of
  bodies_group = ap (λ (k : ℕ). get_or ss (2 * k) 0 + k) rules ∙ sym (go (length G.rules) (le_refl (length G.rules)))
    where
      twice : (i : ℕ) → 2 * suc i ≡ 2 * i + 2
      twice i = omega arith

      go : (i : ℕ) → i ≤ length G.rules → sum i (item_size G 1) ≡ get_or ss (2 * i) 0 + i
      go zero h = sym (first_start T)
      go (suc i) h =
          let L = start_at_lem G t hs ss bs ks xs ys T i h in
          omega (
            arith,
            go i (omega (arith, h)),
            rule_clauses G (suc i),
            L.first_up,
            L.second_up,
            L.count_are,
            ap (λ (k : ℕ). get_or ss k 0) (twice i),
          )

  head_in : (r : ℕ) → r < m → (0 < get_or hs r 0) × (get_or hs r 0 ≤ G.n)
  head_in r h =
      let k = subst (λ (n : ℕ). r < n) rules h in
      subst (λ (a : ℕ). (0 < a) × (a ≤ G.n)) (sym (head_at_lem r k)) (head_atom G T.limits (suc r) (omega arith) k)

  pub atoms_sum : (a : ℕ) → low_count m hs a + a ≡ sum a (item_size G 2)
  atoms_sum zero =
      ap (λ (k : ℕ). k + 0)
      (sum_ext m _ (λ r. 0) (λ r h. ap {B = ℕ} (λ (b : Bool). cond b 1 0) (lt-leb (get_or hs r 0) 0 (head_in r h).0)) ∙ sum_zero m)
  atoms_sum (suc a) = omega (arith, atoms_sum a, low_more m hs a, atom_item (suc a))

  pub atoms_group : m + t.sizes.n ≡ group_size G 2
  unfolding item_count group_of
  atoms_group =
      ap₂ ◌+◌
      (sym (sum_ext m _ (λ r. 1) (λ r h. ap {B = ℕ} (λ (b : Bool). cond b 1 0) (le-leb (get_or hs r 0) G.n (head_in r h).1)) ∙ sum_const m 1 ∙ omega arith))
      (atoms_are G t hs ss bs ks xs ys T)
      ∙ atoms_sum G.n

  pub fixed_group : (g : ℕ) → 0 < g → g ≤ 7 → is_fixed g ≡ true → items_of t g * fixed_size w g ≡ group_size G g
  fixed_group g h k e =
      ap₂ (λ (n v : ℕ). n * fixed_size v g) (items_is T g) (width_are G t hs ss bs ks xs ys T)
      ∙ sym
      (sum_ext (item_count G g) (item_size G g) (λ a. fixed_size G.w g) (λ a l. fixed_item G T.limits.some_bit g h k e (suc a))
      ∙ sum_const (item_count G g) (fixed_size G.w g))

  pub groups_all : sum 7 (group_size G) ≡ t.clauses
  groups_all = sym (all_coordinates_length G) ∙ count_is T

  pub last_group : group_size G 7 ≡ t.sizes.n
  last_group = sym (fixed_group 7 (omega arith) (omega arith) refl) ∙ omega arith
