-- What the code asks and answers, over plain numbers and heads.
--   fixed_of                            the items of groups 3 to 5 have one size
--   size_fits                           that size, from 1 to 78
--   count_low, count_high, count_fits, count_front     heads that are at most a, counted one by one
--   group_1, group_2, group_rest        how many clauses a group has, as the code finds it
-- Assumes nothing.
use Prim.Native.Nat.{ℕ, pred, ◌+◌, ◌-◌, ◌*◌, ◌≤◌, ◌<◌}
use native.Mathlib.Nat.{mul-le-mul}
use native.Mathlib.Numerals.{add-one}
use native.Mathlib.Omega.{arith}
use mathlib.Core.Path.{◌≡◌, sym, ◌∙◌, ap, ap₂, subst}
use mathlib.Core.Bool.{Bool, true, false, cond}
use mathlib.Core.List.{List}
use lib.Dec.{eqb, leb}
use lib.ListN.{length, get_or, take}
use lib.Seq.{get_or-take, length-take-le}
use borrow.Author.Tests.{ne_eqb, le-leb, lt-leb}
use Rattle.encoding.specs.Code.{Code}
use Rattle.lists.proofs.Tables.{sum_ext}
use Rattle.lists.proofs.Growing.{count_le}
use Rattle.clause_literals.specs.Sizes.{Bounded}
use Rattle.clause_tables.specs.declared.Totals.{Totals}
use Rattle.clause_tables.specs.Tables.{Tabled}
use Rattle.clause_table_laws.proofs.Elements as elements
use Rattle.clause_table_laws.proofs.Bounds.{items_fit}
use Rattle.clause_layout.specs.Numbers.{items_of}
use Rattle.clause_places.proofs.Steps.{items_is}
use Rattle.clause_counts.specs.Counts.{group_size, low_count, is_fixed, fixed_size}
use Rattle.clause_counts.proofs.Counted.{bodies_group, atoms_group, fixed_group}

module _ (g : ℕ) where
  -- groups 3 to 5
  pub fixed_of : (g ≡ 1 → ⊥) → (g ≡ 2 → ⊥) → g ≤ 5 → is_fixed g ≡ true
  fixed_of n k h = rw (ne_eqb g 1 n, ne_eqb g 2 k, ne_eqb g 6 (λ e. omega (arith, e, h)))

  module _ (w : ℕ) where
    pub next_fits : w ≤ 7 → w * (w + 1) ≤ 56
    next_fits h = mul-le-mul {n₂ = 7} {m₂ = 8} h (omega (arith, h))

    pub size_fits : 0 < w → w ≤ 7 → (0 < fixed_size w g) × (fixed_size w g ≤ 78)
    size_fits p h = go (eqb g 3) (eqb g 4) (eqb g 5)
      where
        go : (b3 b4 b5 : Bool) → (0 < cond b3 w (cond b4 (w * (w + 1)) (cond b5 (12 * w - 6) 1))) × (cond b3 w (cond b4 (w * (w + 1)) (cond b5 (12 * w - 6) 1)) ≤ 78)
        go true b4 b5 = (p, omega (arith, h))
        go false true b5 = (mul-le-mul {n₁ = 1} {m₁ = 1} p (omega (arith, p)), omega (arith, next_fits h))
        go false false true = (omega (arith, p), omega (arith, h))
        go false false false = (omega arith, omega arith)

-- ---- heads

module _ (hs : List ℕ) (a i : ℕ) where
  pub count_low : {n : ℕ} → n ≡ low_count i hs a → get_or hs i 0 ≤ a → n + 1 ≡ low_count (i + 1) hs a
  count_low {n} e q =
      ap₂ ◌+◌ e (sym (ap (λ (b : Bool). cond b 1 0) (le-leb (get_or hs i 0) a q))) ∙ ap (λ (k : ℕ). low_count k hs a) (sym (add-one i))

  pub count_high : {n : ℕ} → n ≡ low_count i hs a → a < get_or hs i 0 → n ≡ low_count (i + 1) hs a
  count_high {n} e q =
      e ∙ omega arith ∙ ap (λ (k : ℕ). low_count i hs a + k) (sym (ap (λ (b : Bool). cond b 1 0) (lt-leb (get_or hs i 0) a q))) ∙ ap (λ (k : ℕ). low_count k hs a) (sym (add-one i))

  pub count_fits : low_count i hs a ≤ i
  count_fits = count_le i (λ r. leb (get_or hs (pred r) 0) a)

-- where the lists of a rule after the last one would begin
pub last_start : (m : ℕ) → 2 * (m + 1 - 1) + 0 ≡ 2 * m
last_start m = omega arith

-- the first m heads
pub count_front : (m : ℕ) (hs : List ℕ) (a : ℕ) → m ≤ length hs → low_count (length (take m hs)) (take m hs) a ≡ low_count m hs a
count_front m hs a h =
    ap (λ (k : ℕ). low_count k (take m hs) a) (length-take-le m hs h)
    ∙ sum_ext m _ _ (λ r l. ap (λ (k : ℕ). cond (leb k a) 1 0) (get_or-take m hs r 0 l))

-- ---- from the tables

module _ {G : Code} {t : Totals} {hs ss bs ks xs ys : List ℕ} (T : Tabled G t hs ss bs ks xs ys) where
  abbrev w : ℕ
  w = t.sizes.w

  abbrev gs : ℕ → ℕ
  gs = group_size G

  pub sizes_in : Bounded t.sizes
  sizes_in = elements.bounded G t hs ss bs ks xs ys T

  pub width_asks : {x : ℕ} → x ≡ w → (0 < x) × (x ≤ 7)
  width_asks e = (omega (arith, e, elements.width_pos G t hs ss bs ks xs ys T), omega (arith, e, sizes_in.bits))

  -- ---- groups

  module _ (g : ℕ) where
    pub group_1 : g ≡ 1 → {x : ℕ} → x ≡ get_or ss (2 * t.sizes.m) 0 + t.sizes.m → x ≡ gs g
    group_1 e q = q ∙ bodies_group T ∙ ap gs (sym e)

    pub group_2 : g ≡ 2 → {x y : ℕ} → x ≡ t.sizes.m → y ≡ t.sizes.n → x + y ≡ gs g
    group_2 e p q = ap₂ ◌+◌ p q ∙ atoms_group T ∙ ap gs (sym e)

    module _ {k x v y : ℕ} (p : k ≡ items_of t g) (q : x ≡ k) (u : v ≡ w) (r : y ≡ fixed_size v g) where
      size_is : y ≡ fixed_size w g
      size_is = r ∙ ap (λ (b : ℕ). fixed_size b g) u

      pub product_fits : x * y ≤ 39000
      product_fits =
          mul-le-mul {n₂ = 500} {m₂ = 78}
          (subst (λ (n : ℕ). n ≤ 500) (sym (q ∙ p ∙ items_is T g)) (items_fit G T.limits g))
          (subst (λ (n : ℕ). n ≤ 78) (sym size_is) (size_fits g w (elements.width_pos G t hs ss bs ks xs ys T) sizes_in.bits).1)

      pub group_rest : 0 < g → g ≤ 5 → (g ≡ 1 → ⊥) → (g ≡ 2 → ⊥) → x * y ≡ gs g
      group_rest h l a b = ap₂ ◌*◌ (q ∙ p) size_is ∙ fixed_group T g h (omega (arith, l)) (fixed_of g a b l)
