-- The width: computed, by the table and by leading zeros, it is the smallest w with 2^w at least n + 2.
-- Assumes nothing.
use Prim.Native.Nat.{ℕ, zero, suc, pred, ◌+◌, ◌-◌, ◌^◌, ◌≤◌, ◌<◌}
use native.Mathlib.Nat.{le_antisymm, le_trans, pow-succ'}
use native.Mathlib.Omega.{arith}
use lib.Pow.{pow_mono}
use lib.Count.{count_leading_zeros, leading_top}
use lib.Dec.{leb, eqb, lit≤}
use lib.ListN.{get_or}
use mathlib.Core.Path.{◌≡◌, refl, sym, subst}
use mathlib.Core.Logic.{◌↔◌, ⊎_elim}
use mathlib.Core.Bool.{Bool, true, So}
use borrow.Author.Tests.{leb-true, le-leb, eqb-true}
use Rattle.lists.specs.Lists.{first, all_to}
use Rattle.lists.proofs.Tests.{le_or_lt, all_to_at}
use Rattle.lists.proofs.First.{first_is, first_pos, first_le}
use Rattle.encoding.specs.Width.{IsWidth, bits_for, width, widest, table_width}

pub width_unique : (n v w : ℕ) → IsWidth n v → IsWidth n w → v ≡ w
width_unique n v w p q = le_antisymm (p.least w q.enough) (q.least v p.enough)

below_power : (x : ℕ) → x < 2 ^ x
below_power zero = omega arith
below_power (suc x) = omega (arith, below_power x, pow-succ' 2 x)

-- a test of the numbers 1 to k that passes exactly where n + 2 fits, and at k, finds the width
found : (n k : ℕ) (p : ℕ → Bool) → ((i : ℕ) → i < k → So (p (suc i)) ↔ (n + 2 ≤ 2 ^ suc i)) → (l : ℕ) → l < k → n + 2 ≤ 2 ^ suc l → IsWidth n (first k p)
found n k p e l h wide =
    record { enough = passes (first k p) refl; least = least }
  where
    passes : (f : ℕ) → first k p ≡ f → n + 2 ≤ 2 ^ f
    passes zero q = absurd (omega (arith, first_pos k p l h ((e l h).1 wide), q))
    passes (suc f) q =
        (e f (subst (λ (x : ℕ). x ≤ k) q (first_is k p).within)).0
        (subst (λ (x : ℕ). So (p x)) q ((first_is k p).passes (subst (λ (x : ℕ). zero < x) (sym q) (omega arith))))

    least : (v : ℕ) → n + 2 ≤ 2 ^ v → first k p ≤ v
    least zero g = absurd (omega arith)
    least (suc v) g =
        ⊎_elim (λ (b : k ≤ v). le_trans (first_is k p).within (omega arith)) (λ (b : v < k). first_le k p v b ((e v b).1 g)) (le_or_lt k v)

pub width_is : (n : ℕ) → IsWidth n (width n)
unfolding bits_for
width_is n =
    found n (n + 2) (λ w. leb (n + 2) (2 ^ w)) (λ i h. (leb-true (n + 2) (2 ^ suc i), le-leb (n + 2) (2 ^ suc i))) (n + 1) (omega arith)
    (omega (arith, below_power (suc (n + 1))))

pub width_enough : (n : ℕ) → n + 2 ≤ 2 ^ width n
width_enough n = (width_is n).enough

-- the table's rule, computed once over the whole table
rule : all_to 7 (λ w. eqb (get_or widest (pred w) 0 + 2) (2 ^ w)) ≡ true
rule = refl

entry : (i : ℕ) → i < 7 → get_or widest i 0 + 2 ≡ 2 ^ suc i
entry i h = eqb-true (get_or widest i 0 + 2) (2 ^ suc i) (all_to_at 7 (λ w. eqb (get_or widest (pred w) 0 + 2) (2 ^ w)) rule i h)

pub table_is : (n : ℕ) → n ≤ 126 → IsWidth n (table_width n)
unfolding table_width
table_is n h =
    found n 7 (λ w. leb n (get_or widest (pred w) 0))
    (λ i l. (λ t. omega (arith, leb-true n (get_or widest i 0) t, entry i l), λ g. le-leb n (get_or widest i 0) (omega (arith, g, entry i l)))) 6 (lit≤ tt)
    (omega arith)

pub width_table : (n : ℕ) → n ≤ 126 → width n ≡ table_width n
width_table n h = width_unique n (width n) (table_width n) (width_is n) (table_is n h)

-- the bits of n + 1: their number is what the leading zeros leave of b
pub zeros_is : (b n : ℕ) → n + 1 < 2 ^ b → IsWidth n (b - count_leading_zeros b (n + 1))
zeros_is b n h =
    let q = leading_top b (n + 1) (omega arith) h in
    subst (IsWidth n) (omega (arith, q.1))
    (record { enough = omega (arith, q.3); least = least q.0 q.2 })
  where
    least : (j : ℕ) → 2 ^ j ≤ n + 1 → (v : ℕ) → n + 2 ≤ 2 ^ v → suc j ≤ v
    least j l v g = ⊎_elim (λ (k : suc j ≤ v). k) (λ (k : v < suc j). absurd (omega (arith, pow_mono {i = v} {j = j} (omega arith)))) (le_or_lt (suc j) v)

pub width_zeros : (b n : ℕ) → n + 1 < 2 ^ b → width n ≡ b - count_leading_zeros b (n + 1)
width_zeros b n h = width_unique n (width n) (b - count_leading_zeros b (n + 1)) (width_is n) (zeros_is b n h)

-- a width is at least 1
pub width_some : (n : ℕ) → 0 < width n
width_some n = go (width n) (width_enough n)
  where
    go : (w : ℕ) → n + 2 ≤ 2 ^ w → 0 < w
    go zero h = omega (arith, h)
    go (suc w) h = omega arith
