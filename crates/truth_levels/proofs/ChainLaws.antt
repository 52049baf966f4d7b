-- The chains of group 5, over an assignment and plain numbers.
--   chain_first_lem, chain_more, chain_all  a chain's first bit, one bit more, and all bits
--   bit_first, bit_further                the variables of a chain's bit have bytes
--   body_after, head_after, next_after, below_after, next_below_after    those of a pair have bytes
--   pair_is                               both chains of a pair
-- Assumes nothing.
use Prim.Native.Nat.{ℕ, suc, pred, ◌+◌, ◌≤◌, ◌<◌}
use native.Mathlib.Nat.{le_refl, le_trans}
use native.Mathlib.Numerals.{add-one}
use native.Mathlib.Omega.{arith}
use mathlib.Core.Path.{◌≡◌, refl, ◌∙◌, ap, ap₂}
use mathlib.Core.Bool.{Bool, ◌&&◌}
use mathlib.Core.List.{List}
use lib.ListN.{length}
use Rattle.lists.specs.Lists.{all_to}
use Rattle.encoding.specs.Literal.{Assignment}
use Rattle.encoding.specs.Variables.{Sizes, level_var, next_var, below_var, next_below_var, var_count}
use Rattle.clause_literals.specs.Sizes.{Bounded}
use Rattle.clause_literals.proofs.Products.{twice_atoms_fit, below_fits as small-below}
use Rattle.clause_chains.specs.declared.Chain.{Chain}
use Rattle.clause_chains.specs.Chain.{chain_with}
use Rattle.truth_literals.specs.Clauses.{Has, BitIn, bit_true}
use Rattle.truth_literals.proofs.BitLaws.{further_bit}
use Rattle.truth_literals.proofs.Gathered.{all_more, all_done}
use Rattle.truth_literals.proofs.Variables.{count_grows, level_fits, next_fits, below_fits, next_below_fits}
use Rattle.truth_levels.specs.Levels.{After, ChainIn, PairIn, chain_bit_true, chain_true, pair_true}

module _ (A : Assignment) (z x y : ℕ) {c : Chain} where
  pub chain_first_lem : c ≡ chain_with (z + 1) (x + 1) (y + 1) (z + pred 1) → {r : Bool} → r ≡ bit_true A c 1 → r ≡ all_to 1 (chain_bit_true A z x y)
  chain_first_lem q e = e ∙ ap (λ (c : Chain). bit_true A c 1) q

  pub chain_more : (i : ℕ) → 0 < i → c ≡ chain_with (z + (i + 1)) (x + (i + 1)) (y + (i + 1)) (z + pred (i + 1))
      → {p r : Bool} → p ≡ all_to i (chain_bit_true A z x y) → r ≡ bit_true A c 2 → (p && r) ≡ all_to (i + 1) (chain_bit_true A z x y)
  chain_more i h q e d =
      all_more (chain_bit_true A z x y) i e
      (further_bit A c {i = suc i} (λ s. omega (arith, s, h)) d
      ∙ ap (λ (c : Chain). bit_true A c (suc i)) (q ∙ ap (λ (k : ℕ). chain_with (z + k) (x + k) (y + k) (z + pred k)) (add-one i)))

pub chain_all : (A : Assignment) (z x y i : ℕ) {w : ℕ} {p : Bool} → p ≡ all_to i (chain_bit_true A z x y) → i ≤ w → w ≤ i → p ≡ chain_true A w z x y
unfolding chain_true
chain_all A z x y i e h l = all_done (chain_bit_true A z x y) i e h l

-- ---- variables that have bytes

module _ (bs : List ℕ) (w z x y : ℕ) (H : ChainIn bs w z x y) {c : Chain} where
  -- those of bit j
  bit_in : (i j : ℕ) → 0 < j → j ≤ w → c.z.0 ≡ z + j → c.x.0 ≡ x + j → c.y.0 ≡ y + j → ((i ≡ 1 → ⊥) → Has bs c.g.0) → BitIn bs c i
  bit_in i j m l p q s g = record { z_in = has z H.2 p; x_in = has x H.3 q; y_in = has y H.4 s; g_in = g }
    where
      has : (o : ℕ) {v : ℕ} → After bs w o → v ≡ o + j → Has bs v
      has o f e = (omega (arith, e, m), omega (arith, e, f, l))

  pub bit_first : c ≡ chain_with (z + 1) (x + 1) (y + 1) (z + pred 1) → BitIn bs c 1
  bit_first q =
      bit_in 1 1 (omega arith) (omega (arith, H.0)) (ap (λ (c : Chain). c.z.0) q) (ap (λ (c : Chain). c.x.0) q) (ap (λ (c : Chain). c.y.0) q)
      (λ n. absurd (n refl))

  pub bit_further : (i : ℕ) → 0 < i → i < w → c ≡ chain_with (z + (i + 1)) (x + (i + 1)) (y + (i + 1)) (z + pred (i + 1)) → BitIn bs c 2
  bit_further i h m q =
      bit_in 2 (i + 1) (omega arith) (omega (arith, m)) (ap (λ (c : Chain). c.z.0) q) (ap (λ (c : Chain). c.x.0) q) (ap (λ (c : Chain). c.y.0) q)
      (λ n. (omega (arith, before, h), omega (arith, before, m, H.2.1)))
    where
      before : c.g.0 ≡ z + i
      before = ap (λ (c : Chain). c.g.0) q ∙ ap (λ (k : ℕ). z + pred k) (add-one i)

-- those of a pair, of its body atom and of its head
module _ {bs : List ℕ} {S : Sizes} {k b h : ℕ} (H : PairIn bs S k b h) (B : Bounded S) where
  small : var_count S 0 ≤ 2890
  small = omega (arith, B.atoms, B.rules, twice_atoms_fit S B)

  fewer : var_count S 0 ≤ length bs
  fewer = le_trans (count_grows S 0 k (omega arith)) H.bytes

  level_after_lem : (a : ℕ) → 0 < a → a ≤ S.n → {v : ℕ} → v ≡ level_var S a 0 → After bs S.w v
  level_after_lem a p l e = (omega (arith, e, f, small), omega (arith, e, f, fewer))
    where
      f : level_var S a S.w ≤ var_count S 0
      f = level_fits S a S.w 0 p l (le_refl S.w)

  pub body_after : {v : ℕ} → v ≡ level_var S b 0 → After bs S.w v
  body_after e = level_after_lem b H.body_some H.body_among e

  pub head_after : {v : ℕ} → v ≡ level_var S h 0 → After bs S.w v
  head_after e = level_after_lem h H.head_some H.head_among e

  pub next_after : {v : ℕ} → v ≡ next_var S b 0 → After bs S.w v
  next_after e = (omega (arith, e, f, small), omega (arith, e, f, fewer))
    where
      f : next_var S b S.w ≤ var_count S 0
      f = next_fits S b S.w 0 H.body_some H.body_among (le_refl S.w)

  below_small : below_var S k S.w ≤ 9883
  below_small = small-below S B k S.w H.few B.bits

  pub below_after : {v : ℕ} → v ≡ below_var S k 0 → After bs S.w v
  below_after e = (omega (arith, e, below_small), omega (arith, e, below_fits S k S.w k H.some (le_refl k) (le_refl S.w), H.bytes))

  pub next_below_after : {v : ℕ} → v ≡ next_below_var S k 0 → After bs S.w v
  next_below_after e =
      (omega (arith, e, below_small, B.bits), omega (arith, e, next_below_fits S k S.w k H.some (le_refl k) (le_refl S.w), H.bytes))

-- ---- the two chains of a pair

pub pair_is : (A : Assignment) (S : Sizes) (k b h : ℕ) {z x y u v : ℕ} → z ≡ below_var S k 0 → x ≡ level_var S b 0 → y ≡ level_var S h 0 → u ≡ next_below_var S k 0
    → v ≡ next_var S b 0 → {p q : Bool} → p ≡ chain_true A S.w z x y → q ≡ chain_true A S.w u v y → (p && q) ≡ pair_true A S k b h
unfolding pair_true
pair_is A S k b h {z} {x} {y} {u} {v} c d e f g p q =
    ap₂ ◌&&◌ (p ∙ (λ t. chain_true A S.w (c t) (d t) (e t))) (q ∙ (λ t. chain_true A S.w (f t) (g t) (e t)))
