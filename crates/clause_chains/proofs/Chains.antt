-- The slots of group 5, from the variables of the block's bit.
--   with_first, with_second   the variables of a block of the first chain, and of the second, as code computes them
--   chain_slot_is, by_chain   a slot of the block is that of the bit with these variables
-- Assumes nothing.
use Prim.Native.Nat.{ℕ, pred, ◌-◌, ◌≤◌, ◌<◌}
use mathlib.Core.Path.{◌≡◌, refl, sym, ◌∙◌, ap, ap₂}
use mathlib.Core.Bool.{Bool, true, false, cond}
use lib.Dec.{leb}
use borrow.Author.Tests.{le-leb, lt-leb}
use Rattle.encoding.specs.Variables.{Sizes, level_var, next_var, below_var, next_below_var}
use Rattle.clause_literals.proofs.Products.{one_before}
use Rattle.clause_walk.specs.Walk.{chain_slot, chain_bit, slot5}
use Rattle.numbers.specs.declared.Var.{Var}
use Rattle.clause_chains.specs.declared.Chain.{Chain}
use Rattle.clause_chains.specs.Chain.{chain_with, chain_of}

module _ (S : Sizes) (k b h i : ℕ) where
  -- the variables of a block of the first chain where d holds, else of the second
  abbrev block_of : Bool → Chain
  block_of d =
      cond d (chain_with (below_var S k i) (level_var S b i) (level_var S h i) (below_var S k (pred i)))
      (chain_with (next_below_var S k (i - S.w)) (next_var S b (i - S.w)) (level_var S h (i - S.w)) (next_below_var S k (pred (i - S.w))))

  pub with_first : i ≤ S.w → {z x y g : Var} → z.0 ≡ below_var S k i → x.0 ≡ level_var S b i → y.0 ≡ level_var S h i → g.0 ≡ below_var S k (i - 1)
      → record { z = z; x = x; y = y; g = g } ≡ chain_of S k b h i
  with_first l p q r s =
      (λ t. chain_with (p t) (q t) (r t) ((s ∙ ap (below_var S k) (one_before i)) t))
      ∙ sym (ap block_of (le-leb i S.w l))

  pub with_second : S.w < i → {z x y g : Var} → z.0 ≡ next_below_var S k (i - S.w) → x.0 ≡ next_var S b (i - S.w) → y.0 ≡ level_var S h (i - S.w)
      → g.0 ≡ next_below_var S k (i - S.w - 1) → record { z = z; x = x; y = y; g = g } ≡ chain_of S k b h i
  with_second l p q r s =
      (λ t. chain_with (p t) (q t) (r t) ((s ∙ ap (next_below_var S k) (one_before (i - S.w))) t))
      ∙ sym (ap block_of (lt-leb i S.w l))

  pub chain_slot_is : (y l : ℕ) → chain_slot (chain_of S k b h i).z.0 (chain_of S k b h i).x.0 (chain_of S k b h i).y.0 (chain_of S k b h i).g.0 (chain_bit S.w i) y l ≡ slot5 S k b h i y l
  chain_slot_is y l = go (leb i S.w)
    where
      go : (d : Bool) → chain_slot (block_of d).z.0 (block_of d).x.0 (block_of d).y.0 (block_of d).g.0 (cond d i (i - S.w)) y l
          ≡ cond d (chain_slot (below_var S k i) (level_var S b i) (level_var S h i) (below_var S k (pred i)) i y l)
          (chain_slot (next_below_var S k (i - S.w)) (next_var S b (i - S.w)) (level_var S h (i - S.w)) (next_below_var S k (pred (i - S.w))) (i - S.w) y l)
      go true = refl
      go false = refl

  pub by_chain : (y l : ℕ) {c : Chain} {j : ℕ} → c ≡ chain_of S k b h i → j ≡ chain_bit S.w i
      → chain_slot c.z.0 c.x.0 c.y.0 c.g.0 j y l ≡ slot5 S k b h i y l
  by_chain y l p q = ap₂ (λ (c : Chain) (j : ℕ). chain_slot c.z.0 c.x.0 c.y.0 c.g.0 j y l) p q ∙ chain_slot_is y l
