-- The chain of a block of group 5, and its slots.
-- Assumes nothing.
use Prim.Native.Nat.{ℕ, ◌-◌}
use mathlib.Core.Path.{◌≡◌, refl, sym, ◌∙◌, ap, ap₂, subst}
use mathlib.Core.List.{List, [], ◌∷◌}
use lib.ListN.{get_or}
use Rattle.encoding.specs.Code.{Code, code_sizes, pair_body, pair_head}
use Rattle.encoding.specs.Literal.{Literal}
use Rattle.encoding.specs.Variables.{Sizes}
use Rattle.clause_walk.specs.Walk.{slot, chain_slot, chain_bit, BlockAt, group_of}
use Rattle.clause_chains.specs.declared.Chain.{Chain}
use Rattle.clause_chains.specs.Chain.{chain_of}
use Rattle.clause_chains.proofs.Chains.{by_chain}
use Rattle.clause_tables.specs.declared.Totals.{Totals}
use Rattle.clause_tables.specs.Tables.{Tabled}
use Rattle.clause_table_laws.proofs.Elements as elements
use Rattle.clause_layout.specs.BlockChain.{chain_of_block}
use Rattle.clause_layout.proofs.Groups.{sizes_are, pair5}

pub block_five : {G : Code} {g a i : ℕ} → BlockAt G g a i → g ≡ 5 → BlockAt G 5 a i
block_five {G} {a = a} {i = i} R e = subst (λ (g : ℕ). BlockAt G g a i) e R

module _ {G : Code} {t : Totals} {hs ss bs ks xs ys : List ℕ} (T : Tabled G t hs ss bs ks xs ys) where
  pub chain_pair : {a i b h : ℕ} {c : Chain} → BlockAt G 5 a i → b ≡ get_or xs (a - 1) 0 → h ≡ get_or ys (a - 1) 0 → c ≡ chain_of t.sizes a b h i
      → c ≡ chain_of_block G a i
  unfolding chain_of_block
  chain_pair {a} {i} {b} {h} R p q u =
      u ∙ ap (λ (S : Sizes). chain_of S a b h i) (sizes_are T)
      ∙ ap₂ (λ (b h : ℕ). chain_of (code_sizes G) a b h i) (p ∙ elements.partner_is G t hs ss bs ks xs ys T a R.item_some (pair5 T R refl)) (q ∙ elements.owner_is G t hs ss bs ks xs ys T a R.item_some (pair5 T R refl))

  pub slot_chain : {g a i : ℕ} → BlockAt G g a i → (y l : ℕ) {c : Chain} {j : ℕ} → g ≡ 5 → c ≡ chain_of_block G a i → j ≡ chain_bit t.sizes.w i
      → slot G g a i y l ≡ chain_slot c.z.0 c.x.0 c.y.0 c.g.0 j y l ∷ []
  unfolding slot chain_of_block group_of
  slot_chain {g} {a} {i} R y l e p q =
      ap (λ (k : ℕ). slot G k a i y l) e
      ∙ ap (λ (z : Literal). z ∷ []) (sym (by_chain (code_sizes G) a (pair_body G a) (pair_head G a) i y l p (q ∙ ap (λ (x : ℕ). chain_bit x i) (elements.width_are G t hs ss bs ks xs ys T))))
