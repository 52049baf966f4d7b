-- The blocks of groups 4 and 5, in a code whose tables are given.
--   bit_block_lem, next_block  the lines of a chain's bit, and of a block of group 4, are those of the walk's block
--   bit_short                  the variables of the bit are from 1 to 9,999
--   next_block_asks            what `put_next_block` asks
-- Assumes nothing.
use Prim.Native.Nat.{ℕ, suc, ◌*◌, ◌≤◌, ◌<◌}
use native.Mathlib.Omega.{arith}
use mathlib.Core.Path.{◌≡◌, refl, sym, ◌∙◌, ap, subst}
use mathlib.Core.Bool.{Bool, true, false, cond}
use mathlib.Core.List.{List, [], ◌∷◌}
use lib.Dec.{eqb}
use lib.ListN.{length}
use borrow.Author.Tests.{eqb-true}
use Rattle.lists.specs.Lists.{each}
use Rattle.lists.proofs.Tables.{each_ext}
use Rattle.encoding.specs.Code.{Code}
use Rattle.encoding.specs.Literal.{Literal, variable}
use Rattle.clause_literals.specs.Sizes.{Bounded}
use Rattle.digits.specs.Bytes.{line_text}
use Rattle.digits.proofs.Wrote.{room_as}
use Rattle.clause_walk.specs.Walk.{size, slots, slot, clause_at, slots4, slot4, chain_size, chain_slots, chain_slot, chain_first, chain_next, chain_bit, BlockAt, At}
use Rattle.clause_chains.specs.declared.Chain.{Chain}
use Rattle.clause_tables.specs.declared.Totals.{Totals}
use Rattle.clause_tables.specs.Tables.{Tabled}
use Rattle.clause_table_laws.proofs.Bounds.{Slotted, empty, holds}
use Rattle.clause_layout.specs.BlockChain.{chain_of_block}
use Rattle.clause_layout.proofs.BlockChains.{slot_chain}
use Rattle.clause_layout.proofs.Groups.{bounded, atom4, bits4, size_next, size_pair, slots_next, slots_pair, slot_next}
use Rattle.clause_text.specs.Blocks.{block_text}
use Rattle.clause_numerals.specs.Numbered.{Short}
use Rattle.clause_bits.specs.BitTexts.{chain_clause, bit_text, ShortBit}
use Rattle.clause_blocks.specs.Texts.{next_block_text}
use Rattle.clause_blocks.proofs.NextBlocks.{next_clause, next_blocks}
use Rattle.clause_text.proofs.Clause.{slotted}

abbrev first_variable : List Literal → ℕ
first_variable [] = 0
first_variable (x ∷ xs) = variable x

module _ {G : Code} {t : Totals} {hs ss bs ks xs ys : List ℕ} (T : Tabled G t hs ss bs ks xs ys) where
  abbrev w : ℕ
  w = t.sizes.w

  module _ {g a i : ℕ} (R : BlockAt G g a i) where
    clause_at_lem : (y : ℕ) → y < size G g a i → At G g a i (suc y)
    clause_at_lem y h = record { block_at = R; clause_some = omega arith; clause_in_lem = h }

    -- ---- group 5

    chain_clause_lem : (y : ℕ) → At G g a i y → {c : Chain} {j : ℕ} → g ≡ 5 → c ≡ chain_of_block G a i → j ≡ chain_bit w i → chain_clause c j y ≡ clause_at G g a i y
    chain_clause_lem y A {c} {j} e p q =
        each_ext (chain_slots j y) (λ l. chain_slot c.z.0 c.x.0 c.y.0 c.g.0 j y l ∷ []) (slot G g a i y)
        (λ l h. sym (slot_chain T R y (suc l) e p q)) ∙ ap (λ (n : ℕ). each n (slot G g a i y)) (slots_pair T A e q refl)

    pub bit_block_lem : {c : Chain} {j : ℕ} → g ≡ 5 → c ≡ chain_of_block G a i → j ≡ chain_bit w i → bit_text c j ≡ block_text G g a i
    bit_block_lem {c} {j} e p q =
        each_ext (chain_size j) (λ y. line_text (chain_clause c j y)) (λ y. line_text (clause_at G g a i y))
        (λ y h. ap line_text (chain_clause_lem (suc y) (clause_at_lem y (subst (λ (n : ℕ). y < n) many h)) e p q))
        ∙ ap (λ (n : ℕ). each n (λ y. line_text (clause_at G g a i y))) many
      where
        many : chain_size j ≡ size G g a i
        many = size_pair T R e q refl

    module _ {c : Chain} {j : ℕ} (e : g ≡ 5) (p : c ≡ chain_of_block G a i) (q : j ≡ chain_bit w i) where
      abbrev literal : ℕ → ℕ → Literal
      literal y l = chain_slot c.z.0 c.x.0 c.y.0 c.g.0 j y l

      -- its variable is from 1 to 9,999
      literal_short : (y l : ℕ) → y < chain_size j → l < chain_slots j (suc y) → Short (variable (literal (suc y) (suc l)))
      literal_short y l h k = go (slotted T A (suc l) (omega arith) (subst (λ (n : ℕ). l < n) (slots_pair T A e q refl) k))
        where
          A : At G g a i (suc y)
          A = clause_at_lem y (subst (λ (n : ℕ). y < n) (size_pair T R e q refl) h)

          is : slot G g a i (suc y) (suc l) ≡ literal (suc y) (suc l) ∷ []
          is = slot_chain T R (suc y) (suc l) e p q

          go : Slotted (slot G g a i (suc y) (suc l)) → Short (variable (literal (suc y) (suc l)))
          go (empty r) = absurd (omega (arith, ap length (sym is ∙ r)))
          go (holds z r u v) =
              record { some = subst (λ (n : ℕ). 0 < n) (sym same) u; fits = omega (arith, v, same) }
            where
              same : variable (literal (suc y) (suc l)) ≡ variable z
              same = ap first_variable (sym is ∙ r)

      -- by the test for the first bit
      abbrev named : Bool → ℕ → ℕ → ℕ
      named d y l = variable (cond d (chain_first c.z.0 c.x.0 c.y.0 y l) (chain_next c.z.0 c.x.0 c.y.0 c.g.0 y l))

      pub bit_short : ShortBit c j
      bit_short = go (eqb j 1) refl
        where
          short_at : {d : Bool} → eqb j 1 ≡ d → (y l : ℕ) → y < cond d 3 6 → l < cond d (cond (eqb (suc y) 3) 3 2) 3 → Short (named d (suc y) (suc l))
          short_at r y l h k =
              subst (λ (d : Bool). Short (named d (suc y) (suc l))) r
              (literal_short y l (subst (λ (d : Bool). y < cond d 3 6) (sym r) h) (subst (λ (d : Bool). l < cond d (cond (eqb (suc y) 3) 3 2) 3) (sym r) k))

          go : (d : Bool) → eqb j 1 ≡ d → ShortBit c j
          go true r =
              record {
                short_z = short_at r 0 0 (omega arith) (omega arith);
                short_x = short_at r 0 1 (omega arith) (omega arith);
                short_y = short_at r 1 1 (omega arith) (omega arith);
                short_g = λ f. absurd (f (eqb-true j 1 r));
              }
          go false r =
              record {
                short_z = short_at r 0 0 (omega arith) (omega arith);
                short_x = short_at r 0 1 (omega arith) (omega arith);
                short_y = short_at r 0 2 (omega arith) (omega arith);
                short_g = λ f. short_at r 1 2 (omega arith) (omega arith);
              }

    -- ---- group 4

    next_clause_lem : (y : ℕ) → At G g a i y → g ≡ 4 → next_clause t.sizes a i y ≡ clause_at G g a i y
    next_clause_lem y A e =
        each_ext (slots4 i y) (λ l. (slot4 t.sizes a i y l ∷ [])) (slot G g a i y)
        (λ l h. sym (slot_next T A (suc l) e))
        ∙ ap (λ (n : ℕ). each n (slot G g a i y)) many
      where
        many : slots4 i y ≡ slots G g a i y
        many = slots_next T A e refl

    pub next_block : g ≡ 4 → next_block_text t.sizes a i ≡ block_text G g a i
    next_block e =
        sym (next_blocks t.sizes a i R.block_some)
        ∙ each_ext (2 * i) (λ y. line_text (next_clause t.sizes a i y)) (λ y. line_text (clause_at G g a i y))
        (λ y h. ap line_text (next_clause_lem (suc y) (clause_at_lem y (subst (λ (n : ℕ). y < n) (size_next T R e) h)) e))
        ∙ ap (λ (n : ℕ). each n (λ y. line_text (clause_at G g a i y))) (size_next T R e)

    pub next_block_asks : {n : ℕ} → g ≡ 4 → length (block_text G g a i) ≤ n
        → (0 < a) × (a ≤ 126) × (0 < i) × (i ≤ 7) × (length (next_block_text t.sizes a i) ≤ n)
    next_block_asks {n} e f = (R.item_some, atom4 T R e, R.block_some, bits4 T R e, room_as (next_block e) f)
