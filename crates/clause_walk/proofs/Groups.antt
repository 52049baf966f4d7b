-- What each group has, every group has.
--   every_group     a property of each group is one of the group of any number
--   Last g          g is none of the numbers 1 to 6
--   by_number       what holds of the numbers 1 to 6 and of every other one holds of all
--   last_group      every other number is that of the last group
--   items_by, blocks_by   how many items and blocks there are, by the numbers that differ
-- Assumes nothing.
use Prim.Native.Nat.{ℕ, suc, ◌+◌}
use mathlib.Core.Path.{◌≡◌, refl, sym, ◌∙◌, ap, subst}
use mathlib.Core.Bool.{Bool, true, false, cond}
use lib.Dec.{eqb}
use borrow.Author.Tests.{ne_eqb, eqb-true, eqb-false}
use Rattle.encoding.specs.Code.{Code, pair_total}
use Rattle.clause_walk.specs.Walk.{Group, body_group, head_group, zero_group, next_group, pair_group, rule_group, founded_group, group_of, rule_count, item_count, block_count}

module _ (G : Code) (Q : Group → Type 0) where
  either : (b : Bool) {x y : Group} → Q x → Q y → Q (cond b x y)
  either true p q = p
  either false p q = q

  pub every_group : Q (body_group G) → Q (head_group G) → Q (zero_group G) → Q (next_group G) → Q (pair_group G) → Q (rule_group G) → Q (founded_group G)
      → (g : ℕ) → Q (group_of G g)
  unfolding group_of
  every_group bs hs zs ns ps rs fs g =
      either (eqb g 1) bs (either (eqb g 2) hs (either (eqb g 3) zs (either (eqb g 4) ns (either (eqb g 5) ps (either (eqb g 6) rs fs)))))

pub record Last (g : ℕ) : Type 0 where
  pub not1 : g ≡ 1 → ⊥
  pub not2 : g ≡ 2 → ⊥
  pub not3 : g ≡ 3 → ⊥
  pub not4 : g ≡ 4 → ⊥
  pub not5 : g ≡ 5 → ⊥
  pub not6 : g ≡ 6 → ⊥

module _ (Q : ℕ → Type 0) (g : ℕ) where
  -- g is k or is not
  at : (k : ℕ) → Q k → ((g ≡ k → ⊥) → Q g) → Q g
  at k p q = go (eqb g k) refl
    where
      go : (b : Bool) → eqb g k ≡ b → Q g
      go true e = subst Q (sym (eqb-true g k e)) p
      go false e = q (eqb-false g k e)

  pub by_number : Q 1 → Q 2 → Q 3 → Q 4 → Q 5 → Q 6 → (Last g → Q g) → Q g
  by_number q1 q2 q3 q4 q5 q6 q =
      at 1 q1
      (λ n1. at 2 q2
      (λ n2. at 3 q3
      (λ n3. at 4 q4
      (λ n4. at 5 q5 (λ n5. at 6 q6 (λ n6. q (record { not1 = n1; not2 = n2; not3 = n3; not4 = n4; not5 = n5; not6 = n6 })))))))

pub last_group : (G : Code) (g : ℕ) → Last g → group_of G g ≡ founded_group G
unfolding group_of
last_group G g f =
    simp (ne_eqb g 1 f.not1, ne_eqb g 2 f.not2, ne_eqb g 3 f.not3, ne_eqb g 4 f.not4, ne_eqb g 5 f.not5, ne_eqb g 6 f.not6)

module _ (G : Code) (g : ℕ) where
  pub items_by : item_count G g ≡ cond (eqb g 1) (rule_count G) (cond (eqb g 5) (pair_total G) (cond (eqb g 6) (rule_count G) G.n))
  unfolding item_count group_of
  items_by =
      by_number (λ g. item_count G g ≡ cond (eqb g 1) (rule_count G) (cond (eqb g 5) (pair_total G) (cond (eqb g 6) (rule_count G) G.n))) g
      refl refl refl refl refl refl
      (λ f. ap (λ (x : Group). x.items) (last_group G g f) ∙ sym (simp (ne_eqb g 1 f.not1, ne_eqb g 5 f.not5, ne_eqb g 6 f.not6)))

  pub blocks_by : block_count G g ≡ cond (eqb g 2) (suc (rule_count G)) (cond (eqb g 4) G.w (cond (eqb g 5) (G.w + G.w) 1))
  unfolding block_count group_of
  blocks_by =
      by_number (λ g. block_count G g ≡ cond (eqb g 2) (suc (rule_count G)) (cond (eqb g 4) G.w (cond (eqb g 5) (G.w + G.w) 1))) g
      refl refl refl refl refl refl
      (λ f. ap (λ (x : Group). x.blocks) (last_group G g f) ∙ sym (simp (ne_eqb g 2 f.not2, ne_eqb g 4 f.not4, ne_eqb g 5 f.not5)))
