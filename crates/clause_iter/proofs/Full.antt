-- The slots of a clause that hold a literal, in a code whose tables are given.
--   slots_some   there is a first slot
--   full_first   it does
--   full_past    the slot behind those that `past_empty` passes does
-- Assumes nothing.
use Prim.Native.Nat.{ℕ, zero, suc, pred, ◌+◌, ◌-◌, ◌≤◌, ◌<◌}
use native.Mathlib.Omega.{arith}
use mathlib.Core.Path.{◌≡◌, refl, sym, ◌∙◌, ap, subst}
use mathlib.Core.Bool.{Bool, true, false, cond}
use mathlib.Core.List.{List, [], ◌∷◌}
use mathlib.Core.Logic.{◌⊎◌, inl, inr, ◌≢◌}
use lib.Dec.{eqb, ltb, leb}
use lib.ListN.{length, get_or, take}
use lib.Seq.{length-take-le}
use borrow.Author.Tests.{eq-eqb, eqb-true, eqb-false, lt-ltb}
use Rattle.lists.proofs.Tests.{le_or_lt}
use Rattle.encoding.specs.Code.{Code, code_sizes}
use Rattle.encoding.specs.Literal.{Literal, var, −◌}
use Rattle.encoding.specs.Variables.{body_var, founds_var}
use Rattle.clause_walk.specs.Walk.{rule_count, heads_of, head_at, inner_count, body_count, slots, slot, of_head, bit_of, chain_bit, group_of, At}
use Rattle.clause_tables.specs.declared.Totals.{Totals}
use Rattle.clause_tables.specs.Tables.{Tabled}
use Rattle.clause_table_laws.proofs.Elements as elements
use Rattle.clause_heads.specs.NextHead.{next_head, past_others, past_empty}
use Rattle.clause_heads.proofs.NextHeads.{next_at_lem}
use Rattle.clause_layout.proofs.Groups.{heads_in_lem, slots_supported, supported_slot, slot_implied}

cond_some : (b : Bool) {x z : ℕ} → 0 < x → 0 < z → 0 < cond b x z
cond_some true p q = p
cond_some false p q = q

full_one : {x : Literal} {ls : List Literal} → ls ≡ x ∷ [] → ls ≢ []
full_one p e = omega (arith, ap (λ (ls : List Literal). length ls) p, ap (λ (ls : List Literal). length ls) e)

-- a slot of rules: the first one, and that of a rule with this head
abbrev Headed : List ℕ → ℕ → ℕ → Type 0
Headed hs a q = (q ≡ 1) ⊎ (head_at hs (pred q) ≡ a)

full_head : (hs : List ℕ) (a : ℕ) (v : ℕ → ℕ) (q : ℕ) → Headed hs a q → of_head hs a v q ≢ []
full_head hs a v q (inl e) =
    full_one (ap (λ (b : Bool). cond b (− a ∷ []) (cond (eqb (head_at hs (pred q)) a) (var (v (pred q)) ∷ []) [])) (eq-eqb q 1 e))
full_head hs a v q (inr e) = go (eqb q 1)
  where
    go : (b : Bool) → cond b (− a ∷ []) (cond (eqb (head_at hs (pred q)) a) (var (v (pred q)) ∷ []) []) ≢ []
    go true = full_one refl
    go false = full_one (ap (λ (b : Bool). cond b (var (v (pred q)) ∷ []) []) (eq-eqb (head_at hs (pred q)) a e))

module _ {G : Code} {t : Totals} {hs ss bs ks xs ys : List ℕ} (T : Tabled G t hs ss bs ks xs ys) {g a i y : ℕ} (A : At G g a i y) where
  abbrev m : ℕ
  m = t.sizes.m

  seven_slots : g ≡ 7 → m + 1 ≡ slots G g a i y
  unfolding slots group_of
  seven_slots e = omega (arith, elements.rules_are G t hs ss bs ks xs ys T) ∙ ap (λ (k : ℕ). slots G k a i y) (sym e)

  module _ (q : ℕ) where
    full_seven : g ≡ 7 → Headed (heads_of G) a q → slot G g a i y q ≢ []
    unfolding slot group_of
    full_seven e h =
        subst (λ (k : ℕ). slot G k a i y q ≢ []) (sym e) (full_head (heads_of G) a (founds_var (code_sizes G)) q h)

    full_two : g ≡ 2 → (m < i → Headed (heads_of G) a q) → slot G g a i y q ≢ []
    full_two e h = go (le_or_lt i m)
      where
        go : (i ≤ m) ⊎ (m < i) → slot G g a i y q ≢ []
        go (inl n) = full_one (slot_implied T A q e n)
        go (inr n) = subst (λ (ls : List Literal). ls ≢ []) (sym (supported_slot T A q e n)) (full_head (heads_of G) a (body_var (code_sizes G)) q (h n))

    -- the other groups
    full_other : (g ≡ 7 → ⊥) → (g ≡ 2 → ⊥) → slot G g a i y q ≢ []
    unfolding slot group_of
    full_other f h = go g refl A.block_at.group_some A.block_at.group_in
      where
        of_group : (k : ℕ) → g ≡ k → slot G k a i y q ≢ [] → slot G g a i y q ≢ []
        of_group k e = subst (λ (k : ℕ). slot G k a i y q ≢ []) (sym e)

        go : (k : ℕ) → g ≡ k → 0 < k → k ≤ 7 → slot G g a i y q ≢ []
        go zero e p n = absurd (omega (arith, p))
        go (suc zero) e p n = of_group 1 e (full_one refl)
        go (suc (suc zero)) e p n = absurd (h e)
        go (suc (suc (suc zero))) e p n = of_group 3 e (full_one refl)
        go (suc (suc (suc (suc zero)))) e p n = of_group 4 e (full_one refl)
        go (suc (suc (suc (suc (suc zero))))) e p n = of_group 5 e (full_one refl)
        go (suc (suc (suc (suc (suc (suc zero)))))) e p n = of_group 6 e (full_one refl)
        go (suc (suc (suc (suc (suc (suc (suc k))))))) e p n = absurd (f (e ∙ omega (arith, n)))

    full : (g ≡ 7 → Headed (heads_of G) a q) → (g ≡ 2 → m < i → Headed (heads_of G) a q) → slot G g a i y q ≢ []
    full f h = go (eqb g 7) (eqb g 2) refl refl
      where
        go : (b c : Bool) → eqb g 7 ≡ b → eqb g 2 ≡ c → slot G g a i y q ≢ []
        go true c u w = full_seven (eqb-true g 7 u) (f (eqb-true g 7 u))
        go false true u w = full_two (eqb-true g 2 w) (h (eqb-true g 2 w))
        go false false u w = full_other (eqb-false g 7 u) (eqb-false g 2 w)

  pub slots_some : 0 < slots G g a i y
  unfolding slots group_of
  slots_some = go g refl A.block_at.group_some A.block_at.group_in
    where
      of_group : (k : ℕ) → g ≡ k → 0 < slots G k a i y → 0 < slots G g a i y
      of_group k e = subst (λ (k : ℕ). 0 < slots G k a i y) (sym e)

      go : (k : ℕ) → g ≡ k → 0 < k → k ≤ 7 → 0 < slots G g a i y
      go zero e p n = absurd (omega (arith, p))
      go (suc zero) e p n = of_group 1 e (cond_some (leb y (body_count G a)) (omega arith) (omega arith))
      go (suc (suc zero)) e p n = of_group 2 e (cond_some (leb i (rule_count G)) (omega arith) (omega arith))
      go (suc (suc (suc zero))) e p n = of_group 3 e (omega arith)
      go (suc (suc (suc (suc zero)))) e p n = of_group 4 e (cond_some (ltb (bit_of y) i) (omega arith) (omega arith))
      go (suc (suc (suc (suc (suc zero))))) e p n =
          of_group 5 e (cond_some (eqb (chain_bit G.w i) 1) (cond_some (eqb y 3) (omega arith) (omega arith)) (omega arith))
      go (suc (suc (suc (suc (suc (suc zero)))))) e p n =
          let b = inner_count G a in
          of_group 6 e
          (cond_some (leb y (suc b)) (omega arith) (cond_some (eqb y (suc (suc b))) (omega arith) (cond_some (eqb b 0) (omega arith) (omega arith))))
      go (suc (suc (suc (suc (suc (suc (suc zero))))))) e p n = of_group 7 e (omega arith)
      go (suc (suc (suc (suc (suc (suc (suc (suc k)))))))) e p n = absurd (omega (arith, n))

  pub full_first : slot G g a i y 1 ≢ []
  full_first = full 1 (λ e. inl refl) (λ e n. inl refl)

  module _ {l r : ℕ} (p : 0 < l) (s : r < slots G g a i y) where
    -- behind the slots of rules with other heads
    headed : m + 1 ≡ slots G g a i y → r ≡ past_others (take m hs) a l → Headed (heads_of G) a (r + 1)
    headed e u =
        inr
        (ap (λ (xs : List ℕ). get_or xs (pred (pred (r + 1))) 0) (sym (elements.heads_taken G t hs ss bs ks xs ys T))
        ∙ ap (λ (k : ℕ). get_or (take m hs) k 0) at
        ∙ next_at_lem (take m hs) a (l - 1) (omega (arith, u, e, s, length-take-le m hs (heads_in_lem T A.block_at))))
      where
        at : pred (pred (r + 1)) ≡ next_head (take m hs) a (l - 1)
        at = omega (arith, u)

    pub full_past : r ≡ past_empty m hs g a i l → slot G g a i y (r + 1) ≢ []
    full_past u = full (r + 1) (λ e. headed (seven_slots e) (u ∙ seven e)) (λ e n. headed (slots_supported T A e n) (u ∙ two e n))
      where
        seven : g ≡ 7 → past_empty m hs g a i l ≡ past_others (take m hs) a l
        seven e = ap (λ (k : ℕ). past_empty m hs k a i l) e

        two : g ≡ 2 → m < i → past_empty m hs g a i l ≡ past_others (take m hs) a l
        two e n = ap (λ (k : ℕ). past_empty m hs k a i l) e ∙ ap (λ (b : Bool). cond b (past_others (take m hs) a l) l) (lt-ltb m i n)
