-- The slots that `past_empty` passes, in a code whose tables are given.
--   Passed G g a i y l r    no slot of the clause after slot l, up to slot r, holds a literal
--   passed                    so it is with what `past_empty` gives
--   passed_each               the literals of the first r slots are those of the first l
-- Assumes nothing.
use Prim.Native.Nat.{ℕ, zero, suc, ◌+◌, ◌-◌, ◌≤◌, ◌<◌}
use native.Mathlib.Nat.{le_refl, zero-add, suc-add}
use native.Mathlib.Omega.{arith}
use mathlib.Core.Path.{◌≡◌, refl, sym, ◌∙◌, ap, subst}
use mathlib.Core.Bool.{Bool, true, false, cond}
use mathlib.Core.List.{List, [], ◌++◌, append-nil}
use lib.Dec.{eqb, ltb}
use lib.ListN.{take}
use borrow.Author.Tests.{eqb-true, ltb-true}
use Rattle.lists.specs.Lists.{each}
use Rattle.encoding.specs.Code.{Code, code_sizes}
use Rattle.encoding.specs.Variables.{body_var, founds_var}
use Rattle.clause_walk.specs.Walk.{heads_of, slots, slot, of_head, At}
use Rattle.clause_tables.specs.declared.Totals.{Totals}
use Rattle.clause_tables.specs.Tables.{Tabled}
use Rattle.clause_table_laws.proofs.Elements as elements
use Rattle.clause_heads.specs.NextHead.{past_others, past_empty}
use Rattle.clause_heads.proofs.NextHeads.{next_from, next_in, others_empty}
use Rattle.clause_walk.proofs.Groups.{Last}
use Rattle.clause_layout.proofs.Groups.{last_slot, heads_in_lem, slots_last, slots_supported, supported_slot}

-- the numbers from l + 1 to r add nothing
each_past : {A : Type 0} (f : ℕ → List A) (l r : ℕ) → l ≤ r → ((q : ℕ) → l < q → q ≤ r → f q ≡ []) → each r f ≡ each l f
each_past {A} f l r h none = ap (λ (n : ℕ). each n f) (sym (whole l r h)) ∙ go (r - l) (omega (arith, h))
  where
    whole : (l r : ℕ) → l ≤ r → (r - l) + l ≡ r
    whole l r h = omega (arith, h)

    go : (d : ℕ) → d + l ≤ r → each (d + l) f ≡ each l f
    go zero n = ap (λ (k : ℕ). each k f) (zero-add l)
    go (suc d) n =
        ap (λ (k : ℕ). each k f) (suc-add d l)
        ∙ ap (λ (xs : List A). each (d + l) f ++ xs) (none (suc (d + l)) (omega arith) (omega (arith, n))) ∙ append-nil (each (d + l) f)
        ∙ go d (omega (arith, n))

pub record Passed (G : Code) (g a i y l r : ℕ) : Type 0 where
  pub on : l ≤ r
  pub within : r ≤ slots G g a i y
  pub empty : (q : ℕ) → l < q → q ≤ r → slot G g a i y q ≡ []

pub passed_each : {G : Code} {g a i y l r : ℕ} → Passed G g a i y l r → each r (slot G g a i y) ≡ each l (slot G g a i y)
passed_each {G} {g} {a} {i} {y} {l} {r} p = each_past (slot G g a i y) l r p.on p.empty

module _ {G : Code} {t : Totals} {hs ss bs ks xs ys : List ℕ} (T : Tabled G t hs ss bs ks xs ys) {g a i y : ℕ} (A : At G g a i y) {l : ℕ} (p : 0 < l) (h : l ≤ slots G g a i y) where
  abbrev m : ℕ
  m = t.sizes.m

  -- the slots of groups 2 and 7 that stand for rules
  by_heads : (v : ℕ → ℕ) → m + 1 ≡ slots G g a i y → ((q : ℕ) → slot G g a i y q ≡ of_head (heads_of G) a v q)
      → Passed G g a i y l (past_others (take m hs) a l)
  by_heads v e f =
      record {
        on = omega (arith, next_from (take m hs) a (l - 1));
        within = subst (λ (k : ℕ). past_others (take m hs) a l ≤ k) e (omega (arith, next_in hs m a (l - 1) (heads_in_lem T A.block_at) (omega (arith, subst (λ (k : ℕ). l ≤ k) (sym e) h))));
        empty = λ q n k. f q ∙ others_empty (heads_of G) a v l q p n (subst (λ (xs : List ℕ). q ≤ past_others xs a l) (elements.heads_taken G t hs ss bs ks xs ys T) k);
      }

  stay : Passed G g a i y l l
  stay = record { on = le_refl l; within = h; empty = λ q n k. absurd (omega (arith, n, k)) }

  last7 : g ≡ 7 → Last g
  last7 e =
      record {
        not1 = λ q. omega (arith, e, q);
        not2 = λ q. omega (arith, e, q);
        not3 = λ q. omega (arith, e, q);
        not4 = λ q. omega (arith, e, q);
        not5 = λ q. omega (arith, e, q);
        not6 = λ q. omega (arith, e, q);
      }

  pub passed : {r : ℕ} → r ≡ past_empty m hs g a i l → Passed G g a i y l r
  passed {r} u = subst (Passed G g a i y l) (sym u) (go (eqb g 7) (eqb g 2) (ltb m i) refl refl refl)
    where
      go : (b c d : Bool) → eqb g 7 ≡ b → eqb g 2 ≡ c → ltb m i ≡ d
          → Passed G g a i y l (cond b (past_others (take m hs) a l) (cond c (cond d (past_others (take m hs) a l) l) l))
      go true c d u v z =
          let f : Last g = last7 (eqb-true g 7 u) in by_heads (founds_var (code_sizes G)) (slots_last T A f) (λ q. last_slot G g a i y q f)
      go false true true u v z =
          by_heads (body_var (code_sizes G)) (slots_supported T A (eqb-true g 2 v) (ltb-true m i z)) (λ q. supported_slot T A q (eqb-true g 2 v) (ltb-true m i z))
      go false true false u v z = stay
      go false false d u v z = stay
