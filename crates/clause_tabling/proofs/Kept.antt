-- What the arrays of a stored program hold of rule r (with r rules before it).
--   rule_at_lem      rule r of the program that arrays hold is the one that they hold there
--   Here A P r       rule r of P is held by A: its positive list begins no later than it ends, within the body atoms
--   here             so it is for a stored program
--   size_is          the difference of the starts is the length of the positive list
-- Assumes nothing.
use Prim.Native.Nat.{ℕ, zero, suc, ◌+◌, ◌-◌, ◌*◌, ◌≤◌, ◌<◌}
use native.Mathlib.Nat.{not-suc-le-zero, le_of_suc-le-suc, add-zero}
use native.Mathlib.Omega.{arith}
use mathlib.Core.Path.{◌≡◌, sym, ◌∙◌, ap, subst}
use mathlib.Core.List.{List, [], ◌∷◌, ◌++◌}
use lib.ListN.{length, get_or, take, drop, replicate, length-append, length-drop}
use lib.Seq.{length-take-le}
use Rattle.meaning.specs.Program.{Rule, Program, no_rule, rule_at}
use Rattle.program.specs.declared.Program.{Program as Arrays}
use Rattle.program.specs.Arrays.{kept, ends_of, start_of, rule_in, rules_from, decoded}
use Rattle.text.specs.Limits.{bodies_of}
use Rattle.clause_tables.specs.Tables.{Stored}
use Rattle.clause_tabling.proofs.Held.{rules_many, many_bodies}

-- ---- the rule

rules_from_lem : (A : Arrays) (i k r : ℕ) → r < k → get_or (rules_from A i k) r no_rule ≡ rule_in A (i + r)
rules_from_lem A i zero r h = absurd (not-suc-le-zero h)
rules_from_lem A i (suc k) zero h = ap (rule_in A) (sym (add-zero i))
rules_from_lem A i (suc k) (suc r) h = rules_from_lem A (suc i) k r (le_of_suc-le-suc h) ∙ ap (rule_in A) (next i r)
  where
    next : (i r : ℕ) → suc i + r ≡ i + suc r
    next i r = omega arith

pub rule_at_lem : (A : Arrays) (r : ℕ) → r < A.rules → rule_at (decoded A).rules (suc r) ≡ rule_in A r
unfolding decoded
rule_at_lem A r h = rules_from_lem A 0 A.rules r h ∙ ap (rule_in A) (go r)
  where
    go : (r : ℕ) → 0 + r ≡ r
    go r = omega arith

-- ---- the starts

-- among the starts of rules after j body atoms
record Ordered (xs : List ℕ) (i k : ℕ) : Type 0 where
  rises : get_or xs (2 * i) 0 ≤ get_or xs (2 * i + 1) 0
  within : get_or xs (2 * i + 1) 0 ≤ k

-- after the two starts of a rule in front
further : (x y : ℕ) (xs : List ℕ) (i k l : ℕ) → k ≤ l → Ordered xs i k → Ordered (x ∷ (y ∷ xs)) (suc i) l
further x y xs i k l h o =
    record {
      rises = subst (λ (a : ℕ). get_or (x ∷ (y ∷ xs)) a 0 ≤ get_or (x ∷ (y ∷ xs)) (2 * suc i + 1) 0) (sym (two i))
          (subst (λ (b : ℕ). get_or xs (2 * i) 0 ≤ get_or (x ∷ (y ∷ xs)) b 0) (sym (three i)) o.rises);
      within = subst (λ (b : ℕ). get_or (x ∷ (y ∷ xs)) b 0 ≤ l) (sym (three i)) (omega (arith, o.within, h));
    }
  where
    two : (i : ℕ) → 2 * suc i ≡ suc (suc (2 * i))
    two i = omega arith

    three : (i : ℕ) → 2 * suc i + 1 ≡ suc (suc (2 * i + 1))
    three i = omega arith

bodies_many : (R : Rule) (rs : List Rule) → length (bodies_of (R ∷ rs)) ≡ length R.positive + (length R.negative + length (bodies_of rs))
bodies_many R rs = length-append R.positive (R.negative ++ bodies_of rs) ∙ ap (λ (k : ℕ). length R.positive + k) (length-append R.negative (bodies_of rs))

ends_ordered : (rs : List Rule) (j : ℕ) (zs : List ℕ) (i : ℕ) → i < length rs → Ordered (j ∷ (ends_of j rs ++ zs)) i (j + length (bodies_of rs))
ends_ordered [] j zs i h = absurd (not-suc-le-zero h)
ends_ordered (R ∷ rs) j zs zero h = record { rises = omega arith; within = omega (arith, bodies_many R rs) }
ends_ordered (R ∷ rs) j zs (suc i) h =
    further j (j + length R.positive) _ i (j + length R.positive + length R.negative + length (bodies_of rs)) (j + length (bodies_of (R ∷ rs)))
    (omega (arith, bodies_many R rs)) (ends_ordered rs (j + length R.positive + length R.negative) zs i (le_of_suc-le-suc h))

kept_ordered : (P : Program) (i : ℕ) → i < length P.rules → Ordered (kept P).starts i (0 + length (bodies_of P.rules))
unfolding kept
kept_ordered P i h = ends_ordered P.rules 0 (replicate (1001 - length (0 ∷ ends_of 0 P.rules)) 0) i h

-- ---- together

pub record Here (A : Arrays) (P : Program) (r : ℕ) : Type 0 where
  pub is_rule : r < length P.rules
  pub rises : start_of A (2 * r) ≤ start_of A (2 * r + 1)
  pub within : start_of A (2 * r + 1) ≤ length A.bodies
  pub head_is : get_or A.heads r 0 ≡ (rule_at P.rules (suc r)).head
  pub positive_is : take (start_of A (2 * r + 1) - start_of A (2 * r)) (drop (start_of A (2 * r)) A.bodies) ≡ (rule_at P.rules (suc r)).positive

pub size_is : (A : Arrays) (P : Program) (r : ℕ) → Here A P r → start_of A (2 * r + 1) - start_of A (2 * r) ≡ length (rule_at P.rules (suc r)).positive
size_is A P r h =
    sym (length-take-le (start_of A (2 * r + 1) - start_of A (2 * r)) (drop (start_of A (2 * r)) A.bodies) (omega (arith, h.rises, h.within, length-drop (start_of A (2 * r)) A.bodies)))
    ∙ ap length h.positive_is

pub here : (A : Arrays) → Stored A → (r : ℕ) → r < A.rules → Here A (decoded A) r
here A s r h =
    record {
      is_rule = less;
      rises = subst (λ (B : Arrays). start_of B (2 * r) ≤ start_of B (2 * r + 1)) (sym s.arrays_are) o.rises;
      within = omega (arith, before_end, s.limits.few_bodies, many_bodies A s);
      head_is = sym (ap (λ (R : Rule). R.head) (rule_at_lem A r h));
      positive_is = sym (ap (λ (R : Rule). R.positive) (rule_at_lem A r h));
    }
  where
    less : r < length (decoded A).rules
    less = subst (λ (k : ℕ). r < k) (sym (rules_many A)) h

    o : Ordered (kept (decoded A)).starts r (0 + length (bodies_of (decoded A).rules))
    o = kept_ordered (decoded A) r less

    before_end : start_of A (2 * r + 1) ≤ 0 + length (bodies_of (decoded A).rules)
    before_end = subst (λ (B : Arrays). start_of B (2 * r + 1) ≤ 0 + length (bodies_of (decoded A).rules)) (sym s.arrays_are) o.within
