-- The counts of a loop over the rules of a stored program.
--   few               the first rules of a program, the next one included, have at most 500 pairs
--   below             the next rule is one of the rules
--   Summed A r t      t is the tally of the first r rules of the program that A holds
--   summed_start      before the first rule
--   starts_fit        what the reads of the next rule's starts need
--   body_size, start_size    how many positive body atoms the next rule has, by its list and by its starts
--   tally_fits        what a turn's stores and sums need
--   summed_next       one turn
--   summed_end        after the last rule it is the tally of all
-- Assumes nothing.
use Prim.Native.Nat.{ℕ, suc, ◌+◌, ◌-◌, ◌*◌, ◌≤◌, ◌<◌}
use native.Mathlib.Numerals.{add-one}
use native.Mathlib.Omega.{arith}
use mathlib.Core.Path.{◌≡◌, refl, sym, ◌∙◌, ap, ap₂, subst}
use mathlib.Core.List.{List}
use lib.ListN.{length}
use Rattle.lists.specs.Lists.{sum}
use Rattle.meaning.specs.Program.{Program}
use Rattle.encoding.specs.Clauses.{pair_count, empty_bodies}
use Rattle.program.specs.declared.Program.{Program as Arrays}
use Rattle.program.specs.Arrays.{start_of, list_in, decoded}
use Rattle.text.specs.Limits.{Limits}
use Rattle.clause_tables.specs.Tables.{Stored}
use Rattle.clause_tables.proofs.Sizes.{size_of, none_of, pairs_are, pairs_held, none_sum}
use Rattle.clause_tabling.specs.declared.Tally.{Tally}
use Rattle.clause_tabling.specs.Formula.{when_none}
use Rattle.clause_tabling.specs.Stages.{counted, tally_of}
use Rattle.clause_tabling.proofs.Held.{rules_many, many_starts}
use Rattle.clause_tabling.proofs.Kept.{Here, here, size_is}

pub few : (P : Program) → Limits P → (r : ℕ) → r < length P.rules → sum r (size_of P) + size_of P (suc r) ≤ 500
few P l r h = omega (arith, pairs_held P r h, l.few_bodies)

-- a turn's test
pub below : {r m n : ℕ} → r < m → m ≡ n → r < n
below h e = omega (arith, h, e)

-- the next rule
module _ (A : Arrays) (s : Stored A) (r : ℕ) (h : r < A.rules) where
  next : Here A (decoded A) r
  next = here A s r h

  pub starts_fit : (2 * r + 1 < length A.starts) × (start_of A (2 * r) ≤ start_of A (2 * r + 1))
  starts_fit = (omega (arith, next.is_rule, s.limits.few_rules, many_starts A s), next.rises)

  pub body_size : (body : List ℕ) → body ≡ list_in A (2 * r) → length body ≡ size_of (decoded A) (suc r)
  body_size body e = ap length (e ∙ next.positive_is)

  pub start_size : (k : ℕ) → k ≡ start_of A (2 * r + 1) - start_of A (2 * r) → k ≡ size_of (decoded A) (suc r)
  start_size k e = e ∙ size_is A (decoded A) r next

pub record Summed (A : Arrays) (r : ℕ) (t : Tally) : Type 0 where
  pub in_rules : r ≤ length (decoded A).rules
  pub pairs_sum : t.pairs ≡ sum r (size_of (decoded A))
  pub empty_sum : t.empty ≡ sum r (none_of (decoded A))

pub summed_start : (A : Arrays) → Summed A 0 (record { pairs = 0; empty = 0 })
summed_start A = record { in_rules = omega arith; pairs_sum = refl; empty_sum = refl }

module _ (A : Arrays) (s : Stored A) (r : ℕ) (t : Tally) (f : Summed A r t) where
  abbrev P : Program
  P = decoded A

  pub summed_end : r ≡ A.rules → t ≡ tally_of P
  unfolding empty_bodies
  summed_end q = λ i. record { pairs = pairs_all i; empty = empty_all i }
    where
      whole : r ≡ length P.rules
      whole = q ∙ sym (rules_many A)

      pairs_all : t.pairs ≡ pair_count P
      pairs_all = f.pairs_sum ∙ ap (λ (k : ℕ). sum k (size_of P)) whole ∙ sym (pairs_are P)

      empty_all : t.empty ≡ empty_bodies P
      empty_all = f.empty_sum ∙ ap (λ (k : ℕ). sum k (none_of P)) whole

  -- the next rule, and how many positive body atoms it has
  module _ (h : r < A.rules) (size : ℕ) (e : size ≡ size_of P (suc r)) where
    at : Here A P r
    at = here A s r h

    pub tally_fits : (t.pairs + size ≤ 500) × (t.empty ≤ 500)
    tally_fits = (
      omega (arith, e, f.pairs_sum, few P s.limits r at.is_rule),
      omega (arith, f.empty_sum, none_sum P r, f.in_rules, s.limits.few_rules),
    )

    pub summed_next : Summed A (r + 1) (counted t size)
    summed_next =
        subst (λ (k : ℕ). Summed A k (counted t size)) (sym (add-one r))
        (record {
          in_rules = at.is_rule;
          pairs_sum = ap₂ ◌+◌ f.pairs_sum e;
          empty_sum = ap₂ ◌+◌ f.empty_sum (ap when_none e);
        })
