-- What the clauses of groups 2 and 5 to 7 (document 01, "Clauses, in order") say of an atom, a pair or a rule, with counters of w bits under the assignment A.
--   SomeRule P p a           some rule with head a passes the test p of its number
--   ComparesPair P w A k i   the two chains of pair k compare the lowest i bits
--   FoundsRule P w A r       what group 6 says of rule r
-- Assumes nothing.
use Rattle.std.specs.Prelude.{ℕ, zero, ◌≤◌, ◌<◌, ◌≡◌, Bool, not, ◌&&◌, [], ltb, length}
use Rattle.std.proofs.Math.Bool.{So}
use Rattle.lists.specs.Lists.{all, any}
use Rattle.meaning.specs.Program.{Program, rule_at}
use Rattle.encoding.specs.Literal.{Assignment}
use Rattle.encoding.specs.Variables.{body_var, founds_var, level_var, next_var, below_var, next_below_var}
use Rattle.encoding.specs.Counter.{value}
use Rattle.encoding.specs.Clauses.{sizes, pairs, pair_at, pairs_of}
use Rattle.encoding.specs.Fill.{counter}

pub record SomeRule (P : Program) (p : ℕ → Bool) (a : ℕ) : Type 0 where
  pub rule : ℕ
  pub from_one : zero < rule
  pub is_rule : rule ≤ length P.rules
  pub its_head : (rule_at P.rules rule).head ≡ a
  pub passes : So (p rule)

pub record ComparesPair (P : Program) (w : ℕ) (A : Assignment) (k i : ℕ) : Type 0 where
  -- p(k,i) is true exactly if the lowest i bits of the level of the body atom are below those of the level of the head
  pub level_below : A (below_var (sizes P w) k i)
      ≡ ltb (value (λ j. A (level_var (sizes P w) (pair_at (pairs P) k).body j)) i) (value (λ j. A (level_var (sizes P w) (pair_at (pairs P) k).head j)) i)
  -- q(k,i) exactly if those of the next of the body atom are
  pub next_below : A (next_below_var (sizes P w) k i)
      ≡ ltb (value (λ j. A (next_var (sizes P w) (pair_at (pairs P) k).body j)) i) (value (λ j. A (level_var (sizes P w) (pair_at (pairs P) k).head j)) i)

pub record FoundsRule (P : Program) (w : ℕ) (A : Assignment) (r : ℕ) : Type 0 where
  -- s(r) is true exactly if t(r) is and p(k,w) is for each of its pairs
  pub founds : A (founds_var (sizes P w) r) ≡ (A (body_var (sizes P w) r) && all (λ k. A (below_var (sizes P w) k w)) (pairs_of P r))
  -- where t(r) is true and B is empty, the counter of the head is 1
  pub at_one : So (A (body_var (sizes P w) r)) → (rule_at P.rules r).positive ≡ [] → counter (sizes P w) A (rule_at P.rules r).head ≡ 1
  -- where t(r) is true and B is not empty, q(k,w) is false for some one of its pairs
  pub lowest : So (A (body_var (sizes P w) r)) → zero < length (rule_at P.rules r).positive
      → So (any (λ k. not (A (next_below_var (sizes P w) k w))) (pairs_of P r))
