-- The first rule from rule k + 1 on whose head is a, by the next head.
--   from_nil      after the last rule there is none
--   from_cons     it is rule k + 1, if that has the head a, or the first one after it
-- Assumes nothing.
use Prim.Native.Nat.{ℕ, suc, ◌≤◌, ◌<◌}
use mathlib.Core.Path.{◌≡◌, ap}
use mathlib.Core.Bool.{cond}
use mathlib.Core.List.{List}
use lib.Dec.{eqb}
use lib.ListN.{length, get_or, drop, drop_of_length-le}
use lib.Seq.{drop-cons}
use Rattle.clause_tables.specs.Links.{rule_from}

module _ (hs : List ℕ) (k a : ℕ) where
  pub from_nil : length hs ≤ k → rule_from (suc k) (drop k hs) a ≡ 0
  unfolding rule_from
  from_nil h = ap (λ (xs : List ℕ). rule_from (suc k) xs a) (drop_of_length-le hs h)

  pub from_cons : k < length hs → rule_from (suc k) (drop k hs) a ≡ cond (eqb (get_or hs k 0) a) (suc k) (rule_from (suc (suc k)) (drop (suc k) hs) a)
  unfolding rule_from
  from_cons h = ap (λ (xs : List ℕ). rule_from (suc k) xs a) (drop-cons hs k 0 h)
