-- The rules of an atom, one after the other: rules count from 1, and 0 says that there is none.
--   rule_from k hs a     the first rule whose head is a, where hs are the heads of the rules from k on
--   first_rule hs a      the first rule of atom a, where hs are the heads of all rules
--   next_rule hs r       the next rule after r with the head of r
-- Assumes nothing.
use Rattle.std.specs.Prelude.{ℕ, suc, pred, cond, List, [], ◌∷◌, eqb, get_or, drop}

unfoldable pub rule_from : ℕ → List ℕ → ℕ → ℕ
rule_from k [] a = 0
rule_from k (h ∷ hs) a = cond (eqb h a) k (rule_from (suc k) hs a)

abbrev pub first_rule : List ℕ → ℕ → ℕ
first_rule hs a = rule_from 1 hs a

abbrev pub next_rule : List ℕ → ℕ → ℕ
next_rule hs r = rule_from (suc r) (drop r hs) (get_or hs (pred r) 0)
