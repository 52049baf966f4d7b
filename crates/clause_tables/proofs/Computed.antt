-- The table of document 01's program 1 from 2; 2 from 1, region by region: a wrong definition breaks one of these facts.
-- Assumes nothing.
use Prim.Native.Nat.{ℕ}
use mathlib.Core.Path.{◌≡◌, refl}
use mathlib.Core.List.{List, [], ◌∷◌}
use lib.ListN.{take}
use Rattle.lists.specs.Lists.{tab}
use Rattle.meaning.specs.Samples.{ring}
use Rattle.encoding.specs.Clauses.{rules_of}
use Rattle.encoding.specs.Counter.{successor, chain}
use Rattle.encoding.specs.Code.{whole, inner, pair_list, before, clauses_of}
use Rattle.program.specs.Arrays.{kept}
use Rattle.clause_tables.specs.Links.{rule_from, first_rule, next_rule}
use Rattle.clause_tables.specs.Tables.{regions_of, table_of, region, heads_in, bodies_in, before_in, partners_in, owners_in, starts_in, firsts_in, links_in}

abbrev tb : List ℕ
tb = table_of (whole ring 2)

-- n, m, w, K, V and C
counts_read : take 6 (region 0 16 tb) ≡ 2 ∷ 2 ∷ 2 ∷ 2 ∷ 22 ∷ 70 ∷ []
unfolding regions_of kept inner pair_list before clauses_of rules_of successor chain
counts_read = refl

arrays_read : take 3 (heads_in tb) ∷ take 3 (bodies_in tb) ∷ take 6 (starts_in tb) ∷ [] ≡ (1 ∷ 2 ∷ 0 ∷ []) ∷ (2 ∷ 1 ∷ 0 ∷ []) ∷ (0 ∷ 1 ∷ 1 ∷ 2 ∷ 2 ∷ 0 ∷ []) ∷ []
unfolding regions_of kept inner pair_list before
arrays_read = refl

pairs_read : take 4 (before_in tb) ∷ take 3 (partners_in tb) ∷ take 3 (owners_in tb) ∷ [] ≡ (0 ∷ 1 ∷ 2 ∷ 0 ∷ []) ∷ (2 ∷ 1 ∷ 0 ∷ []) ∷ (1 ∷ 2 ∷ 0 ∷ []) ∷ []
unfolding regions_of kept inner pair_list before
pairs_read = refl

-- each atom has one rule, and no rule has a next one
links_read : take 3 (firsts_in tb) ∷ take 3 (links_in tb) ∷ [] ≡ (1 ∷ 2 ∷ 0 ∷ []) ∷ (0 ∷ 0 ∷ 0 ∷ []) ∷ []
unfolding regions_of kept inner pair_list before rule_from
links_read = refl

-- of the heads 2, 1, 2, 3 and 2: atom 2 has the rules 1, 3 and 5, atom 1 rule 2, atom 4 none
rules_linked : tab 4 (first_rule (2 ∷ 1 ∷ 2 ∷ 3 ∷ 2 ∷ [])) ∷ tab 5 (next_rule (2 ∷ 1 ∷ 2 ∷ 3 ∷ 2 ∷ [])) ∷ []
    ≡ (2 ∷ 1 ∷ 4 ∷ 0 ∷ []) ∷ (3 ∷ 0 ∷ 5 ∷ 0 ∷ 0 ∷ []) ∷ []
unfolding rule_from
rules_linked = refl
