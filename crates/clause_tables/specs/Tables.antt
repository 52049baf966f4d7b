-- What is made of a program once, before its clauses are walked: one table, with its counts, its arrays, those of its pairs
-- and the rules of each atom.
--   Stored A         the arrays A are those kept of the program that they hold, which is within the limits
--   totals_of G      the sizes, the number of pairs, V and C
--   regions_of G     the regions of the table of a code, in order, each filled up with zeros to its size
--   table_of G        the table: its regions, one after the other
--   count_in, totals_in, heads_in ..  the counts and the regions of a table
--   program_in, code_in  the program that the sizes and three arrays hold, and the code that a table holds
--   Limited G        the code is of a program within the limits, has from 1 to 7 bits, no open atom and every pair inside
--   Tabled G ..      totals and arrays are those of the code G, which is limited so
--   TableOf G tb     the table is that of the code G, which is limited so
--   Ready tb         of the code that it holds
-- Assumes nothing.
use Rattle.std.specs.Prelude.{ℕ, suc, ◌≤◌, ◌<◌, ◌≡◌, true, false, List, [], ◌∷◌, map, get_or, take, drop}
use Rattle.lists.specs.Lists.{tab, joined}
use Rattle.meaning.specs.Program.{Program}
use Rattle.encoding.specs.Code.{Code, whole, program_of, m, pair_list, pair_total, before, clause_total_of, variables_of}
use Rattle.clause_literals.specs.declared.Sizes.{Sizes}
use Rattle.program.specs.declared.Program.{Program as Arrays}
use Rattle.program.specs.Arrays.{pad, kept}
use Rattle.program.specs.Arrays.{decoded}
use Rattle.text.specs.Limits.{Limits}
use Rattle.clause_tables.specs.declared.Totals.{Totals}
use Rattle.clause_tables.specs.Links.{first_rule, next_rule}

pub record Stored (A : Arrays) : Type 0 where
  pub limits : Limits (decoded A)
  pub arrays_are : A ≡ kept (decoded A)

unfoldable pub totals_of : Code → Totals
totals_of G =
    record {
      sizes = record { n = G.n; m = m G; w = G.w };
      pairs = pair_total G;
      vars = variables_of G;
      clauses = clause_total_of G;
    }

abbrev pub program_in : Sizes → List ℕ → List ℕ → List ℕ → Program
program_in s hs ss bs = decoded (record { atoms = s.n; rules = s.m; held = 0; heads = hs; starts = ss; bodies = bs })

pub record Limited (G : Code) : Type 0 where
  pub within : Limits (program_of G)
  pub some_bit : 0 < G.w
  pub few_bits : G.w ≤ 7
  pub none_open : (a : ℕ) → G.opened a ≡ false
  pub all_inside : (b h : ℕ) → G.inside b h ≡ true

pub record Tabled (G : Code) (t : Totals) (hs ss bs ks xs ys : List ℕ) : Type 0 where
  pub limits : Limited G
  pub totals_are : t ≡ totals_of G
  pub heads_are : hs ≡ (kept (program_of G)).heads
  pub starts_are : ss ≡ (kept (program_of G)).starts
  pub bodies_are : bs ≡ (kept (program_of G)).bodies
  pub before_are : ks ≡ pad 501 (tab (suc (m G)) (before G))
  pub partners_are : xs ≡ pad 500 (map (λ p. p.body) (pair_list G))
  pub owners_are : ys ≡ pad 500 (map (λ p. p.head) (pair_list G))

-- ---- the table

-- the counts in their order, the heads, the body atoms, the pairs before each rule and, after the last one, K, the two atoms of the pairs, the list starts,
-- the first rule of each atom, and of each rule the next one with the same head
unfoldable pub regions_of : Code → List (List ℕ)
regions_of G =
    pad 16 (G.n ∷ m G ∷ G.w ∷ pair_total G ∷ variables_of G ∷ clause_total_of G ∷ [])
    ∷ (kept (program_of G)).heads
    ∷ (kept (program_of G)).bodies
    ∷ pad 501 (tab (suc (m G)) (before G))
    ∷ pad 500 (map (λ p. p.body) (pair_list G))
    ∷ pad 500 (map (λ p. p.head) (pair_list G))
    ∷ (kept (program_of G)).starts
    ∷ pad 126 (tab G.n (first_rule (map (λ R. R.head) G.rules)))
    ∷ pad 500 (tab (m G) (next_rule (map (λ R. R.head) G.rules)))
    ∷ []

abbrev pub table_of : Code → List ℕ
table_of G = joined (regions_of G)

-- k cells of a table from cell j on
abbrev pub region : ℕ → ℕ → List ℕ → List ℕ
region j k tb = take k (drop j tb)

abbrev pub count_in : List ℕ → ℕ → ℕ
count_in tb j = get_or (region 0 16 tb) j 0

abbrev pub heads_in : List ℕ → List ℕ
heads_in tb = region 16 500 tb

abbrev pub bodies_in : List ℕ → List ℕ
bodies_in tb = region 516 500 tb

abbrev pub before_in : List ℕ → List ℕ
before_in tb = region 1016 501 tb

abbrev pub partners_in : List ℕ → List ℕ
partners_in tb = region 1517 500 tb

abbrev pub owners_in : List ℕ → List ℕ
owners_in tb = region 2017 500 tb

abbrev pub starts_in : List ℕ → List ℕ
starts_in tb = region 2517 1001 tb

abbrev pub firsts_in : List ℕ → List ℕ
firsts_in tb = region 3518 126 tb

abbrev pub links_in : List ℕ → List ℕ
links_in tb = region 3644 500 tb

abbrev pub totals_in : List ℕ → Totals
totals_in tb =
    record {
      sizes = record { n = count_in tb 0; m = count_in tb 1; w = count_in tb 2 };
      pairs = count_in tb 3;
      vars = count_in tb 4;
      clauses = count_in tb 5;
    }

abbrev pub atoms_in : List ℕ → ℕ
atoms_in tb = (totals_in tb).sizes.n

abbrev pub rules_in : List ℕ → ℕ
rules_in tb = (totals_in tb).sizes.m

abbrev pub vars_in : List ℕ → ℕ
vars_in tb = (totals_in tb).vars

abbrev pub clauses_in : List ℕ → ℕ
clauses_in tb = (totals_in tb).clauses

abbrev pub code_in : List ℕ → Code
code_in tb = whole (program_in (totals_in tb).sizes (heads_in tb) (starts_in tb) (bodies_in tb)) (totals_in tb).sizes.w

pub record TableOf (G : Code) (tb : List ℕ) : Type 0 where
  pub limits : Limited G
  pub table_is : tb ≡ table_of G

abbrev pub Ready : List ℕ → Type 0
Ready tb = TableOf (code_in tb) tb
