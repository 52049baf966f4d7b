-- The table of a code: its regions hold what Tabled says of them, and the code that it holds is that code.
--   sizes        how many cells each region has
--   Own, own     the totals and the regions of a limited code are those that Tabled names
--   lengths_are  its regions have as many cells as sizes says
--   arrays       the counts and the regions of a table of G are those of G
--   told         the same with counts that were taken from the table
--   opened       the same with sizes s that are those of the counts
--   firsts_are, links_are   the first rule of each atom, and of each rule the next one with the same head
--   cells        how many cells a table has
--   code_held    the table of a limited code holds that code
--   ready        and is ready
-- Assumes nothing.
use Prim.Native.Nat.{ℕ, suc, ◌<◌}
use native.Mathlib.Omega.{arith}
use mathlib.Core.Path.{◌≡◌, refl, sym, ◌∙◌, ap, ap₂, subst}
use mathlib.Core.List.{List, [], ◌∷◌, map}
use lib.ListN.{length, get_or, take}
use Rattle.lists.specs.Lists.{tab}
use Rattle.lists.proofs.Tables.{length_tab}
use Rattle.encoding.specs.Code.{Code, whole, program_of, m, pair_list, before}
use Rattle.encoding.specs.Variables.{Sizes}
use Rattle.program.specs.Arrays.{pad, kept}
use Rattle.program.proofs.Pads.{length_pad}
use Rattle.clause_walk.specs.Walk.{heads_of}
use Rattle.clause_tables.specs.declared.Totals.{Totals}
use Rattle.clause_tables.specs.Links.{first_rule, next_rule}
use Rattle.clause_tables.specs.Tables.{Limited, Tabled, TableOf, Ready, totals_of, regions_of, table_of, region, totals_in, heads_in, bodies_in, before_in, partners_in, owners_in, starts_in, firsts_in, links_in, program_in, code_in}
use Rattle.clause_tables.proofs.Regions.{lengths, total, region_at, joined_length}
use Rattle.clause_table_laws.proofs.Elements as elements

-- how many cells each region has
abbrev pub sizes : List ℕ
sizes = 16 ∷ 500 ∷ 500 ∷ 501 ∷ 500 ∷ 500 ∷ 1001 ∷ 126 ∷ 500 ∷ []

-- the totals and the regions of a code are those that Tabled names
abbrev pub Own : Code → Type 0
Own G =
    Tabled G (totals_of G) (kept (program_of G)).heads (kept (program_of G)).starts (kept (program_of G)).bodies (pad 501 (tab (suc (m G)) (before G)))
    (pad 500 (map (λ p. p.body) (pair_list G))) (pad 500 (map (λ p. p.head) (pair_list G)))

module _ (G : Code) (L : Limited G) where
  pub own : Own G
  own =
      record {
        limits = L;
        totals_are = refl;
        heads_are = refl;
        starts_are = refl;
        bodies_are = refl;
        before_are = refl;
        partners_are = refl;
        owners_are = refl;
      }

  firsts_length : length (pad 126 (tab G.n (first_rule (heads_of G)))) ≡ 126
  firsts_length = length_pad 126 (tab G.n (first_rule (heads_of G))) (omega (arith, length_tab G.n (first_rule (heads_of G)), L.within.few_atoms))

  links_length : length (pad 500 (tab (m G) (next_rule (heads_of G)))) ≡ 500
  links_length = length_pad 500 (tab (m G) (next_rule (heads_of G))) (omega (arith, length_tab (m G) (next_rule (heads_of G)), L.within.few_rules))

  pub lengths_are : lengths (regions_of G) ≡ sizes
  unfolding regions_of
  lengths_are = λ i.
      16
      ∷ elements.heads_length G (totals_of G) _ _ _ _ _ _ own i
      ∷ elements.bodies_length G (totals_of G) _ _ _ _ _ _ own i
      ∷ elements.before_length G (totals_of G) _ _ _ _ _ _ own i
      ∷ elements.partners_length G (totals_of G) _ _ _ _ _ _ own i
      ∷ elements.owners_length G (totals_of G) _ _ _ _ _ _ own i
      ∷ elements.starts_length G (totals_of G) _ _ _ _ _ _ own i
      ∷ firsts_length i
      ∷ links_length i
      ∷ []

  nine : length (regions_of G) ≡ 9
  unfolding regions_of
  nine = refl

  at : (i : ℕ) → i < 9 → region (total (take i sizes)) (get_or sizes i 0) (table_of G) ≡ get_or (regions_of G) i []
  at i h = region_at (regions_of G) sizes lengths_are i (omega (arith, nine, h))

  own_totals : totals_in (table_of G) ≡ totals_of G
  unfolding regions_of totals_of
  own_totals =
      ap (λ (cs : List ℕ).
      record {
        sizes = record { n = get_or cs 0 0; m = get_or cs 1 0; w = get_or cs 2 0 };
        pairs = get_or cs 3 0;
        vars = get_or cs 4 0;
        clauses = get_or cs 5 0;
      })
      (at 0 (omega arith))

  own_heads : heads_in (table_of G) ≡ (kept (program_of G)).heads
  unfolding regions_of
  own_heads = at 1 (omega arith)

  own_bodies : bodies_in (table_of G) ≡ (kept (program_of G)).bodies
  unfolding regions_of
  own_bodies = at 2 (omega arith)

  own_before : before_in (table_of G) ≡ pad 501 (tab (suc (m G)) (before G))
  unfolding regions_of
  own_before = at 3 (omega arith)

  own_partners : partners_in (table_of G) ≡ pad 500 (map (λ p. p.body) (pair_list G))
  unfolding regions_of
  own_partners = at 4 (omega arith)

  own_owners : owners_in (table_of G) ≡ pad 500 (map (λ p. p.head) (pair_list G))
  unfolding regions_of
  own_owners = at 5 (omega arith)

  own_starts : starts_in (table_of G) ≡ (kept (program_of G)).starts
  unfolding regions_of
  own_starts = at 6 (omega arith)

  own_firsts : firsts_in (table_of G) ≡ pad 126 (tab G.n (first_rule (heads_of G)))
  unfolding regions_of
  own_firsts = at 7 (omega arith)

  own_links : links_in (table_of G) ≡ pad 500 (tab (m G) (next_rule (heads_of G)))
  unfolding regions_of
  own_links = at 8 (omega arith)

  pub code_held : code_in (table_of G) ≡ G
  unfolding totals_of
  code_held =
      ap₂ whole
      (ap (λ (t : Totals). program_in t.sizes (heads_in (table_of G)) (starts_in (table_of G)) (bodies_in (table_of G))) own_totals
      ∙ (λ i. program_in (totals_of G).sizes (own_heads i) (own_starts i) (own_bodies i)) ∙ elements.program_in_is (program_of G) G.w)
      (ap (λ (t : Totals). t.sizes.w) own_totals)
      ∙ sym (elements.limited_whole L)

  pub ready : Ready (table_of G)
  ready = subst (λ (H : Code). TableOf H (table_of G)) (sym code_held) (record { limits = L; table_is = refl })

module _ {G : Code} {tb : List ℕ} (T : TableOf G tb) where
  pub told : {t : Totals} → t ≡ totals_in tb
      → Tabled G t (heads_in tb) (starts_in tb) (bodies_in tb) (before_in tb) (partners_in tb) (owners_in tb)
  told e =
      record {
        limits = T.limits;
        totals_are = e ∙ ap totals_in T.table_is ∙ own_totals G T.limits;
        heads_are = ap heads_in T.table_is ∙ own_heads G T.limits;
        starts_are = ap starts_in T.table_is ∙ own_starts G T.limits;
        bodies_are = ap bodies_in T.table_is ∙ own_bodies G T.limits;
        before_are = ap before_in T.table_is ∙ own_before G T.limits;
        partners_are = ap partners_in T.table_is ∙ own_partners G T.limits;
        owners_are = ap owners_in T.table_is ∙ own_owners G T.limits;
      }

  pub opened : {t : Totals} {s : Sizes} → s ≡ t.sizes → t ≡ totals_in tb
      → Tabled G (record { sizes = s; pairs = t.pairs; vars = t.vars; clauses = t.clauses }) (heads_in tb) (starts_in tb) (bodies_in tb) (before_in tb) (partners_in tb) (owners_in tb)
  opened {t} p e = told (ap (λ (s : Sizes). record { sizes = s; pairs = t.pairs; vars = t.vars; clauses = t.clauses }) p ∙ e)

  pub arrays : Tabled G (totals_in tb) (heads_in tb) (starts_in tb) (bodies_in tb) (before_in tb) (partners_in tb) (owners_in tb)
  arrays = told refl

  pub firsts_are : firsts_in tb ≡ pad 126 (tab G.n (first_rule (heads_of G)))
  firsts_are = ap firsts_in T.table_is ∙ own_firsts G T.limits

  pub links_are : links_in tb ≡ pad 500 (tab (m G) (next_rule (heads_of G)))
  links_are = ap links_in T.table_is ∙ own_links G T.limits

  pub cells : length tb ≡ 4144
  cells = ap length T.table_is ∙ joined_length (regions_of G) sizes (lengths_are G T.limits)
