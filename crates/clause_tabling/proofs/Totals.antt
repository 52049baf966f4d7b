-- The counts of the table of a stored program.
--   width_bounded    the counters of at most 126 atoms have from 1 to 7 bits
--   sizes_bounded    sizes with that width are within the bounds of the variables' numbers
--   counts_bounded   what the counts of a stored program are made of is within its bounds
--   tallied_by       the totals by a tally, from the width, V and C
--   table_made       with the counts the table has all but the links
--   totals_made      the counts are the totals of its code
-- Assumes nothing.
use Prim.Native.Nat.{ℕ, suc, ◌≤◌, ◌<◌}
use native.Mathlib.Omega.{arith}
use mathlib.Core.Path.{◌≡◌, refl, sym, ◌∙◌, ap, ap₂}
use mathlib.Core.Bool.{So}
use mathlib.Core.List.{List, [], ◌∷◌, map}
use lib.ListN.{length, replicate}
use lib.Seq.{sets}
use Rattle.lists.specs.Lists.{tab, joined}
use Rattle.meaning.specs.Program.{Program, well_formed}
use Rattle.encoding.specs.Width.{width}
use Rattle.encoding.specs.Variables.{var_count}
use Rattle.encoding.specs.Clauses.{sizes, pair_count, empty_bodies, body_atoms, clause_count}
use Rattle.encoding.specs.Code.{Code, code_of, m, pair_list, before}
use Rattle.theory.proofs.Widths.{width_some, width_is, width_enough}
use Rattle.theory.proofs.Whole.{pairs_whole, clauses_whole}
use Rattle.theory.proofs.Counts.{count_whole}
use Rattle.clause_literals.specs.Sizes.{Bounded}
use Rattle.program.specs.declared.Program.{Program as Arrays}
use Rattle.program.specs.Arrays.{pad, kept, decoded}
use Rattle.clause_tables.specs.declared.Totals.{Totals}
use Rattle.clause_tables.specs.Tables.{Stored, totals_of, regions_of}
use Rattle.clause_tables.proofs.Sizes.{atoms_held, count_few, empty_few}
use Rattle.clause_tabling.specs.declared.Tally.{Tally}
use Rattle.clause_tabling.specs.Formula.{clauses_for, tallied, counts_of}
use Rattle.clause_tabling.specs.Stages.{tally_of, with_pairs, with_counts}
use Rattle.clause_tabling.proofs.Regions.{sets_region}
use Rattle.clause_tabling.proofs.Held.{rules_many, heads_held, bodies_held}

-- the totals of document 01's code of P, from its numbers
by_numbers : (P : Program) → So (well_formed P) → (n m w o k e : ℕ) → n ≡ P.atoms → m ≡ length P.rules → w ≡ width P.atoms → o ≡ body_atoms P → k ≡ pair_count P
    → e ≡ empty_bodies P
    → ◌≡◌ {A = Totals} (record { sizes = record { n = n; m = m; w = w }; pairs = k; vars = var_count (record { n = n; m = m; w = w }) k; clauses = clauses_for n m w o k e })
    (totals_of (code_of P))
unfolding totals_of clause_count
by_numbers P form n m w o k e pn pm pw po pk pe =
    same
    ∙ ap₂ (λ (x c : ℕ). record { sizes = record { n = P.atoms; m = length P.rules; w = v }; pairs = x; vars = var_count (sizes P v) x; clauses = c })
    (ap length (sym (pairs_whole P v))) (sym (count_whole P v form (width_enough P.atoms)) ∙ ap length (sym (clauses_whole P v)))
  where
    v : ℕ
    v = width P.atoms

    same : ◌≡◌ {A = Totals} (record { sizes = record { n = n; m = m; w = w }; pairs = k; vars = var_count (record { n = n; m = m; w = w }) k; clauses = clauses_for n m w o k e })
        (record { sizes = record { n = P.atoms; m = length P.rules; w = v }; pairs = pair_count P; vars = var_count (sizes P v) (pair_count P); clauses = clause_count P v })
    same = rw (pn, pm, pw, po, pk, pe)

width_few : (n : ℕ) → n ≤ 126 → width n ≤ 7
width_few n h = (width_is n).least 7 (omega (arith, h))

pub width_bounded : (n w : ℕ) → n ≤ 126 → w ≡ width n → (0 < w) × (w ≤ 7)
width_bounded n w h e = (omega (arith, e, width_some n), omega (arith, e, width_few n h))

pub sizes_bounded : (n m w : ℕ) → n ≤ 126 → m ≤ 500 → w ≡ width n → Bounded (record { n = n; m = m; w = w })
sizes_bounded n m w h k e = record { atoms = h; rules = k; bits = (width_bounded n w h e).1 }

pub tallied_by : (n m o : ℕ) (t : Tally) (w v c : ℕ) → w ≡ width n → v ≡ var_count (record { n = n; m = m; w = w }) t.pairs → c ≡ clauses_for n m w o t.pairs t.empty
    → ◌≡◌ {A = Totals} (record { sizes = record { n = n; m = m; w = w }; pairs = t.pairs; vars = v; clauses = c }) (tallied n m o t)
tallied_by n m o t w v c ew ev ec = rw (ev, ec, ew)

module _ (A : Arrays) (s : Stored A) where
  atoms_are : A.atoms ≡ (decoded A).atoms
  unfolding decoded
  atoms_are = refl

  held_is : A.held ≡ body_atoms (decoded A)
  unfolding kept
  held_is = ap (λ (B : Arrays). B.held) s.arrays_are ∙ sym (atoms_held (decoded A))

  atoms_few : A.atoms ≤ 126
  atoms_few = omega (arith, atoms_are, s.limits.few_atoms)

  -- the counts are the last that is written but the links
  counts_laid : (t : Totals) → t ≡ totals_of (code_of (decoded A)) → sets (with_pairs A) 0 (counts_of t) ≡ with_counts A
  unfolding with_pairs with_counts regions_of totals_of
  counts_laid t e =
      sets_region [] (replicate 16 0) (A.heads ∷ A.bodies ∷ ks ∷ xs ∷ ys ∷ A.starts ∷ zs) (counts_of t) 0 0 refl (omega arith)
      ∙ λ i. joined
      (pad 16 (counts_of (e i)) ∷ (s.arrays_are i).heads ∷ (s.arrays_are i).bodies ∷ ks ∷ xs ∷ ys ∷ (s.arrays_are i).starts ∷ zs)
    where
      G : Code
      G = code_of (decoded A)

      ks : List ℕ
      ks = pad 501 (tab (suc (m G)) (before G))

      xs : List ℕ
      xs = pad 500 (map (λ p. p.body) (pair_list G))

      ys : List ℕ
      ys = pad 500 (map (λ p. p.head) (pair_list G))

      -- the links, with nothing written
      zs : List (List ℕ)
      zs = replicate 126 0 ∷ replicate 500 0 ∷ []

  pub table_made : (t : Totals) (table table' : List ℕ) → t ≡ totals_of (code_of (decoded A)) → table ≡ with_pairs A → table' ≡ sets table 0 (counts_of t)
      → table' ≡ with_counts A
  table_made t table table' e p q = q ∙ ap (λ (x : List ℕ). sets x 0 (counts_of t)) p ∙ counts_laid t e

  -- from the tally of all rules
  module _ (all : Tally) (is : all ≡ tally_of (decoded A)) where
    pairs_all : all.pairs ≡ pair_count (decoded A)
    pairs_all = ap (λ (x : Tally). x.pairs) is

    empty_all : all.empty ≡ empty_bodies (decoded A)
    empty_all = ap (λ (x : Tally). x.empty) is

    pub counts_bounded : (A.atoms ≤ 126) × (A.rules ≤ 500) × (A.held ≤ 500) × (all.pairs ≤ 500) × (all.empty ≤ A.rules)
    counts_bounded = (
      atoms_few,
      (heads_held A s).few,
      (bodies_held A s).few,
      omega (arith, pairs_all, count_few (decoded A) s.limits),
      omega (arith, empty_all, rules_many A, empty_few (decoded A)),
    )

    pub totals_made : tallied A.atoms A.rules A.held all ≡ totals_of (code_of (decoded A))
    totals_made =
        by_numbers (decoded A) s.limits.all_atoms A.atoms A.rules (width A.atoms) A.held all.pairs all.empty
        atoms_are (sym (rules_many A)) (ap width atoms_are) held_is pairs_all empty_all
