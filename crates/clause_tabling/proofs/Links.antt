-- The links of a stored program, the last that is written of its table.
--   links_asked      the table with all but the links is what they are written into
--   links_made       with them it is that of its code
-- Assumes nothing.
use Prim.Native.Nat.{ℕ, zero, suc, ◌≤◌, ◌<◌}
use native.Mathlib.Nat.{le_refl}
use native.Mathlib.Omega.{arith}
use mathlib.Core.Path.{◌≡◌, refl, sym, ◌∙◌, ap, ap₂, subst}
use mathlib.Core.List.{List, [], ◌∷◌, ◌++◌, append_assoc, append-nil}
use mathlib.Core.Logic.{⊎_elim}
use lib.ListN.{length, get_or, take, drop, replicate, length-map, replicate-append-replicate, get_or-eq_default}
use lib.Seq.{take_at, drop_at, ext_get_or}
use Rattle.lists.specs.Lists.{tab, joined}
use Rattle.lists.proofs.Tests.{le_or_lt}
use Rattle.lists.proofs.Tables.{length_tab, get_or_tab}
use Rattle.encoding.specs.Code.{Code, code_of, m}
use Rattle.clause_walk.specs.Walk.{heads_of, head_at}
use Rattle.program.specs.declared.Program.{Program as Arrays}
use Rattle.program.specs.Arrays.{pad, kept, decoded}
use Rattle.program.proofs.Pads.{length_pad}
use Rattle.clause_tables.specs.Links.{first_rule, next_rule}
use Rattle.clause_tables.specs.Tables.{Stored, Limited, regions_of, table_of}
use Rattle.clause_tables.proofs.Links.{from_nil}
use Rattle.clause_tables.proofs.Regions.{joined_length}
use Rattle.clause_links.specs.Linked.{Unlinked, linked}
use Rattle.clause_table_laws.proofs.Elements.{get_or_pad, head_atom, head_in, program_limited}
use Rattle.clause_table_laws.proofs.Cells.{sizes, lengths_are}
use Rattle.clause_table_laws.proofs.Links.{Follows, first_follows}
use Rattle.clause_tabling.specs.Stages.{with_counts}
use Rattle.clause_tabling.proofs.Held.{rules_many}

joined_append : (xss yss : List (List ℕ)) → joined (xss ++ yss) ≡ joined xss ++ joined yss
joined_append [] yss = refl
joined_append (xs ∷ xss) yss = ap (λ (zs : List ℕ). xs ++ zs) (joined_append xss yss) ∙ sym (append_assoc xs (joined xss) (joined yss))

-- a table of values that are 0 after the first n
tab_pad : (k n : ℕ) (f : ℕ → ℕ) → n ≤ k → ((i : ℕ) → n ≤ i → f (suc i) ≡ 0) → tab k f ≡ pad k (tab n f)
tab_pad k n f h none =
    ext_get_or 0 (tab k f) (pad k (tab n f)) (length_tab k f ∙ sym (length_pad k (tab n f) (omega (arith, h, length_tab n f))))
    (λ i l. get_or_tab k f 0 i (omega (arith, l, length_tab k f)) ∙ ⊎_elim (λ (g : n ≤ i). none i g ∙ sym (past i g)) (λ (g : i < n). sym (get_or_tab n f 0 i g)) (le_or_lt n i)
    ∙ sym (get_or_pad k (tab n f) i))
  where
    past : (i : ℕ) → n ≤ i → get_or (tab n f) i 0 ≡ 0
    past i g = get_or-eq_default (tab n f) 0 (omega (arith, g, length_tab n f))

module _ (A : Arrays) (s : Stored A) where
  abbrev G : Code
  G = code_of (decoded A)

  limited : Limited G
  limited = program_limited (decoded A) s.limits

  -- ---- the heads

  heads_pad : A.heads ≡ pad 500 (heads_of G)
  unfolding kept
  heads_pad = ap (λ (B : Arrays). B.heads) s.arrays_are

  heads_are : take A.rules A.heads ≡ heads_of G
  heads_are = ap (take A.rules) heads_pad ∙ take_at (heads_of G) _ A.rules (length-map G.rules (λ R. R.head) ∙ rules_many A)

  heads_many : length (heads_of G) ≡ length G.rules
  heads_many = length-map {B = ℕ} G.rules (λ R. R.head)

  first_none : (i : ℕ) → G.n ≤ i → first_rule (heads_of G) (suc i) ≡ 0
  first_none i h = go (first_rule (heads_of G) (suc i)) (first_follows (heads_of G) (suc i))
    where
      go : (r : ℕ) → Follows (heads_of G) (suc i) 0 r → r ≡ 0
      go zero f = refl
      go (suc r) f =
          absurd (omega (
            arith,
            h,
            f.head_is (omega arith),
            (head_atom G limited (suc r) (omega arith) (omega (arith, f.within, length-map {B = ℕ} G.rules (λ R. R.head)))).1,
          ))

  next_none : (i : ℕ) → m G ≤ i → next_rule (heads_of G) (suc i) ≡ 0
  next_none i h = from_nil (heads_of G) (suc i) (head_at (heads_of G) (suc i)) (omega (arith, h, length-map {B = ℕ} G.rules (λ R. R.head)))

  -- ---- the table

  -- its regions before the links
  abbrev front : List (List ℕ)
  front = take 7 (regions_of G)

  front_length : length (joined front) ≡ 3518
  unfolding regions_of
  front_length = joined_length front (take 7 sizes) (ap (take 7) (lengths_are G limited))

  with_ends : (xs ys : List ℕ) → joined (front ++ (xs ∷ ys ∷ [])) ≡ joined front ++ (xs ++ ys)
  with_ends xs ys = joined_append front (xs ∷ ys ∷ []) ∙ ap (λ (zs : List ℕ). joined front ++ (xs ++ zs)) (append-nil ys)

  module _ (t : List ℕ) (e : t ≡ with_counts A) where
    in_two : t ≡ joined front ++ (replicate 126 0 ++ replicate 500 0)
    unfolding with_counts
    in_two = e ∙ with_ends (replicate 126 0) (replicate 500 0)

    heads_asked : Unlinked (length (heads_of G)) (heads_of G) t
    heads_asked =
        record {
          few_rules = omega (arith, heads_many, limited.within.few_rules);
          many_heads = le_refl (length (heads_of G));
          atoms = λ i h. head_in G limited (suc i) (omega arith) (omega (arith, h, heads_many));
          none_linked =
              ap (drop 3518) in_two ∙ drop_at (joined front) _ 3518 front_length ∙ replicate-append-replicate 126 500 0;
        }

    -- the heads of the first rules, as code takes them
    module _ (n : ℕ) (all : n ≡ A.rules) where
      taken : take n A.heads ≡ heads_of G
      taken = ap (λ (k : ℕ). take k A.heads) all ∙ heads_are

      pub links_asked : Unlinked (length (take n A.heads)) (take n A.heads) t
      links_asked = subst (λ (hs : List ℕ). Unlinked (length hs) hs t) (sym taken) heads_asked

      pub links_made : (u : List ℕ) → u ≡ linked (take n A.heads) t → u ≡ table_of G
      unfolding linked regions_of
      links_made u p =
          p ∙ ap₂ linked taken in_two
          ∙ ap (λ (xs : List ℕ). xs ++ (tab 126 (first_rule (heads_of G)) ++ tab 500 (next_rule (heads_of G)))) (take_at (joined front) _ 3518 front_length)
          ∙ ap₂ (λ (xs ys : List ℕ). joined front ++ (xs ++ ys))
          (tab_pad 126 G.n (first_rule (heads_of G)) limited.within.few_atoms first_none)
          (tab_pad 500 (m G) (next_rule (heads_of G)) limited.within.few_rules next_none)
          ∙ sym (with_ends (pad 126 (tab G.n (first_rule (heads_of G)))) (pad 500 (tab (m G) (next_rule (heads_of G)))))
