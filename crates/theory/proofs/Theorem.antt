-- The theorem over lists of V values, for every code that fits: a list makes every clause true exactly if its true atoms are a stable
-- model and it is the filled-out list of that model.
--   Fit G           what the theorem asks of a code: atoms in range, a rank, level + 1 below 2^w
--   true_exactly    the theorem; filled_true, fill_atoms: every stable model has its list; one_each: and one alone
-- Assumes nothing.
use Prim.Native.Nat.{ℕ, zero, suc, ◌+◌, ◌^◌, ◌<◌}
use native.Mathlib.Omega.{arith}
use mathlib.Core.Path.{◌≡◌, sym, ◌∙◌, ap, subst, fun_ext}
use mathlib.Core.Logic.{◌↔◌, ⊎_elim}
use mathlib.Core.Bool.{Bool, false, ◌&&◌, So}
use mathlib.Core.List.{List}
use lib.ListN.{length}
use lib.Seq.{ext_get_or}
use Rattle.lists.proofs.Bools.{not_So, So-or-not, false_of}
use Rattle.meaning.specs.Program.{Atoms, is_atom}
use Rattle.theory.proofs.Atoms.{by_place}
use Rattle.encoding.specs.Literal.{Assignment, value_of, all_true}
use Rattle.encoding.specs.Fill.{true_in, counter}
use Rattle.encoding.specs.Code.{Code, code_sizes, rl, inner, pair_list, level_of, StableIn, clauses_of, variables_of, code_fill}
use Rattle.theory.proofs.Numbered.{Ranges, Rank, stable_in}
use Rattle.theory.proofs.Meaning.{clauses_iff}
use Rattle.theory.proofs.Correct.{Canon, says_stable, says_canon, counter_level, canon_says}
use Rattle.theory.proofs.Families.{Member, atom_at, body_at, founds_at, level_at, next_at, below_at, next_below_at, member}
use Rattle.theory.proofs.Filled.{fill_length, atom_value, body_value, founds_value, level_value, next_value, below_value, next_below_value}

pub record Fit (G : Code) : Type 0 where
  pub ranges : Ranges G
  pub rank : Rank G
  pub some_bit : zero < G.w
  pub level_fits : (M : Atoms) → StableIn G M → (a : ℕ) → level_of G M a + 1 < 2 ^ G.w

module _ (G : Code) where
  pub fill_canon : (M : Atoms) → Canon G M (value_of (code_fill G M))
  fill_canon M =
      record {
        atoms = atom_value (code_sizes G) (rl G) (inner G) (pair_list G) M (level_of G M);
        bodies = body_value (code_sizes G) (rl G) (inner G) (pair_list G) M (level_of G M);
        foundings = founds_value (code_sizes G) (rl G) (inner G) (pair_list G) M (level_of G M);
        levels = λ a h i. level_value (code_sizes G) (rl G) (inner G) (pair_list G) M (level_of G M) a i h;
        nexts = λ a h i. next_value (code_sizes G) (rl G) (inner G) (pair_list G) M (level_of G M) a i h;
        belows = λ k h i. below_value (code_sizes G) (rl G) (inner G) (pair_list G) M (level_of G M) k i h;
        next_belows = λ k h i. next_below_value (code_sizes G) (rl G) (inner G) (pair_list G) M (level_of G M) k i h;
      }

  pub fill_vars : (M : Atoms) → length (code_fill G M) ≡ variables_of G
  fill_vars M = fill_length (code_sizes G) (rl G) (inner G) (pair_list G) M (level_of G M)

  -- two assignments with the values of M agree on every variable
  canon_same : (M : Atoms) (A B : Assignment) → Canon G M A → Canon G M B → (v : ℕ) → Member (code_sizes G) (length (pair_list G)) v → A v ≡ B v
  canon_same M A B c d v (atom_at a h e) = ap A e ∙ c.atoms a h ∙ sym (d.atoms a h) ∙ ap B (sym e)
  canon_same M A B c d v (body_at r h e) = ap A e ∙ c.bodies r h ∙ sym (d.bodies r h) ∙ ap B (sym e)
  canon_same M A B c d v (founds_at r h e) = ap A e ∙ c.foundings r h ∙ sym (d.foundings r h) ∙ ap B (sym e)
  canon_same M A B c d v (level_at a i h g e) = ap A e ∙ c.levels a h i g ∙ sym (d.levels a h i g) ∙ ap B (sym e)
  canon_same M A B c d v (next_at a i h g e) = ap A e ∙ c.nexts a h i g ∙ sym (d.nexts a h i g) ∙ ap B (sym e)
  canon_same M A B c d v (below_at k i h g e) = ap A e ∙ c.belows k h i g ∙ sym (d.belows k h i g) ∙ ap B (sym e)
  canon_same M A B c d v (next_below_at k i h g e) = ap A e ∙ c.next_belows k h i g ∙ sym (d.next_belows k h i g) ∙ ap B (sym e)

  canon_fill : (M : Atoms) (bs : List Bool) → length bs ≡ variables_of G → Canon G M (value_of bs) → bs ≡ code_fill G M
  unfolding value_of
  canon_fill M bs e c =
      ext_get_or false bs (code_fill G M) (e ∙ sym (fill_vars M))
      (λ x h. canon_same M (value_of bs) (value_of (code_fill G M)) c (fill_canon M) (suc x) (member (code_sizes G) (length (pair_list G)) (suc x) (omega arith) (subst (λ (k : ℕ). x < k) e h)))

  module _ (f : Fit G) where
    pub true_exactly : (bs : List Bool) → length bs ≡ variables_of G
        → So (all_true (value_of bs) (clauses_of G)) ↔ (StableIn G (true_in G.n (value_of bs)) × (bs ≡ code_fill G (true_in G.n (value_of bs))))
    true_exactly bs e = (
      λ t. let s = (clauses_iff G (value_of bs)).0 t in (
        says_stable G (value_of bs) f.ranges f.some_bit s f.rank,
        canon_fill (true_in G.n (value_of bs)) bs e (says_canon G (value_of bs) f.ranges f.some_bit s),
      ),
      λ p. (clauses_iff G (value_of bs)).1
          (canon_says G (true_in G.n (value_of bs)) (value_of bs) f.ranges p.0 (f.level_fits (true_in G.n (value_of bs)) p.0)
          (subst (λ (cs : List Bool). Canon G (true_in G.n (value_of bs)) (value_of cs)) (sym p.1) (fill_canon (true_in G.n (value_of bs))))),
    )

    -- the counter of each atom is its level
    pub counters : (bs : List Bool) → So (all_true (value_of bs) (clauses_of G))
        → (a : ℕ) → So (is_atom G.n a) → counter (code_sizes G) (value_of bs) a ≡ level_of G (true_in G.n (value_of bs)) a
    counters bs t = counter_level G (value_of bs) f.ranges f.some_bit ((clauses_iff G (value_of bs)).0 t)

    pub filled_true : (M : Atoms) → StableIn G M → So (all_true (value_of (code_fill G M)) (clauses_of G))
    filled_true M s = (clauses_iff G (value_of (code_fill G M))).1 (canon_says G M (value_of (code_fill G M)) f.ranges s (f.level_fits M s) (fill_canon M))

    pub fill_atoms : (M : Atoms) → StableIn G M → true_in G.n (value_of (code_fill G M)) ≡ M
    fill_atoms M s =
        fun_ext (λ a. ⊎_elim (λ (t : So (is_atom G.n a)). ap (λ b. b && value_of (code_fill G M) a) t ∙ by_place G.n (λ a. value_of (code_fill G M) a ≡ M a) (fill_canon M).atoms a t)
        (λ (e : is_atom G.n a ≡ false). ap (λ b. b && value_of (code_fill G M) a) e ∙ sym (false_of (M a) (λ t. not_So (is_atom G.n a) e (stable_in G M f.ranges s a t))))
        (So-or-not (is_atom G.n a)))

    pub one_each : (bs cs : List Bool) → length bs ≡ variables_of G → length cs ≡ variables_of G
        → So (all_true (value_of bs) (clauses_of G)) → So (all_true (value_of cs) (clauses_of G))
        → true_in G.n (value_of bs) ≡ true_in G.n (value_of cs) → bs ≡ cs
    one_each bs cs d e t u p = ((true_exactly bs d).0 t).1 ∙ ap (code_fill G) p ∙ sym ((true_exactly cs e).0 u).1
