-- The theorem for document 01's own definitions: every well-formed program and every w with 2^w at least n + 2.
-- Assumes nothing.
use Prim.Native.Nat.{ℕ, zero, ◌+◌, ◌^◌, ◌≤◌, ◌<◌}
use mathlib.Core.Path.{◌≡◌, sym, ◌∙◌, ap, subst, fun_ext}
use mathlib.Core.Logic.{◌↔◌}
use mathlib.Core.Bool.{Bool, false, So, cond}
use mathlib.Core.List.{List}
use lib.ListN.{length}
use Rattle.lists.specs.Lists.{sum, highest}
use Rattle.lists.proofs.Bools.{not_So}
use Rattle.meaning.specs.Program.{Program, Atoms, is_atom, well_formed}
use Rattle.meaning.specs.Stage.{Stable, FirstStage, reduct, level}
use Rattle.meaning.specs.Gaps.{WithoutGaps}
use Rattle.theory.proofs.LeastModel.{level_first, level_none, level_le}
use Rattle.theory.proofs.Decided.{reduct_heads}
use Rattle.encoding.specs.Literal.{Clause, value_of, all_true, within, occurs}
use Rattle.encoding.specs.Clauses.{sizes, clauses, variables}
use Rattle.encoding.specs.Fill.{fill, true_atoms, counter}
use Rattle.encoding.specs.Code.{Code, whole, clauses_of, variables_of}
use Rattle.theory.proofs.Gaps.{without_gaps}
use Rattle.theory.proofs.Theorem.{Fit, fill_vars, true_exactly, counters, filled_true, fill_atoms, one_each}
use Rattle.theory.proofs.Whole.{variables_whole, clauses_whole, level_whole, fill_whole, stable_whole, whole_ranges, whole_fit}
use Rattle.theory.proofs.Occurs.{clauses_fit, all_occur}

-- ---- levels

module _ (P : Program) (form : So (well_formed P)) (M : Atoms) (s : Stable P M) where
  pub level_number : (a : ℕ) → So (M a) → FirstStage (reduct P M) a (level P M a)
  level_number a t = level_first (reduct P M) P.atoms (reduct_heads P form M) a (s.founded a t)

  pub level_false : (a : ℕ) → M a ≡ false → level P M a ≡ 0
  level_false a e = level_none (reduct P M) P.atoms a (λ u. not_So (M a) e (s.closed a u))

  pub level_at_most : (a : ℕ) → level P M a ≤ P.atoms
  level_at_most a = level_le (reduct P M) P.atoms a

  pub level_gaps : WithoutGaps M (level P M) (sum P.atoms (λ a. cond (M a) 1 0)) (highest P.atoms (level P M))
  level_gaps =
      subst (λ (ℓ : ℕ → ℕ). WithoutGaps M ℓ (sum P.atoms (λ a. cond (M a) 1 0)) (highest P.atoms ℓ)) (fun_ext (level_whole P 0 M))
      (without_gaps (whole P 0) M (whole_ranges P 0 form) ((stable_whole P 0 M).1 s))

-- ---- assignments

module _ (P : Program) (w : ℕ) (form : So (well_formed P)) (wide : P.atoms + 2 ≤ 2 ^ w) where
  abbrev G : Code
  G = whole P w

  f : Fit G
  f = whole_fit P w form wide

  -- the clauses of the code are the program's
  code_true_lem : (bs : List Bool) → So (all_true (value_of bs) (clauses P w)) → So (all_true (value_of bs) (clauses_of G))
  code_true_lem bs t = subst (λ (cs : List Clause). So (all_true (value_of bs) cs)) (sym (clauses_whole P w)) t

  true_code : (bs : List Bool) → So (all_true (value_of bs) (clauses_of G)) → So (all_true (value_of bs) (clauses P w))
  true_code bs t = subst (λ (cs : List Clause). So (all_true (value_of bs) cs)) (clauses_whole P w) t

  pub exactly : (bs : List Bool) → length bs ≡ variables P w
      → So (all_true (value_of bs) (clauses P w)) ↔ (Stable P (true_atoms P bs) × (bs ≡ fill P w (true_atoms P bs)))
  exactly bs e =
      let q = true_exactly G f bs (e ∙ sym (variables_whole P w)) in (
        λ t. let p = q.0 (code_true_lem bs t) in ((stable_whole P w (true_atoms P bs)).0 p.0, p.1 ∙ fill_whole P w (true_atoms P bs)),
        λ p. true_code bs (q.1 ((stable_whole P w (true_atoms P bs)).1 p.0, p.1 ∙ sym (fill_whole P w (true_atoms P bs)))),
      )

  pub counter_is_level : (bs : List Bool) → So (all_true (value_of bs) (clauses P w))
      → (a : ℕ) → So (is_atom P.atoms a) → counter (sizes P w) (value_of bs) a ≡ level P (true_atoms P bs) a
  counter_is_level bs t a i = counters G f bs (code_true_lem bs t) a i ∙ level_whole P w (true_atoms P bs) a

  pub fill_length : (M : Atoms) → length (fill P w M) ≡ variables P w
  fill_length M = ap length (sym (fill_whole P w M)) ∙ fill_vars G M ∙ variables_whole P w

  pub fill_true : (M : Atoms) → Stable P M → So (all_true (value_of (fill P w M)) (clauses P w))
  fill_true M s =
      true_code (fill P w M) (subst (λ (bs : List Bool). So (all_true (value_of bs) (clauses_of G))) (fill_whole P w M) (filled_true G f M ((stable_whole P w M).1 s)))

  pub fill_has : (M : Atoms) → Stable P M → true_atoms P (fill P w M) ≡ M
  fill_has M s = ap (true_atoms P) (sym (fill_whole P w M)) ∙ fill_atoms G f M ((stable_whole P w M).1 s)

  pub one_list : (bs cs : List Bool) → length bs ≡ variables P w → length cs ≡ variables P w
      → So (all_true (value_of bs) (clauses P w)) → So (all_true (value_of cs) (clauses P w)) → true_atoms P bs ≡ true_atoms P cs → bs ≡ cs
  one_list bs cs d e t u p = one_each G f bs cs (d ∙ sym (variables_whole P w)) (e ∙ sym (variables_whole P w)) (code_true_lem bs t) (code_true_lem cs u) p

  pub clauses_within : So (within (variables P w) (clauses P w))
  clauses_within =
      subst (λ (k : ℕ). So (within k (clauses P w))) (variables_whole P w)
      (subst (λ (cs : List Clause). So (within (variables_of G) cs)) (clauses_whole P w) (clauses_fit G f.ranges f.some_bit))

  pub each_occurs : (v : ℕ) → zero < v → v ≤ variables P w → So (occurs v (clauses P w))
  each_occurs v p h =
      subst (λ (cs : List Clause). So (occurs v cs)) (clauses_whole P w)
      (all_occur G f.ranges f.some_bit v p (subst (λ (k : ℕ). v ≤ k) (sym (variables_whole P w)) h))
