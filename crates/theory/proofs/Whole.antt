-- Document 01's definitions are those of the code `whole P w`, which has no open atom and every pair inside; and that code fits for
-- every well-formed program and every w with 2^w at least n + 2.
-- Assumes nothing.
use Prim.Native.Nat.{ℕ, zero, suc, pred, ◌+◌, ◌^◌, ◌≤◌, ◌<◌}
use native.Mathlib.Nat.{le_refl}
use native.Mathlib.Omega.{arith}
use mathlib.Core.Path.{◌≡◌, refl, sym, ◌∙◌, ap, ap₂, subst, fun_ext}
use mathlib.Core.Logic.{◌↔◌}
use mathlib.Core.Bool.{Bool, true, ◌&&◌, So, cond, and-true, true≢false}
use mathlib.Core.List.{List, [], ◌∷◌, ◌++◌, append-nil}
use lib.ListN.{length}
use Rattle.lists.specs.Lists.{tab, each, joined}
use Rattle.lists.proofs.Tests.{all_in}
use Rattle.lists.proofs.Tables.{each_ext, sum_ext, keep_all, each_none, each_list, joined_keep}
use Rattle.meaning.specs.Program.{Program, Atoms, rule_at, no_rule, none_in, well_formed}
use Rattle.meaning.specs.Stage.{Definite, definite, reduct, InUnion, Stable, level, level_in}
use Rattle.theory.proofs.Atoms.{rule_in_lem}
use Rattle.theory.proofs.LeastModel.{level_le}
use Rattle.encoding.specs.Clauses.{Pair, sizes, pairs, pairs_with, pair_at, pairs_before, pairs_of, pair_clauses, founds_clauses, lowest_clauses, group1, group2, group3, group4, group7, clauses, variables}
use Rattle.encoding.specs.Literal.{Clause}
use Rattle.encoding.specs.Variables.{var_count}
use Rattle.encoding.specs.Fill.{fill, fill_with}
use Rattle.encoding.specs.Code.{Code, whole, inner, rule_kept, reduct_of, level_of, pair_list, before, pair_numbers, clauses_of, variables_of, code_fill, StableIn}
use Rattle.theory.proofs.Numbered.{Ranges, Rank}
use Rattle.theory.proofs.Theorem.{Fit}

module _ (P : Program) (w : ℕ) where
  abbrev G : Code
  G = whole P w

  pub inner_whole : (r : ℕ) → inner G r ≡ (rule_at P.rules r).positive
  unfolding inner
  inner_whole r = keep_all (λ b. true) (rule_at P.rules r).positive (λ b. refl)

  pub pairs_whole : pair_list G ≡ pairs P
  unfolding pair_list pairs
  pairs_whole = each_ext (length P.rules) _ _ (λ r h. ap (pairs_with (rule_at P.rules (suc r)).head) (inner_whole (suc r)))

  pub before_whole : (r : ℕ) → before G r ≡ pairs_before P r
  unfolding before pairs_before
  before_whole r = sum_ext (pred r) _ _ (λ q h. ap length (inner_whole (suc q)))

  numbers_whole : (r : ℕ) → pair_numbers G r ≡ pairs_of P r
  numbers_whole r = ap₂ (λ (k : ℕ) (b : ℕ). tab k (λ j. b + j)) (ap length (inner_whole r)) (before_whole r)

  pub variables_whole : variables_of G ≡ variables P w
  unfolding variables
  variables_whole = ap (λ (ps : List Pair). var_count (sizes P w) (length ps)) pairs_whole

  pub clauses_whole : clauses_of G ≡ clauses P w
  unfolding clauses_of clauses
  clauses_whole =
      ap (λ (gs : List (List Clause)). joined gs)
      (ap₂ (λ (g h : List Clause). group1 P w ∷ group2 P w ∷ group3 P w ∷ group4 P w ∷ g ∷ h ∷ group7 P w ∷ [])
      (ap (λ (ps : List Pair). each (length ps) (λ k. pair_clauses (sizes P w) k (pair_at ps k).body (pair_at ps k).head)) pairs_whole)
      (each_ext (length P.rules) _ _
      (λ r h. ap (λ (ks : List ℕ). founds_clauses (sizes P w) (suc r) ks ++ lowest_clauses (sizes P w) (suc r) (rule_at P.rules (suc r)).head ks) (numbers_whole (suc r)))))

  pub reduct_whole : (M : Atoms) → reduct_of G M ≡ reduct P M
  unfolding reduct_of reduct
  reduct_whole M =
      ap₂ ◌++◌ (each_ext (length P.rules) _ (λ r. cond (none_in M (rule_at P.rules r).negative) (definite (rule_at P.rules r) ∷ []) []) (λ r h. row (suc r))) (each_none P.atoms)
      ∙ append-nil _ ∙ each_list (λ R. cond (none_in M R.negative) (definite R ∷ []) []) P.rules no_rule
      ∙ joined_keep (λ R. none_in M R.negative) definite P.rules
    where
      row : (r : ℕ) → rule_kept G M r ≡ cond (none_in M (rule_at P.rules r).negative) (definite (rule_at P.rules r) ∷ []) []
      row r =
          ap₂ (λ (b : Bool) (bs : List ℕ). cond (none_in M (rule_at P.rules r).negative && b) (record { head = (rule_at P.rules r).head; body = bs } ∷ []) [])
          (all_in (λ b. true) (rule_at P.rules r).positive 0 (λ j h. refl)) (inner_whole r)
          ∙ ap (λ (b : Bool). cond b (definite (rule_at P.rules r) ∷ []) []) (and-true (none_in M (rule_at P.rules r).negative))

  pub level_whole : (M : Atoms) (a : ℕ) → level_of G M a ≡ level P M a
  level_whole M a = ap (λ (D : List Definite). level_in P.atoms D a) (reduct_whole M)

  pub fill_whole : (M : Atoms) → code_fill G M ≡ fill P w M
  unfolding fill
  fill_whole M =
      ap₂ (λ (f : ℕ → List ℕ) (ps : List Pair). fill_with (sizes P w) (rule_at P.rules) f ps M (level_of G M)) (fun_ext inner_whole) pairs_whole
      ∙ ap (λ (ℓ : ℕ → ℕ). fill_with (sizes P w) (rule_at P.rules) (λ r. (rule_at P.rules r).positive) (pairs P) M ℓ) (fun_ext (level_whole M))

  pub stable_whole : (M : Atoms) → StableIn G M ↔ Stable P M
  stable_whole M = (
    λ s. record {
      founded = λ a t. subst (λ (D : List Definite). InUnion D a) (reduct_whole M) (s.founded a t);
      closed = λ a u. s.closed a (subst (λ (D : List Definite). InUnion D a) (sym (reduct_whole M)) u);
    },
    λ s. record {
      founded = λ a t. subst (λ (D : List Definite). InUnion D a) (sym (reduct_whole M)) (s.founded a t);
      closed = λ a u. s.closed a (subst (λ (D : List Definite). InUnion D a) (reduct_whole M) u);
    },
  )

  pub whole_ranges : So (well_formed P) → Ranges G
  unfolding well_formed
  whole_ranges form =
      record {
        head_in = λ r h. (rule_in_lem P.atoms P.rules form r h).head_in;
        positive_in = λ r h. (rule_in_lem P.atoms P.rules form r h).positive_in;
        negative_in = λ r h. (rule_in_lem P.atoms P.rules form r h).negative_in;
      }

  pub whole_rank : Rank G
  whole_rank = record { rank = λ a. 0; no_rise = λ r h j i. le_refl 0; falls = λ r h j i e. absurd (true≢false e) }

  pub whole_fit : So (well_formed P) → P.atoms + 2 ≤ 2 ^ w → Fit G
  whole_fit form wide =
      record {
        ranges = whole_ranges form;
        rank = whole_rank;
        some_bit = some w wide;
        level_fits = λ M s a. omega (arith, wide, level_le (reduct_of G M) P.atoms a);
      }
    where
      some : (w : ℕ) → P.atoms + 2 ≤ 2 ^ w → zero < w
      some zero h = absurd (omega arith)
      some (suc w) h = omega arith
