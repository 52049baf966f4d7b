-- Stability, decided: a set of atoms is stable exactly if it agrees with the least model computed in n stages, and where it does not,
-- `differ` is the smallest atom where the two differ. An atom that heads no rule is in no stable model.
-- Assumes nothing.
use Prim.Native.Nat.{ℕ, zero, suc, ◌≤◌, ◌<◌}
use mathlib.Core.Path.{◌≡◌, refl, sym, ◌∙◌, ap}
use mathlib.Core.Logic.{◌↔◌}
use mathlib.Core.Bool.{Bool, true, false, not, So, beq}
use lib.Dec.{eqb}
use lib.ListN.{get_or}
use Rattle.lists.specs.Lists.{all, keep}
use Rattle.lists.proofs.Bools.{not_So, false_of, same, eq_beq}
use borrow.Author.Tests.{eq-eqb}
use Rattle.lists.proofs.Tests.{all_at, all_in, all_map}
use Rattle.lists.proofs.Tables.{all_keep}
use Rattle.lists.proofs.First.{first_is, first_none}
use Rattle.meaning.specs.Program.{Program, Atoms, is_atom, rule_fits, well_formed, none_in, no_rule}
use Rattle.meaning.specs.Stage.{definite, reduct, stage, InUnion, Stable, least_model, differ}
use Rattle.meaning.specs.Numbering.{no_definite}
use Rattle.theory.proofs.Atoms.{by_place, rule_in_lem}
use Rattle.theory.proofs.Stages.{stage_zero, stage_at, stage_atom, stage_by_n}

not_beq : (a b : Bool) → not (beq a b) ≡ false → a ≡ b
not_beq true true e = refl
not_beq true false e = e
not_beq false true e = sym e
not_beq false false e = refl

beq_not : (a b : Bool) → a ≡ b → not (beq a b) ≡ false
beq_not a b e = ap not (eq_beq a b e)

-- what holds of each rule's head holds of each head of the reduct
reduct_all : (P : Program) (M : Atoms) (p : ℕ → Bool) → So (all (λ r. p r.head) P.rules) → So (all (λ d. p d.head) (reduct P M))
unfolding reduct
reduct_all P M p t =
    all_map (λ d. p d.head) definite (keep (λ r. none_in M r.negative) P.rules)
    ∙ all_keep (λ r. none_in M r.negative) (λ r. p r.head) P.rules t

module _ (P : Program) (form : So (well_formed P)) (M : Atoms) where
  fits : So (all (rule_fits P.atoms) P.rules)
  unfolding well_formed
  fits = form

  pub reduct_heads : So (all (λ d. is_atom P.atoms d.head) (reduct P M))
  reduct_heads =
      reduct_all P M (is_atom P.atoms)
      (all_in (λ r. is_atom P.atoms r.head) P.rules no_rule (λ j h. (rule_in_lem P.atoms P.rules fits j h).head_in))

  pub least_model_iff : (a : ℕ) → So (least_model P M a) ↔ InUnion (reduct P M) a
  least_model_iff a = (λ t. (P.atoms, t), λ u. stage_by_n (reduct P M) P.atoms reduct_heads u.0 a u.1)

  pub stable_atom : Stable P M → (a : ℕ) → So (M a) → So (is_atom P.atoms a)
  stable_atom s a t = let u = s.founded a t in stage_atom (reduct P M) P.atoms reduct_heads u.0 a u.1

  pub stable_least : Stable P M → (a : ℕ) → M a ≡ least_model P M a
  stable_least s a = same (M a) (least_model P M a) (λ t. (least_model_iff a).1 (s.founded a t)) (λ t. s.closed a ((least_model_iff a).0 t))

  -- a set of atoms is stable exactly if no atom tells it from the least model of its reduct
  pub decided : ((a : ℕ) → So (M a) → So (is_atom P.atoms a)) → (differ P M ≡ 0) ↔ Stable P M
  unfolding differ
  decided atoms = (λ e. agree (agrees e), λ s. first_none P.atoms _ (λ i h. beq_not (M (suc i)) (least_model P M (suc i)) (stable_least s (suc i))))
    where
      agrees : differ P M ≡ 0 → (a : ℕ) → So (is_atom P.atoms a) → M a ≡ least_model P M a
      agrees e =
          by_place P.atoms (λ a. M a ≡ least_model P M a)
          (λ a h. not_beq (M (suc a)) (least_model P M (suc a)) ((first_is P.atoms (λ a. not (beq (M a) (least_model P M a)))).none_at_all e a h))

      agree : ((a : ℕ) → So (is_atom P.atoms a) → M a ≡ least_model P M a) → Stable P M
      agree f =
          record {
            founded = λ a t. (least_model_iff a).0 (sym (f a (atoms a t)) ∙ t);
            closed = λ a u. f a (stage_atom (reduct P M) P.atoms reduct_heads u.0 a u.1) ∙ (least_model_iff a).1 u;
          }

  -- where set and least model differ, `differ` is the smallest such atom
  pub differ_at : zero < differ P M → M (differ P M) ≡ least_model P M (differ P M) → ⊥
  unfolding differ
  differ_at h e =
      let d = differ P M in
      not_So (not (beq (M d) (least_model P M d))) (beq_not (M d) (least_model P M d) e) ((first_is P.atoms (λ a. not (beq (M a) (least_model P M a)))).passes h)

  pub differ_before : (a : ℕ) → suc a < differ P M → M (suc a) ≡ least_model P M (suc a)
  unfolding differ
  differ_before a h =
      not_beq (M (suc a)) (least_model P M (suc a)) ((first_is P.atoms (λ a. not (beq (M a) (least_model P M a)))).none_before a h)

  pub differ_le : differ P M ≤ P.atoms
  unfolding differ
  differ_le = (first_is P.atoms (λ a. not (beq (M a) (least_model P M a)))).within

  -- an atom that heads no rule is false
  pub headless_false : Stable P M → (a : ℕ) → So (all (λ r. not (eqb r.head a)) P.rules) → M a ≡ false
  headless_false s a none = false_of (M a) (λ t. let u = s.founded a t in nowhere u.0 u.1)
    where
      nowhere : (i : ℕ) → So (stage (reduct P M) i a) → ⊥
      nowhere zero t = stage_zero (reduct P M) a t
      nowhere (suc i) t =
          let q = stage_at (reduct P M) i a t in
          not_So (not (eqb (get_or (reduct P M) q.0 no_definite).head a)) (ap not (eq-eqb _ a q.1.its_head))
          (all_at (λ d. not (eqb d.head a)) (reduct P M) no_definite (reduct_all P M (λ h. not (eqb h a)) none) q.0 q.1.is_rule)
