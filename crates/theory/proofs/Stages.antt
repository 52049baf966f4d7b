-- The stages of definite rules: how an atom enters, that they grow, and that they end within n.
-- Assumes nothing.
use Prim.Native.Nat.{ℕ, zero, suc, ◌≤◌, ◌<◌}
use mathlib.Core.Path.{◌≡◌, subst}
use mathlib.Core.Bool.{◌&&◌, So, false≢true}
use mathlib.Core.List.{List}
use lib.Dec.{eqb}
use lib.ListN.{length, get_or}
use borrow.Author.Tests.{eqb-true, eq-eqb}
use Rattle.lists.specs.Lists.{all}
use Rattle.lists.proofs.Bools.{and_in, and_left, and_right}
use Rattle.lists.proofs.Tests.{all_at, all_in, any_at, any_in}
use Rattle.lists.proofs.Growing.{by_n, grows_le}
use Rattle.meaning.specs.Program.{is_atom, Atoms}
use Rattle.meaning.specs.Stage.{Definite, stage}
use Rattle.meaning.specs.Numbering.{no_definite}

module _ (D : List Definite) where
  -- rule j puts a into the stage above i
  pub record Enters (i a j : ℕ) : Type 0 where
    pub is_rule : j < length D
    pub its_head : (get_or D j no_definite).head ≡ a
    pub its_body : So (all (stage D i) (get_or D j no_definite).body)

  pub stage_zero : (a : ℕ) → So (stage D zero a) → ⊥
  unfolding stage
  stage_zero a t = false≢true t

  pub stage_at : (i a : ℕ) → So (stage D (suc i) a) → (j : ℕ) × Enters i a j
  unfolding stage
  stage_at i a t =
      let q = any_at (λ d. eqb d.head a && all (stage D i) d.body) D no_definite t in
      let d = get_or D q.0 no_definite in (
        q.0,
        record {
          is_rule = q.1;
          its_head = eqb-true d.head a (and_left (eqb d.head a) (all (stage D i) d.body) q.2);
          its_body = and_right (eqb d.head a) (all (stage D i) d.body) q.2;
        },
      )

  pub stage_in : (i a j : ℕ) → Enters i a j → So (stage D (suc i) a)
  unfolding stage
  stage_in i a j e =
      any_in (λ d. eqb d.head a && all (stage D i) d.body) D no_definite j e.is_rule
      (and_in (eq-eqb (get_or D j no_definite).head a e.its_head) e.its_body)

  all_sub : (X Y : Atoms) (bs : List ℕ) → ((b : ℕ) → So (X b) → So (Y b)) → So (all X bs) → So (all Y bs)
  all_sub X Y bs f t = all_in Y bs 0 (λ j h. f (get_or bs j 0) (all_at X bs 0 t j h))

  -- a rule is used again above a larger stage
  enters_up : (i k a j : ℕ) → ((b : ℕ) → So (stage D i b) → So (stage D k b)) → Enters i a j → Enters k a j
  enters_up i k a j f e =
      record { is_rule = e.is_rule; its_head = e.its_head; its_body = all_sub (stage D i) (stage D k) (get_or D j no_definite).body f e.its_body }

  pub stage_step : (i k : ℕ) → ((b : ℕ) → So (stage D i b) → So (stage D k b)) → (a : ℕ) → So (stage D (suc i) a) → So (stage D (suc k) a)
  stage_step i k f a t = let q = stage_at i a t in stage_in k a q.0 (enters_up i k a q.0 f q.1)

  pub stage_grows : (i a : ℕ) → So (stage D i a) → So (stage D (suc i) a)
  stage_grows zero a t = absurd (stage_zero a t)
  stage_grows (suc i) a t = stage_step i (suc i) (stage_grows i) a t

  pub stage_le : (i j a : ℕ) → i ≤ j → So (stage D i a) → So (stage D j a)
  stage_le = grows_le (stage D) stage_grows

  -- ---- with the heads among the atoms 1 to n
  module _ (n : ℕ) (heads : So (all (λ d. is_atom n d.head) D)) where
    pub stage_atom : (i a : ℕ) → So (stage D i a) → So (is_atom n a)
    stage_atom zero a t = absurd (stage_zero a t)
    stage_atom (suc i) a t =
        let q = stage_at i a t in
        subst (λ (b : ℕ). So (is_atom n b)) q.1.its_head (all_at (λ d. is_atom n d.head) D no_definite heads q.0 q.1.is_rule)

    -- an atom of some stage is in stage n
    pub stage_by_n : (i a : ℕ) → So (stage D i a) → So (stage D n a)
    stage_by_n = by_n n (stage D) stage_grows stage_atom (λ i f a t. stage_step (suc i) i f a t)
