-- The union of the stages is a model of the rules and is contained in every model: it is the least one.
-- The level of an atom is the first stage that holds it, at most n, and 0 if no stage does.
-- Assumes nothing.
use Prim.Native.Nat.{ℕ, zero, suc, ◌+◌, ◌≤◌, ◌<◌}
use native.Mathlib.Nat.{le_antisymm, zero-lt-suc}
use native.Mathlib.Omega.{arith}
use mathlib.Core.Path.{◌≡◌, refl, subst}
use mathlib.Core.Logic.{⊎_elim}
use mathlib.Core.Bool.{false, So}
use mathlib.Core.List.{List, [], ◌∷◌}
use lib.ListN.{length, get_or}
use Rattle.lists.specs.Lists.{all}
use Rattle.lists.proofs.Bools.{and_in, not_So, false_of}
use Rattle.lists.proofs.Tests.{all_at, all_in, le_or_lt}
use Rattle.lists.proofs.First.{first_is, first_pos, first_none}
use Rattle.meaning.specs.Program.{is_atom}
use Rattle.meaning.specs.Stage.{Definite, stage, InUnion, FirstStage, level_in}
use Rattle.meaning.specs.Numbering.{no_definite, IsModel}
use Rattle.theory.proofs.Stages.{stage_zero, stage_at, stage_in, stage_le, stage_by_n}

module _ (D : List Definite) where
  -- atoms that are each in some stage are in one stage together
  pub collect : (bs : List ℕ) → ((i : ℕ) → i < length bs → InUnion D (get_or bs i 0)) → (k : ℕ) × So (all (stage D k) bs)
  collect [] f = (0, refl)
  collect (b ∷ bs) f = go (f zero (zero-lt-suc (length bs))) (collect bs (λ i h. f (suc i) (omega arith)))
    where
      go : InUnion D b → (k : ℕ) × So (all (stage D k) bs) → (k : ℕ) × So (all (stage D k) (b ∷ bs))
      go u q = (
        u.0 + q.0,
        and_in (stage_le D u.0 (u.0 + q.0) b (omega arith) u.1)
            (all_in (stage D (u.0 + q.0)) bs 0 (λ j h. stage_le D q.0 (u.0 + q.0) (get_or bs j 0) (omega arith) (all_at (stage D q.0) bs 0 q.1 j h))),
      )

  pub union_model : IsModel D (InUnion D)
  union_model =
      record {
        obeys = λ j h f.
            let q = collect (get_or D j no_definite).body f in
            (suc q.0, stage_in D q.0 (get_or D j no_definite).head j (record { is_rule = h; its_head = refl; its_body = q.1 }));
      }

  in_model : (X : ℕ → Type 0) → IsModel D X → (i a : ℕ) → So (stage D i a) → X a
  in_model X m zero a t = absurd (stage_zero D a t)
  in_model X m (suc i) a t =
      let q = stage_at D i a t in
      let bs = (get_or D q.0 no_definite).body in
      subst X q.1.its_head (m.obeys q.0 q.1.is_rule (λ k h. in_model X m i (get_or bs k 0) (all_at (stage D i) bs 0 q.1.its_body k h)))

  pub union_least : (X : ℕ → Type 0) → IsModel D X → (a : ℕ) → InUnion D a → X a
  union_least X m a u = in_model X m u.0 a u.1

  pub first_stage_unique : (a i j : ℕ) → FirstStage D a i → FirstStage D a j → i ≡ j
  first_stage_unique a i j f g =
      le_antisymm (no_later i j f g) (no_later j i g f)
    where
      no_later : (i j : ℕ) → FirstStage D a i → FirstStage D a j → i ≤ j
      no_later i j f g =
          ⊎_elim (λ (l : i ≤ j). l) (λ (l : j < i). absurd (not_So (stage D j a) (f.before j l) g.holds)) (le_or_lt i j)

  module _ (n : ℕ) where
    pub level_le : (a : ℕ) → level_in n D a ≤ n
    unfolding level_in
    level_le a = (first_is n (λ i. stage D i a)).within

    pub level_none : (a : ℕ) → (InUnion D a → ⊥) → level_in n D a ≡ 0
    unfolding level_in
    level_none a f = first_none n (λ i. stage D i a) (λ i h. false_of (stage D (suc i) a) (λ t. f (suc i, t)))

    module _ (heads : So (all (λ d. is_atom n d.head) D)) where
      by_level : (a i : ℕ) → So (stage D i a) → (k : ℕ) × (k < n) × So (stage D (suc k) a)
      by_level a i t = go n refl
        where
          go : (k : ℕ) → n ≡ k → (k : ℕ) × (k < n) × So (stage D (suc k) a)
          go zero e = absurd (stage_zero D a (subst (λ (x : ℕ). So (stage D x a)) e (stage_by_n D n heads i a t)))
          go (suc k) e = (k, omega arith, subst (λ (x : ℕ). So (stage D x a)) e (stage_by_n D n heads i a t))

      pub level_pos : (a : ℕ) → InUnion D a → zero < level_in n D a
      unfolding level_in
      level_pos a u = let q = by_level a u.0 u.1 in first_pos n (λ i. stage D i a) q.0 q.1 q.2

      pub level_first : (a : ℕ) → InUnion D a → FirstStage D a (level_in n D a)
      unfolding level_in
      level_first a u =
          record { holds = (first_is n (λ i. stage D i a)).passes (level_pos a u); before = λ j h. earlier j h }
        where
          earlier : (j : ℕ) → j < level_in n D a → stage D j a ≡ false
          earlier zero h = false_of (stage D zero a) (stage_zero D a)
          earlier (suc j) h = (first_is n (λ i. stage D i a)).none_before j h

      -- the level is at most any stage that holds the atom
      pub level_least : (a i : ℕ) → So (stage D i a) → level_in n D a ≤ i
      level_least a i t =
          ⊎_elim (λ (l : level_in n D a ≤ i). l)
          (λ (l : i < level_in n D a). absurd (not_So (stage D i a) ((level_first a (i, t)).before i l) t)) (le_or_lt (level_in n D a) i)
