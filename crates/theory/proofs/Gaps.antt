-- The highest level, and levels without gaps (document 02, Q-6), over any code.
--   no_higher, highest_reached   no atom has a level above the highest, and above 0 it is the level of some atom
--   one_below       a true atom of level i + 1, i from 1, has a true body atom of level i
--   level_below     so each number from 1 to the level of a true atom is the level of some true atom
--   numbered_gaps   and the highest level is at most the number of true atoms
--   without_gaps    so of the levels of a stable model
-- Assumes nothing.
use Prim.Native.Nat.{ℕ, zero, suc, ◌+◌, ◌-◌, ◌≤◌, ◌<◌}
use native.Mathlib.Omega.{arith}
use mathlib.Core.Path.{◌≡◌, refl, subst}
use mathlib.Core.Logic.{⊎_elim}
use mathlib.Core.Bool.{false, So, cond}
use lib.Dec.{ltb}
use lib.ListN.{length, get_or}
use borrow.Author.Tests.{ltb-true}
use Rattle.lists.specs.Lists.{all, sum, highest}
use Rattle.lists.proofs.Bools.{So-or-not}
use Rattle.lists.proofs.Tests.{all_at}
use Rattle.lists.proofs.Highest.{highest_le, highest_at, reached_count}
use Rattle.meaning.specs.Program.{Atoms, is_atom, body_true}
use Rattle.meaning.specs.Gaps.{WithoutGaps}
use Rattle.theory.proofs.Atoms.{is_atom_lem, by_place}
use Rattle.encoding.specs.Code.{Code, m, rl, inner, level_of, StableIn}
use Rattle.theory.proofs.Reducts.{inner_of_body}
use Rattle.theory.proofs.Numbered.{Ranges, Numbering, stable_numbered}

pub no_higher : (n : ℕ) (ℓ : ℕ → ℕ) (a : ℕ) → So (is_atom n a) → ℓ a ≤ highest n ℓ
no_higher n ℓ = by_place n (λ a. ℓ a ≤ highest n ℓ) (highest_le n ℓ)

pub highest_reached : (n : ℕ) (ℓ : ℕ → ℕ) → zero < highest n ℓ → (a : ℕ) × So (is_atom n a) × (ℓ a ≡ highest n ℓ)
highest_reached n ℓ p = let q = highest_at n ℓ p in (suc q.0, is_atom_lem n (suc q.0) (omega arith) q.1, q.2)

module _ (G : Code) (M : Atoms) (ℓ : ℕ → ℕ) (s : Numbering G M ℓ) where
  -- a true atom of the level i
  abbrev At : ℕ → Type 0
  At i = (b : ℕ) × So (M b) × (ℓ b ≡ i)

  one_below : (a i : ℕ) → So (M a) → ℓ a ≡ suc (suc i) → At (suc i)
  one_below a i t e =
      ⊎_elim (λ (o : So (G.opened a)). absurd (omega (arith, e, s.one a t o)))
      (λ (o : G.opened a ≡ false). let q = s.found a t o in founding q.0 q.1 q.2 q.3 q.4) (So-or-not (G.opened a))
    where
      founding : (r : ℕ) → r < m G → (rl G (suc r)).head ≡ a → So (body_true M (rl G (suc r))) → So (all (λ b. ltb (ℓ b) (ℓ a)) (inner G (suc r))) → At (suc i)
      founding r h x b l = go (length (inner G (suc r))) refl
        where
          go : (k : ℕ) → length (inner G (suc r)) ≡ k → At (suc i)
          go zero z = absurd (omega (arith, e, subst (λ (c : ℕ). ℓ c ≡ 1) x (s.low_none r h b z)))
          go (suc k) z =
              let q = s.low_some r h b (omega (arith, z)) in
              let c = get_or (inner G (suc r)) q.0 0 in (
                c,
                all_at M (inner G (suc r)) 0 (inner_of_body G M (suc r) b) q.0 q.1,
                omega (arith, e, subst (λ (d : ℕ). ℓ d ≤ ℓ c + 1) x q.2, ltb-true (ℓ c) (ℓ a) (all_at (λ b. ltb (ℓ b) (ℓ a)) (inner G (suc r)) 0 l q.0 q.1)),
              )

  -- k levels down
  down : (k a i : ℕ) → So (M a) → ℓ a ≡ suc i + k → At (suc i)
  down zero a i t e = (a, t, omega (arith, e))
  down (suc k) a i t e = let q = one_below a (i + k) t (omega (arith, e)) in down k q.0 i q.1 (omega (arith, q.2))

  pub level_below : (a : ℕ) → So (M a) → (i : ℕ) → zero < i → i ≤ ℓ a → At i
  level_below a t zero p h = absurd (omega (arith, p))
  level_below a t (suc i) p h = down (ℓ a - suc i) a i t (omega (arith, h))

  true_at : (a : ℕ) → zero < ℓ a → So (M a)
  true_at a z = ⊎_elim (λ (t : So (M a)). t) (λ (f : M a ≡ false). absurd (omega (arith, z, s.off a f))) (So-or-not (M a))

  level_at_lem : (i : ℕ) → zero < i → i ≤ highest G.n ℓ → At i
  level_at_lem i p h =
      let q = highest_reached G.n ℓ (omega (arith, p, h)) in
      level_below q.0 (true_at q.0 (omega (arith, p, h, q.2))) i p (omega (arith, h, q.2))

  pub numbered_gaps : WithoutGaps M ℓ (sum G.n (λ a. cond (M a) 1 0)) (highest G.n ℓ)
  numbered_gaps =
      record {
        each_level = level_at_lem;
        at_most = reached_count G.n M ℓ (highest G.n ℓ) (λ i h. from_one i (level_at_lem (suc i) (omega arith) h));
      }
    where
      from_one : (i : ℕ) → At (suc i) → (a : ℕ) × (a < G.n) × So (M (suc a)) × (ℓ (suc a) ≡ suc i)
      from_one i (b, t, e) =
          by_place G.n (λ b. So (M b) → ℓ b ≡ suc i → (a : ℕ) × (a < G.n) × So (M (suc a)) × (ℓ (suc a) ≡ suc i))
          (λ a h t e. (a, h, t, e)) b (s.atoms b t) t e

module _ (G : Code) (M : Atoms) where
  pub without_gaps : Ranges G → StableIn G M → WithoutGaps M (level_of G M) (sum G.n (λ a. cond (M a) 1 0)) (highest G.n (level_of G M))
  without_gaps g s = numbered_gaps G M (level_of G M) (stable_numbered G M g s)
