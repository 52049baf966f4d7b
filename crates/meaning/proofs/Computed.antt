-- Computed facts about the definitions of this crate: a wrong definition breaks one of them.
-- Assumes nothing.
use Prim.Native.Nat.{ℕ, zero, suc, ◌≤◌, ◌<◌}
use native.Mathlib.Omega.{arith}
use mathlib.Core.Path.{◌≡◌, refl}
use mathlib.Core.Bool.{true, false, So, false≢true, cond}
use mathlib.Core.List.{[], ◌∷◌, map}
use lib.ListN.{get_or}
use Rattle.lists.specs.Lists.{tab, sum, highest}
use Rattle.meaning.specs.Program.{well_formed}
use Rattle.meaning.specs.Stage.{reduct, stage, InUnion, Stable, level, level_in, differ}
use Rattle.meaning.specs.Gaps.{WithoutGaps}
use Rattle.meaning.specs.Samples.{set_of, program, rule, fact, ring, lecture, self_negating, blocked}

-- document 001's example: the levels of its atoms are 1, 2 and 3, and the fourth has none
lecture_levels : tab 4 (level lecture (set_of (1 ∷ 2 ∷ 3 ∷ []))) ≡ 1 ∷ 2 ∷ 3 ∷ 0 ∷ []
unfolding level_in stage reduct
lecture_levels = refl

-- three of them are true and 3 is their highest level; 1, 2 and 3 are each the level of one
lecture_numbers : sum 4 (λ a. cond (set_of (1 ∷ 2 ∷ 3 ∷ []) a) 1 0) ∷ highest 4 (level lecture (set_of (1 ∷ 2 ∷ 3 ∷ []))) ∷ [] ≡ 3 ∷ 3 ∷ []
unfolding level_in stage reduct
lecture_numbers = refl

lecture_without_gaps : WithoutGaps (set_of (1 ∷ 2 ∷ 3 ∷ [])) (level lecture (set_of (1 ∷ 2 ∷ 3 ∷ []))) 3 3
unfolding level_in stage reduct
lecture_without_gaps = record { each_level = λ i p l. at i (omega (arith, p)) (omega (arith, l)); at_most = omega arith }
  where
    at : (i : ℕ) → zero < i → i ≤ 3 → (a : ℕ) × So (set_of (1 ∷ 2 ∷ 3 ∷ []) a) × (level lecture (set_of (1 ∷ 2 ∷ 3 ∷ [])) a ≡ i)
    at zero p l = absurd (omega (arith, p))
    at (suc zero) p l = (1, refl, refl)
    at (suc (suc zero)) p l = (2, refl, refl)
    at (suc (suc (suc zero))) p l = (3, refl, refl)
    at (suc (suc (suc (suc i)))) p l = absurd (omega (arith, l))

-- three atoms of the levels 1, 1 and 3 have a gap: 2 is the level of a false atom alone
gap_at_2 : WithoutGaps (set_of (1 ∷ 3 ∷ 4 ∷ [])) (λ a. get_or (0 ∷ 1 ∷ 2 ∷ 1 ∷ 3 ∷ []) a 0) 3 3 → ⊥
gap_at_2 g = let q = g.each_level 2 (omega arith) (omega arith) in none q.0 q.1 q.2
  where
    none : (a : ℕ) → So (set_of (1 ∷ 3 ∷ 4 ∷ []) a) → get_or {A = ℕ} (0 ∷ 1 ∷ 2 ∷ 1 ∷ 3 ∷ []) a 0 ≡ 2 → ⊥
    none zero t e = omega (arith, e)
    none (suc zero) t e = omega (arith, e)
    none (suc (suc zero)) t e = false≢true t
    none (suc (suc (suc zero))) t e = omega (arith, e)
    none (suc (suc (suc (suc zero)))) t e = omega (arith, e)
    none (suc (suc (suc (suc (suc a))))) t e = omega (arith, e)

-- one atom has no two levels
levels_past_atoms : WithoutGaps (set_of (1 ∷ [])) (λ a. a) 1 2 → ⊥
levels_past_atoms g = omega (arith, g.at_most)

-- atom 2 is in the reduct's stages although the rule for 1 is not kept
blocked_levels : tab 2 (level blocked (set_of (2 ∷ []))) ≡ 0 ∷ 1 ∷ []
unfolding level_in stage reduct
blocked_levels = refl

-- a set may lack an atom of its least model, or hold one too many: both tell, and the smallest atom is named
spots : differ fact (set_of []) ∷ differ ring (set_of (1 ∷ 2 ∷ [])) ∷ differ ring (set_of []) ∷ differ self_negating (set_of []) ∷ differ self_negating (set_of (1 ∷ [])) ∷ []
    ≡ 1 ∷ 1 ∷ 0 ∷ 1 ∷ 1 ∷ []
unfolding differ stage reduct
spots = refl

-- the empty set is no stable model of a fact: it lacks the fact
empty_lacks_fact : Stable fact (set_of []) → ⊥
unfolding stage reduct
empty_lacks_fact s = false≢true (s.closed 1 (1, refl))

-- an atom that no rule gives is in no stable model
unfounded_one : Stable (program 1 []) (set_of (1 ∷ [])) → ⊥
unfolding stage reduct
unfounded_one s = none (s.founded 1 refl)
  where
    none : InUnion (reduct (program 1 []) (set_of (1 ∷ []))) 1 → ⊥
    none (zero, t) = false≢true t
    none (suc i, t) = false≢true t

-- the atoms of a well-formed program are 1 to n, in heads and in both lists
ranges : map well_formed
    (program 1 (rule 0 [] [] ∷ []) ∷ program 1 (rule 2 [] [] ∷ []) ∷ program 1 (rule 1 (2 ∷ []) [] ∷ [])
    ∷ program 1 (rule 1 [] (0 ∷ []) ∷ []) ∷ lecture ∷ [])
    ≡ false ∷ false ∷ false ∷ false ∷ true ∷ []
unfolding well_formed
ranges = refl
