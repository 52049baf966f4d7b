-- Computed facts about the definitions of this crate: a wrong definition breaks one of them.
-- Assumes nothing.
use Prim.Native.Nat.{ℕ}
use mathlib.Core.Path.{◌≡◌, refl}
use mathlib.Core.Bool.{true, false}
use mathlib.Core.List.{List, [], ◌∷◌, map}
use Rattle.lists.specs.Lists.{any}
use Rattle.meaning.specs.Samples.{set_of, lecture, blocked}
use Rattle.level_stages.specs.Levels.{fires, first_difference}
use Rattle.level_stages.proofs.OneRound.{bytes_after}

-- document 001's example round by round: a level given in a round does not count in it, and the byte after the atoms stays
lecture_round : ℕ → List ℕ → List ℕ
lecture_round i ls = bytes_after 4 (set_of (1 ∷ 2 ∷ 3 ∷ [])) ls i lecture.rules

rounds_read : lecture_round 1 (0 ∷ 0 ∷ 0 ∷ 0 ∷ 9 ∷ []) ∷ lecture_round 2 (1 ∷ 0 ∷ 0 ∷ 0 ∷ 9 ∷ []) ∷ lecture_round 3 (1 ∷ 2 ∷ 0 ∷ 0 ∷ 9 ∷ []) ∷ lecture_round 4 (1 ∷ 2 ∷ 3 ∷ 0 ∷ 9 ∷ []) ∷ []
    ≡ (1 ∷ 0 ∷ 0 ∷ 0 ∷ 9 ∷ []) ∷ (1 ∷ 2 ∷ 0 ∷ 0 ∷ 9 ∷ []) ∷ (1 ∷ 2 ∷ 3 ∷ 0 ∷ 9 ∷ []) ∷ (1 ∷ 2 ∷ 3 ∷ 0 ∷ 9 ∷ []) ∷ []
unfolding lecture_round
rounds_read = refl

-- the third round gives a level, the fourth none
given_read : any (fires (set_of (1 ∷ 2 ∷ 3 ∷ [])) (1 ∷ 2 ∷ 0 ∷ 0 ∷ []) 3) lecture.rules ∷ any (fires (set_of (1 ∷ 2 ∷ 3 ∷ [])) (1 ∷ 2 ∷ 3 ∷ 0 ∷ []) 4) lecture.rules ∷ []
    ≡ true ∷ false ∷ []
given_read = refl

-- a rule with a C atom in the set is not kept
blocked_read : bytes_after 2 (set_of (2 ∷ [])) (0 ∷ 1 ∷ []) 2 blocked.rules ≡ 0 ∷ 1 ∷ []
blocked_read = refl

-- the first atom with byte 0 in one of the two alone
unlike_read : map (first_difference 3 (1 ∷ 0 ∷ 1 ∷ [])) ((2 ∷ 0 ∷ 3 ∷ 1 ∷ []) ∷ (2 ∷ 1 ∷ 0 ∷ []) ∷ (2 ∷ 0 ∷ 0 ∷ []) ∷ []) ≡ 0 ∷ 2 ∷ 3 ∷ []
unfolding first_difference
unlike_read = refl
