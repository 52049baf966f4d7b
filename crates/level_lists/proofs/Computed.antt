-- Computed facts about the definitions of this crate: a wrong definition breaks one of them.
-- Assumes nothing.
use mathlib.Core.Path.{◌≡◌, refl}
use mathlib.Core.Bool.{true, false}
use mathlib.Core.List.{[], ◌∷◌, map}
use Rattle.lists.specs.Lists.{tab}
use Rattle.meaning.specs.Samples.{set_of, lecture, blocked}
use Rattle.level_lists.specs.Bytes.{set_in, is_within, enters}

-- a byte after the first n is no atom's; any byte but 0 is in
set_read : tab 4 (set_in 3 (1 ∷ 0 ∷ 2 ∷ 1 ∷ [])) ≡ true ∷ false ∷ true ∷ false ∷ []
set_read = refl

-- the lower end of a range is in it, the upper end is not
range_read : tab 4 (is_within (0 ∷ 1 ∷ 2 ∷ 3 ∷ []) 1 3) ≡ false ∷ true ∷ true ∷ false ∷ []
range_read = refl

-- document 001's example, with the levels 1 and 2 given: a B atom of level 2 is not below 2, nor is one without a level
enters_read : map (enters (set_of (1 ∷ 2 ∷ 3 ∷ [])) (1 ∷ 2 ∷ 0 ∷ 0 ∷ []) 2) lecture.rules ≡ true ∷ false ∷ true ∷ false ∷ false ∷ []
enters_read = refl

-- a rule with a C atom in the set is not kept
blocked_read : map (enters (set_of (2 ∷ [])) (0 ∷ 1 ∷ []) 2) blocked.rules ≡ true ∷ false ∷ []
blocked_read = refl
