-- Buffers counted and completed.
--   unset_read      how many of the variables 1 to 3 have no value in a buffer
--   completed_read  values, a variable that has none read as false
-- Assumes nothing.
use mathlib.Core.Path.{◌≡◌, refl}
use mathlib.Core.List.{[], ◌∷◌, map}
use Rattle.answer_bytes.specs.Bytes.{unset_count, completed}

pub unset_read : map (unset_count 3) ((1 ∷ 0 ∷ 1 ∷ 2 ∷ []) ∷ (2 ∷ 0 ∷ 2 ∷ 8 ∷ []) ∷ (2 ∷ 2 ∷ 2 ∷ 2 ∷ []) ∷ []) ≡ 0 ∷ 2 ∷ 3 ∷ []
unfolding unset_count
unset_read = refl

pub completed_read : map completed ((1 ∷ 0 ∷ 1 ∷ []) ∷ (2 ∷ 0 ∷ 2 ∷ []) ∷ (2 ∷ 1 ∷ 2 ∷ []) ∷ (2 ∷ 2 ∷ 2 ∷ []) ∷ [])
    ≡ (1 ∷ 0 ∷ 1 ∷ []) ∷ (0 ∷ 0 ∷ 0 ∷ []) ∷ (0 ∷ 1 ∷ 0 ∷ []) ∷ (0 ∷ 0 ∷ 0 ∷ []) ∷ []
completed_read = refl
