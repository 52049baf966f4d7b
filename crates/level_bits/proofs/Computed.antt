-- Computed facts about the definitions of this crate: a wrong definition breaks one of them.
-- Assumes nothing.
use mathlib.Core.Path.{◌≡◌, refl}
use mathlib.Core.List.{[], ◌∷◌}
use Rattle.level_bits.specs.Bits.{bit_bytes, less_bytes, pair_bytes}

-- the lowest bit is first
bits_read : bit_bytes 3 6 ∷ bit_bytes 3 1 ∷ [] ≡ (0 ∷ 1 ∷ 1 ∷ []) ∷ (1 ∷ 0 ∷ 0 ∷ []) ∷ []
bits_read = refl

less_read : less_bytes 3 1 2 ∷ less_bytes 3 4 3 ∷ less_bytes 3 3 3 ∷ [] ≡ (0 ∷ 1 ∷ 1 ∷ []) ∷ (1 ∷ 1 ∷ 0 ∷ []) ∷ (0 ∷ 0 ∷ 0 ∷ []) ∷ []
less_read = refl

-- the second chain compares the next
pair_read : pair_bytes 2 1 2 ≡ 0 ∷ 1 ∷ 0 ∷ 0 ∷ []
pair_read = refl
