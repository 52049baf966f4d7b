-- Computed facts about the definitions of this crate: a wrong definition breaks one of them.
-- Assumes nothing.
use mathlib.Core.Path.{◌≡◌, refl}
use mathlib.Core.List.{[], ◌∷◌}
use Rattle.encoding.specs.Fill.{fill_with}
use Rattle.encoding.specs.Code.{whole, inner, pair_list}
use Rattle.lists.specs.Lists.{each}
use Rattle.meaning.specs.Samples.{set_of, fact, loop}
use Rattle.answer_offers.specs.Offered.{value_bytes}
use Rattle.level_fill.specs.Values.{family_bytes, filled_with}

-- document 01's answer "v 1 2 3 4 -5 -6 7"
fact_read : value_bytes (filled_with (whole fact 2) (set_of (1 ∷ [])) (λ a. 1)) ≡ 1 ∷ 1 ∷ 1 ∷ 1 ∷ 0 ∷ 0 ∷ 1 ∷ []
unfolding filled_with fill_with inner pair_list
fact_read = refl

-- 1; 1 from 1: both bodies are true, and the second rule founds nothing; the families are those of the filled-out values
loop_read : each 6 (family_bytes (whole loop 2) 1 2 (set_of (1 ∷ [])) (λ a. 1)) ≡ 1 ∷ 1 ∷ 1 ∷ 1 ∷ 0 ∷ 1 ∷ 0 ∷ 0 ∷ 1 ∷ 0 ∷ 0 ∷ 1 ∷ 0 ∷ []
unfolding inner pair_list
loop_read = refl
