-- The walk gives the clause list of the sample programs: computed.
-- Assumes nothing.
use mathlib.Core.Path.{◌≡◌, refl}
use mathlib.Core.List.{[], ◌∷◌, map}
use Rattle.meaning.specs.Samples.{fact, ring, loop, lecture, blocked}
use Rattle.encoding.specs.Counter.{successor, chain}
use Rattle.encoding.specs.Clauses.{clauses, pairs, pairs_before, rules_of}
use Rattle.encoding.specs.Code.{whole, inner, pair_list, before}
use Rattle.clause_walk.specs.Walk.{item_count, block_count, size, slots, slot, walked, group_of}

pub samples_walked : map (λ P. walked (whole P 3)) (fact ∷ ring ∷ loop ∷ lecture ∷ blocked ∷ []) ≡ map (λ P. clauses P 3) (fact ∷ ring ∷ loop ∷ lecture ∷ blocked ∷ [])
unfolding walked item_count block_count size slots slot inner pair_list before clauses pairs pairs_before rules_of successor chain group_of
samples_walked = refl
