-- Computed facts about the definitions of this crate: a wrong definition breaks one of them, by an assignment that is lost or one too many.
-- Assumes nothing.
use mathlib.Core.Path.{◌≡◌, refl}
use mathlib.Core.Bool.{true, false}
use mathlib.Core.List.{[], ◌∷◌, map}
use lib.IntN.{pos, negsuc}
use Rattle.lists.specs.Lists.{all}
use Rattle.meaning.specs.Stage.{level_in, stage, reduct}
use Rattle.meaning.specs.Samples.{set_of, program, rule, fact}
use Rattle.encoding.specs.Width.{width, bits_for}
use Rattle.encoding.specs.Literal.{var, −◌, literal_number, value_of, all_true}
use Rattle.encoding.specs.Clauses.{clauses, pairs, pairs_before, rules_of}
use Rattle.encoding.specs.Counter.{successor, chain}
use Rattle.encoding.specs.Fill.{fill, fill_with}
use Rattle.encoding.proofs.Examples.{examples}

-- one atom and no rule: the set {} with a counter of 2 would be a second assignment of {} (group 3 rules it out)
no_free_counter : all_true (value_of (false ∷ false ∷ true ∷ true ∷ true ∷ [])) (clauses (program 1 []) 2) ≡ false
unfolding value_of clauses pairs pairs_before rules_of successor chain
no_free_counter = refl

-- "1 from 1": the set {1}, unfounded, with counter 1 and every other variable as it must be, would be one assignment too many (group 7 rules it out)
no_unfounded : all_true
    (value_of (true ∷ true ∷ false ∷ true ∷ false ∷ false ∷ true ∷ false ∷ false ∷ true ∷ false ∷ []))
    (clauses (program 1 (rule 1 (1 ∷ []) [] ∷ [])) 2)
    ≡ false
unfolding value_of clauses pairs pairs_before rules_of successor chain
no_unfounded = refl

-- every stable set of the examples has a filled-out list that makes every clause true: none is lost
filled_true : map (λ e. let w = width e.program.atoms in all (λ xs. all_true (value_of (fill e.program w (set_of xs))) (clauses e.program w)) e.models) examples
    ≡ true ∷ true ∷ true ∷ true ∷ true ∷ true ∷ true ∷ true ∷ []
unfolding fill fill_with value_of bits_for clauses pairs pairs_before rules_of successor chain level_in stage reduct
filled_true = refl

-- document 01's writer example, clause by clause
pub fact_clauses : clauses fact 2
    ≡ (var 2 ∷ []) ∷ (var 1 ∷ − 2 ∷ []) ∷ (− 1 ∷ var 2 ∷ []) ∷ (var 1 ∷ − 4 ∷ []) ∷ (var 1 ∷ − 5 ∷ []) ∷ (− 6 ∷ − 4 ∷ []) ∷ (var 6 ∷ var 4 ∷ [])
    ∷ (var 4 ∷ − 7 ∷ var 5 ∷ []) ∷ (var 4 ∷ var 7 ∷ − 5 ∷ []) ∷ (− 4 ∷ − 7 ∷ − 5 ∷ []) ∷ (− 4 ∷ var 7 ∷ var 5 ∷ []) ∷ (− 3 ∷ var 2 ∷ [])
    ∷ (var 3 ∷ − 2 ∷ []) ∷ (− 2 ∷ var 4 ∷ []) ∷ (− 2 ∷ − 5 ∷ []) ∷ (− 1 ∷ var 3 ∷ []) ∷ []
unfolding clauses pairs pairs_before rules_of successor chain
fact_clauses = refl

-- and its answer "v 1 2 3 4 -5 -6 7 0"
pub fact_filled : fill fact 2 (set_of (1 ∷ [])) ≡ true ∷ true ∷ true ∷ true ∷ false ∷ false ∷ true ∷ []
unfolding fill fill_with pairs level_in stage reduct
fact_filled = refl

-- a negated literal's number is negative
numbers : map literal_number (var 5 ∷ − 5 ∷ []) ≡ pos 5 ∷ negsuc 4 ∷ []
numbers = refl

-- the largest n of each width, and one more
table : map width (0 ∷ 2 ∷ 6 ∷ 14 ∷ 30 ∷ 62 ∷ 126 ∷ []) ≡ 1 ∷ 2 ∷ 3 ∷ 4 ∷ 5 ∷ 6 ∷ 7 ∷ []
unfolding bits_for
table = refl

past_table : map width (1 ∷ 3 ∷ 7 ∷ 15 ∷ 31 ∷ 63 ∷ 127 ∷ []) ≡ 2 ∷ 3 ∷ 4 ∷ 5 ∷ 6 ∷ 7 ∷ 8 ∷ []
unfolding bits_for
past_table = refl
