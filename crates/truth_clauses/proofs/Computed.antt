-- The tests of clauses and items on document 01's fact, computed from the definitions. By hand: with the values of its model (1, 2, 3, 4 and 7 true) every clause
-- is true; with s(1), variable 3, false, clause 13 (3, −2) and clause 16 (−1, 3) are false, the second clause of group 6 and the clause of group 7.
--   model_tested, flipped_tested     clauses 1 to 16
--   flipped_items                    of each group with an item: whether item 1 is true, how many clauses it has, and how many stand before it
--   flipped_first                    the first false clause
-- Assumes nothing.
use Prim.Native.Nat.{ℕ}
use mathlib.Core.Path.{◌≡◌, refl}
use mathlib.Core.Bool.{Bool, true, false}
use mathlib.Core.List.{List, [], ◌∷◌, map}
use Rattle.lists.specs.Lists.{tab}
use Rattle.meaning.specs.Samples.{fact}
use Rattle.encoding.specs.Clauses.{rules_of}
use Rattle.encoding.specs.Code.{code_of, clauses_of, inner, pair_list, before}
use Rattle.encoding.specs.Width.{bits_for}
use Rattle.encoding.specs.Counter.{successor, chain}
use Rattle.clause_walk.specs.Walk.{item_count, block_count, size, slots, slot, group_of}
use Rattle.clause_counts.specs.Counts.{item_size}
use Rattle.truth_literals.specs.Items.{block_true, item_true}
use Rattle.truth_clauses.specs.Truth.{value_in, item_before, code_true, code_first_false}

abbrev model : List ℕ
model = 1 ∷ 1 ∷ 1 ∷ 1 ∷ 0 ∷ 0 ∷ 1 ∷ []

abbrev flipped : List ℕ
flipped = 1 ∷ 1 ∷ 0 ∷ 1 ∷ 0 ∷ 0 ∷ 1 ∷ []

pub model_tested : tab 16 (code_true (code_of fact) model)
    ≡ true ∷ true ∷ true ∷ true ∷ true ∷ true ∷ true ∷ true ∷ true ∷ true ∷ true ∷ true ∷ true ∷ true ∷ true ∷ true ∷ []
unfolding bits_for clauses_of inner pair_list before rules_of successor chain
model_tested = refl

pub flipped_tested : tab 16 (code_true (code_of fact) flipped)
    ≡ true ∷ true ∷ true ∷ true ∷ true ∷ true ∷ true ∷ true ∷ true ∷ true ∷ true ∷ true ∷ false ∷ true ∷ true ∷ false ∷ []
unfolding bits_for clauses_of inner pair_list before rules_of successor chain
flipped_tested = refl

abbrev of_item : ℕ → Bool × ℕ × ℕ
of_item g = (item_true (code_of fact) (value_in flipped) g 1, item_size (code_of fact) g 1, item_before (code_of fact) g 1)

pub flipped_items : map of_item (1 ∷ 2 ∷ 3 ∷ 4 ∷ 6 ∷ 7 ∷ []) ≡ (true, 1, 0) ∷ (true, 2, 1) ∷ (true, 2, 3) ∷ (true, 6, 5) ∷ (false, 4, 11) ∷ (false, 1, 15) ∷ []
unfolding bits_for item_true block_true item_count block_count size slots slot group_of inner pair_list before
flipped_items = refl

pub flipped_first : code_first_false (code_of fact) flipped ≡ 13
unfolding bits_for code_first_false clauses_of inner pair_list before rules_of successor chain
flipped_first = refl
