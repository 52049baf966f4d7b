-- Document 01's wrong turns ("Wrong turns"), each shown on the program that it gets wrong.
-- Assumes nothing.
use Prim.Native.Nat.{ℕ, zero, suc, ◌+◌, ◌*◌}
use native.Mathlib.Nat.{suc_inj, suc-ne-zero}
use mathlib.Core.Path.{◌≡◌, refl, sym}
use mathlib.Core.Bool.{Bool, true, false, not, ◌&&◌, So}
use mathlib.Core.List.{List, [], ◌∷◌, map}
use lib.ListN.{length}
use borrow.Author.Tests.{not-true}
use Rattle.lists.specs.Lists.{each, joined}
use Rattle.lists.proofs.Bools.{and_left, and_right}
use Rattle.meaning.specs.Program.{Program}
use Rattle.meaning.specs.Stage.{differ, stage, reduct, level_in}
use Rattle.meaning.specs.Samples.{set_of, program, fact, ring, loop}
use Rattle.encoding.specs.Width.{bits_for, width}
use Rattle.encoding.specs.Literal.{Clause, value_of, all_true}
use Rattle.encoding.specs.Counter.{successor, chain}
use Rattle.encoding.specs.Clauses.{sizes, pairs, pairs_before, pairs_of, rules_of, founds_clauses, group1, group2, group3, group4, group5, group6, group7, clauses, variables}
use Rattle.encoding.specs.Fill.{fill, fill_with}

-- a test that passes at every list of k values, computed
abbrev every_list : ℕ → (List Bool → Bool) → Bool
every_list zero p = p []
every_list (suc k) p = every_list k (λ bs. p (false ∷ bs)) && every_list k (λ bs. p (true ∷ bs))

every_list_lem : (k : ℕ) (p : List Bool → Bool) → So (every_list k p) → (bs : List Bool) → length bs ≡ k → So (p bs)
every_list_lem zero p t [] e = t
every_list_lem zero p t (b ∷ bs) e = absurd (suc-ne-zero (length bs) e)
every_list_lem (suc k) p t [] e = absurd (suc-ne-zero k (sym e))
every_list_lem (suc k) p t (false ∷ bs) e =
    every_list_lem k (λ bs. p (false ∷ bs)) (and_left (every_list k (λ bs. p (false ∷ bs))) (every_list k (λ bs. p (true ∷ bs))) t) bs (suc_inj e)
every_list_lem (suc k) p t (true ∷ bs) e =
    every_list_lem k (λ bs. p (true ∷ bs)) (and_right (every_list k (λ bs. p (false ∷ bs))) (every_list k (λ bs. p (true ∷ bs))) t) bs (suc_inj e)

-- ---- "Width for n + 1 values: "1; 1 from 1" loses its model, since next wraps. Width ⌈1 + log2 n⌉ of 000 fails there too."

-- for one atom both widths are 1 (⌈1 + log2 n⌉ is the smallest w with 2^w at least 2n), and document 01's is 2
pub narrow_widths : bits_for (1 + 1) ∷ bits_for (2 * 1) ∷ width 1 ∷ [] ≡ 1 ∷ 1 ∷ 2 ∷ []
unfolding bits_for
narrow_widths = refl

loop_tried : every_list 9 (λ bs. not (all_true (value_of bs) (clauses loop 1))) ≡ true
unfolding value_of clauses pairs pairs_before rules_of successor chain
loop_tried = refl

loop_variables : variables loop 1 ≡ 9
unfolding variables pairs
loop_variables = refl

-- at width 1 no list of values makes every clause true
pub narrow_loses : (bs : List Bool) → length bs ≡ variables loop 1 → all_true (value_of bs) (clauses loop 1) ≡ false
narrow_loses bs e =
    not-true (all_true (value_of bs) (clauses loop 1))
    (every_list_lem 9 (λ bs. not (all_true (value_of bs) (clauses loop 1))) loop_tried bs (rw (← loop_variables) e))

-- at width 2 the filled-out list of {1} does, and {1} is the least model of its reduct
pub wide_keeps : (all_true (value_of (fill loop 2 (set_of (1 ∷ [])))) (clauses loop 2) ≡ true) × (differ loop (set_of (1 ∷ [])) ≡ 0)
unfolding value_of clauses pairs pairs_before rules_of successor chain fill fill_with level_in stage reduct differ
wide_keeps = (refl, refl)

-- ---- "Completion alone accepts the ring."

-- groups 1 and 2, the completion, are true where both atoms and both bodies are; {1, 2} is refused with spot 1
pub completion_accepts_ring :
    (all_true (value_of (true ∷ true ∷ true ∷ true ∷ [])) (joined (group1 ring 2 ∷ group2 ring 2 ∷ [])) ≡ true)
    × (differ ring (set_of (1 ∷ 2 ∷ [])) ≡ 1)
unfolding value_of rules_of stage reduct differ
completion_accepts_ring = (refl, refl)

-- ---- ""Head above body" without group 6's last clauses admits many numberings."

unfoldable pub unlimited : Program → ℕ → List Clause
unlimited P w =
    joined
    (group1 P w ∷ group2 P w ∷ group3 P w ∷ group4 P w ∷ group5 P w ∷ each (length P.rules) (λ r. founds_clauses (sizes P w) r (pairs_of P r)) ∷ group7 P w ∷ [])

-- the fact's one model with counter 1, and with counter 2: both pass without the last clauses, and the first alone with them
abbrev pub one : List Bool
one = true ∷ true ∷ true ∷ true ∷ false ∷ false ∷ true ∷ []

abbrev pub two : List Bool
two = true ∷ true ∷ true ∷ false ∷ true ∷ true ∷ true ∷ []

pub many_numberings :
    map (λ bs. all_true (value_of bs) (unlimited fact 2)) (one ∷ two ∷ []) ≡ true ∷ true ∷ []
unfolding unlimited value_of pairs pairs_before rules_of successor chain
many_numberings = refl

pub one_numbering : map (λ bs. all_true (value_of bs) (clauses fact 2)) (one ∷ two ∷ []) ≡ true ∷ false ∷ []
unfolding clauses value_of pairs pairs_before rules_of successor chain
one_numbering = refl

-- ---- "Counters of false atoms left free: one model, many assignments."

unfoldable pub uncounted : Program → ℕ → List Clause
uncounted P w = joined (group1 P w ∷ group2 P w ∷ group4 P w ∷ group5 P w ∷ group6 P w ∷ group7 P w ∷ [])

-- one atom and no rule: the empty set with counter 0, and with counter 1
abbrev pub zeroed : List Bool
zeroed = false ∷ false ∷ false ∷ true ∷ false ∷ []

abbrev pub free : List Bool
free = false ∷ true ∷ false ∷ false ∷ true ∷ []

pub many_assignments : map (λ bs. all_true (value_of bs) (uncounted (program 1 []) 2)) (zeroed ∷ free ∷ []) ≡ true ∷ true ∷ []
unfolding uncounted value_of pairs pairs_before rules_of successor chain
many_assignments = refl

pub one_assignment : map (λ bs. all_true (value_of bs) (clauses (program 1 []) 2)) (zeroed ∷ free ∷ []) ≡ true ∷ false ∷ []
unfolding clauses value_of pairs pairs_before rules_of successor chain
one_assignment = refl
