-- Document 01's examples, computed from the definitions, and its wrong turns, each by a program that it gets wrong. The examples that are run and matched are
-- in the crates of programs.
--   starred              the starred examples, as one table
--   texts                number and spot of a table of program texts
--   fact_example         the fact of "Programs": its clauses, its filled-out list, the answer that prints it and the line of its model
--   wrong_turns          what the wrong turns lose or let in
use Prim.Native.Nat.{◌+◌, ◌*◌}
use mathlib.Core.Path.{◌≡◌}
use mathlib.Core.Bool.{Bool, true, false}
use mathlib.Core.List.{List, [], ◌∷◌, map}
use lib.ListN.{length}
use Rattle.lists.specs.Lists.{joined}
use Rattle.lists.specs.Ascii.{ascii}
use Rattle.meaning.specs.Samples.{set_of, program, fact, ring, loop}
use Rattle.meaning.specs.Stage.{differ}
use Rattle.encoding.specs.Width.{bits_for, width}
use Rattle.encoding.specs.Literal.{var, −◌, value_of, all_true}
use Rattle.encoding.specs.Clauses.{group1, group2, clauses, variables}
use Rattle.encoding.specs.Fill.{fill}
use Rattle.encoding.proofs.Examples.{computed, examples, examples_hold}
use Rattle.encoding.proofs.Computed as Computed
use Rattle.encoding.proofs.WrongTurns as Wrong
use Rattle.encoding.proofs.WrongTurns.{unlimited, uncounted, one, two, zeroed, free}
use Rattle.reader.proofs.Computed.{computed as computedRow, cases, cases_hold}
use Rattle.answer_offers.specs.Offered.{offered_text}
use Rattle.answer_offers.proofs.Computed.{text_offered}
use Rattle.checker_model.specs.Model.{model_text}
use Rattle.checker_model.proofs.Computed.{model_fact}

-- each row of the table, computed from the definitions, is as document 01 gives it: V, C, every stable set with its levels, every other set with its spot
pub starred : map computed examples ≡ examples
starred = examples_hold

-- the row and spot that the reader answers to each text of the table, computed from the definitions, are those that stand there
pub texts : map computedRow cases ≡ cases
texts = cases_hold

-- ---- the fact

pub record FactExample : Type 0 where
  -- the clauses that document 01 prints for it, in its order
  pub its_clauses : clauses fact 2
      ≡ (var 2 ∷ []) ∷ (var 1 ∷ − 2 ∷ []) ∷ (− 1 ∷ var 2 ∷ []) ∷ (var 1 ∷ − 4 ∷ []) ∷ (var 1 ∷ − 5 ∷ []) ∷ (− 6 ∷ − 4 ∷ []) ∷ (var 6 ∷ var 4 ∷ [])
      ∷ (var 4 ∷ − 7 ∷ var 5 ∷ []) ∷ (var 4 ∷ var 7 ∷ − 5 ∷ []) ∷ (− 4 ∷ − 7 ∷ − 5 ∷ []) ∷ (− 4 ∷ var 7 ∷ var 5 ∷ []) ∷ (− 3 ∷ var 2 ∷ [])
      ∷ (var 3 ∷ − 2 ∷ []) ∷ (− 2 ∷ var 4 ∷ []) ∷ (− 2 ∷ − 5 ∷ []) ∷ (− 1 ∷ var 3 ∷ []) ∷ []
  -- the filled-out list of {1}
  pub filled : fill fact 2 (set_of (1 ∷ [])) ≡ true ∷ true ∷ true ∷ true ∷ false ∷ false ∷ true ∷ []
  -- the answer that prints this list is document 01's; that of the empty list has no literal
  pub answers : map offered_text ((true ∷ true ∷ true ∷ true ∷ false ∷ false ∷ true ∷ []) ∷ [] ∷ [])
      ≡ map ascii ("s SATISFIABLE\nv 1 2 3 4 -5 -6 7 0\n" ∷ "s SATISFIABLE\nv 0\n" ∷ [])
  -- and the line of its model, with these values as bytes and level 1
  pub model_line_lem : model_text 1 (1 ∷ 1 ∷ 1 ∷ 1 ∷ 0 ∷ 0 ∷ 1 ∷ []) (1 ∷ []) ≡ ascii "(model (1) (1))\n"

pub fact_example : FactExample
fact_example = record { its_clauses = Computed.fact_clauses; filled = Computed.fact_filled; answers = text_offered; model_line_lem = model_fact }

-- ---- wrong turns

pub record WrongTurns : Type 0 where
  -- the width for n + 1 values and the one of document 000 are 1 for one atom, and document 01's is 2
  pub widths : bits_for (1 + 1) ∷ bits_for (2 * 1) ∷ width 1 ∷ [] ≡ 1 ∷ 1 ∷ 2 ∷ []
  -- at width 1 "1; 1 from 1" loses its model: no list of values makes every clause true
  pub narrow_loses : (bs : List Bool) → length bs ≡ variables loop 1 → all_true (value_of bs) (clauses loop 1) ≡ false
  -- at width 2 the filled-out list of {1} makes every clause true, and {1} is stable
  pub wide_keeps : (all_true (value_of (fill loop 2 (set_of (1 ∷ [])))) (clauses loop 2) ≡ true) × (differ loop (set_of (1 ∷ [])) ≡ 0)
  -- groups 1 and 2 alone accept the ring with both atoms, which is not stable: spot 1
  pub completion : (all_true (value_of (true ∷ true ∷ true ∷ true ∷ [])) (joined (group1 ring 2 ∷ group2 ring 2 ∷ [])) ≡ true)
      × (differ ring (set_of (1 ∷ 2 ∷ [])) ≡ 1)
  -- without group 6's last clauses the fact's model has the counters 1 and 2
  pub many_numberings : map (λ bs. all_true (value_of bs) (unlimited fact 2)) (one ∷ two ∷ []) ≡ true ∷ true ∷ []
  -- and with them 1 alone
  pub one_numbering : map (λ bs. all_true (value_of bs) (clauses fact 2)) (one ∷ two ∷ []) ≡ true ∷ false ∷ []
  -- without group 3 the empty set has the counters 0 and 1
  pub many_assignments : map (λ bs. all_true (value_of bs) (uncounted (program 1 []) 2)) (zeroed ∷ free ∷ []) ≡ true ∷ true ∷ []
  -- and with it 0 alone
  pub one_assignment : map (λ bs. all_true (value_of bs) (clauses (program 1 []) 2)) (zeroed ∷ free ∷ []) ≡ true ∷ false ∷ []

pub wrong_turns : WrongTurns
wrong_turns =
    record {
      widths = Wrong.narrow_widths;
      narrow_loses = Wrong.narrow_loses;
      wide_keeps = Wrong.wide_keeps;
      completion = Wrong.completion_accepts_ring;
      many_numberings = Wrong.many_numberings;
      one_numbering = Wrong.one_numbering;
      many_assignments = Wrong.many_assignments;
      one_assignment = Wrong.one_assignment;
    }
