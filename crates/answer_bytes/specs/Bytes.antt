-- The bytes of an assignment (document 01, "Check and filling out", rows 13 and 14; document 02, Q-3). The byte of variable v stands at v - 1: 1 or 0 is its
-- value, 2 says that it has none yet. n is the number of variables.
--   put_outcome n v s b   what it is to give a value to variable v, whose literal's first byte is s: stray, repeated or done
--   put_bytes n v x b     the buffer after it, where the value is x
--   unset_count n b       how many variables have no value in b
--   completed bs          the values bs, a variable that has none read as false
--   overwritten n x b     b with x in its first n places
--   number_value x        the value that the literal with number x gives
--   Assigned              the code's answers: each literal is assigned, or why the first that is not is not
--   assigned_for o        the code's answer for an outcome
-- Assumes nothing.
use Rattle.std.specs.Prelude.{ℕ, ◌-◌, cond, List, ◌++◌, map, eqb, ltb, ℤ, get_or, set, drop, replicate, ⊤, Result, Ok, Err}
use Rattle.lists.specs.Lists.{sum}
use Rattle.clause_literals.specs.Signed.{is_negative}
use Rattle.answer_bytes.specs.declared.AssignFault.{AssignFault}
use Rattle.answer_bytes.specs.declared.AssignFault.TheVariants.{Stray, Repeated}

-- ---- one literal

pub data Outcome : Type 0 where
  done : Outcome
  stray : (spot : ℕ) → Outcome
  repeated : (spot : ℕ) → Outcome

unfoldable pub put_outcome : ℕ → ℕ → ℕ → List ℕ → Outcome
put_outcome n v s b = cond (ltb n v) (Outcome.stray s) (cond (eqb (get_or b (v - 1) 0) 2) Outcome.done (Outcome.repeated s))

unfoldable pub put_bytes : ℕ → ℕ → ℕ → List ℕ → List ℕ
put_bytes n v x b = cond (ltb n v) b (cond (eqb (get_or b (v - 1) 0) 2) (set b (v - 1) x) b)

-- ---- the whole buffer

unfoldable pub unset_count : ℕ → List ℕ → ℕ
unset_count n b = sum n (λ v. cond (eqb (get_or b (v - 1) 0) 2) 1 0)

-- a variable that has no value is read as false
abbrev pub completed_byte : ℕ → ℕ
completed_byte x = cond (eqb x 2) 0 x

abbrev pub completed : List ℕ → List ℕ
completed bs = map completed_byte bs

unfoldable pub overwritten : ℕ → ℕ → List ℕ → List ℕ
overwritten n x b = replicate n x ++ drop n b

-- ---- for the code

abbrev pub number_value : ℤ → ℕ
number_value x = cond (is_negative x) 0 1

abbrev pub Assigned : Type 0
Assigned = Result ⊤ AssignFault

abbrev pub assigned_for : Outcome → Assigned
assigned_for Outcome.done = Ok tt
assigned_for (Outcome.stray s) = Err (Stray s)
assigned_for (Outcome.repeated s) = Err (Repeated s)
