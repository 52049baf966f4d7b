-- Answer texts and lists of values (document 01, "Solver answer", "Check and filling out"; document 02, Q-3): an answer that gives each variable its value,
-- in order, and the values that an answer's literals give, a variable that none names read as false.
--   value_bytes bs      the values bs as bytes, 1 or 0
--   value_literal x v   the literal of variable v that is true where v has the value x
--   literals_for bs     the literals of variables 1, 2, .. that are true where these have the values bs
--   offered bs          the answer with these literals in one v line, without comments
--   offered_text bs     its text
--   is_positive v l     l is the positive literal of variable v
--   values_of n xs      the values of variables 1 to n by the literals xs: v has the value true if its positive literal is one of them
--   LiteralsTrue xs bs  each literal of xs is true where the variables have the values bs
--   Completes n xs bs   bs are n values that make each literal of xs true, and a variable that no literal of xs names is false: the completed assignment
-- Assumes nothing.
use Rattle.std.specs.Prelude.{ℕ, ◌≤◌, ◌<◌, ◌≡◌, Bool, true, false, cond, List, [], map, eqb, length}
use Rattle.std.proofs.Math.Bool.{So}
use Rattle.lists.specs.Lists.{any, tab}
use Rattle.encoding.specs.Literal.{Literal, value_of, literal_true}
use Literal.{var, −◌}
use Rattle.answer_form.specs.Answer.{Answer, answer_text}
use Rattle.answer_form.specs.Pieces.{Spotted}
use Rattle.answer_values.specs.Assign.{literal_at, Unnamed}

abbrev pub value_bytes : List Bool → List ℕ
value_bytes bs = map (λ b. cond b 1 0) bs

-- ---- from values to an answer

abbrev pub value_literal : Bool → ℕ → Literal
value_literal true v = var v
value_literal false v = − v

unfoldable pub literals_for : List Bool → List Literal
literals_for bs = tab (length bs) (λ v. value_literal (value_of bs v) v)

abbrev pub offered : List Bool → Answer
offered bs = Answer.model [] [] (literals_for bs) []

unfoldable pub offered_text : List Bool → List ℕ
offered_text bs = answer_text (offered bs)

-- ---- from an answer's literals to values

abbrev pub is_positive : ℕ → Literal → Bool
is_positive v (var u) = eqb u v
is_positive v (− u) = false

unfoldable pub values_of : ℕ → List Spotted → List Bool
values_of n xs = tab n (λ v. any (λ (x : Spotted). is_positive v x.literal) xs)

abbrev pub LiteralsTrue : List Spotted → List Bool → Type 0
LiteralsTrue xs bs = (k : ℕ) → k < length xs → So (literal_true (value_of bs) (literal_at xs k))

pub record Completes (n : ℕ) (xs : List Spotted) (bs : List Bool) : Type 0 where
  pub sized : length bs ≡ n
  pub each_true_lem : LiteralsTrue xs bs
  pub unnamed_false : (v : ℕ) → 0 < v → v ≤ n → Unnamed xs v → value_of bs v ≡ false
