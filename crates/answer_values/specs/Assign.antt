-- An answer's literals, assigned one after the other to a buffer of bytes (document 01, "Check and filling out", rows 13 and 14), and the variables that no
-- literal names, which are read as false (document 02, Q-3). The bytes are those of answer_bytes (Bytes). n is the number of variables.
--   literals_from t p     the literals of t from position p on, with the indices of their first bytes
--   literal_value l       the value that l gives its variable
--   literal_at, variable_at, spot_at  the literal at a place of a list, its variable, the index of its first byte
--   Named, Unnamed        some literal of a list is of a variable; none is
--   assigned_of n xs b    the first outcome of the literals xs that is not done
--   assigned_bytes n xs b  the buffer at that moment
--   is_named xs v         some literal of xs is of variable v
--   unnamed_count n xs    how many of the variables 1 to n no literal of xs names
--   next_answer, next_bytes the code's answer a, then an outcome; the buffer later on if a is Ok, else the buffer now
--   PassesNext a t n p b q c   after the code's answer a, literals of t from position p up to q are passed over and the buffer b becomes c
--   read_outcome n t b    the outcome of the literals of the whole answer t, done if its status is not SATISFIABLE
--   read_bytes n t b      the buffer at that moment
--   ValuesRead            how the literals of an answer were assigned: how many variables none of them names, or the fault of the first that is not assigned
--   assumed_by f k        how many variables are read as false, where k have no value: k if the form f is that of a model, and 0 if it is refused
--   values_read o k       by the code's answer o, where k variables are read as false
--   ModelRead             the same of an answer that offers a model, or why it offers none
--   answer_read f v       by the form f, and v if it is that of a model
-- Assumes nothing.
use Rattle.std.specs.Prelude.{ℕ, zero, suc, ◌<◌, ◌≡◌, Bool, cond, List, [], ◌∷◌, eqb, length, get_or, Result, Ok, Err}
use Rattle.lists.specs.Lists.{any, sum}
use Rattle.encoding.specs.Literal.{Literal, variable}
use Literal.{var, −◌}
use Rattle.answer_form.specs.Pieces.{Found, status_of, Next, next_literal, Spotted}
use Rattle.answer_reader.specs.declared.AnswerFault.{AnswerFault}
use Rattle.answer_reader.specs.Results.{Formed}
use Rattle.answer_bytes.specs.declared.AssignFault.{AssignFault}
use Rattle.answer_quick.specs.Quick.{Passes}
use Rattle.answer_bytes.specs.Bytes.{Outcome, put_outcome, put_bytes, Assigned, assigned_for}

-- ---- literals

-- a literal and those from the position after it on
abbrev pub literal_then : Next → (ℕ → List Spotted) → List Spotted
literal_then (Next.literal l first behind) rest = record { literal = l; first = first } ∷ rest behind
literal_then (Next.last behind) rest = []
literal_then (Next.left spot) rest = []

-- no more than f literals
unfoldable pub literals_within : ℕ → List ℕ → ℕ → List Spotted
literals_within zero t p = []
literals_within (suc f) t p = literal_then (next_literal t p) (literals_within f t)

unfoldable pub literals_from : List ℕ → ℕ → List Spotted
literals_from t p = literals_within (length t) t p

abbrev pub literal_value : Literal → ℕ
literal_value (var v) = 1
literal_value (− v) = 0

-- ---- by place

abbrev pub nobody : Spotted
nobody = record { literal = var 0; first = 0 }

abbrev pub literal_at : List Spotted → ℕ → Literal
literal_at xs k = (get_or xs k nobody).literal

abbrev pub variable_at : List Spotted → ℕ → ℕ
variable_at xs k = variable (literal_at xs k)

abbrev pub spot_at : List Spotted → ℕ → ℕ
spot_at xs k = (get_or xs k nobody).first

-- some literal is of variable v
abbrev pub Named : List Spotted → ℕ → Type 0
Named xs v = (k : ℕ) × (k < length xs) × (variable_at xs k ≡ v)

-- none is
abbrev pub Unnamed : List Spotted → ℕ → Type 0
Unnamed xs v = (k : ℕ) → k < length xs → variable_at xs k ≡ v → ⊥

abbrev pub is_named : List Spotted → ℕ → Bool
is_named xs v = any (λ (x : Spotted). eqb (variable x.literal) v) xs

unfoldable pub unnamed_count : ℕ → List Spotted → ℕ
unnamed_count n xs = sum n (λ v. cond (is_named xs v) 0 1)

-- ---- one after the other

-- the first of two outcomes that is not done
abbrev pub then_outcome : Outcome → Outcome → Outcome
then_outcome Outcome.done o = o
then_outcome (Outcome.stray s) o = Outcome.stray s
then_outcome (Outcome.repeated s) o = Outcome.repeated s

-- the buffer later on if the outcome is done, else the buffer now
abbrev pub then_bytes : Outcome → List ℕ → List ℕ → List ℕ
then_bytes Outcome.done later b = later
then_bytes (Outcome.stray s) later b = b
then_bytes (Outcome.repeated s) later b = b

abbrev pub assigned_of : ℕ → List Spotted → List ℕ → Outcome
assigned_of n [] b = Outcome.done
assigned_of n (x ∷ xs) b =
    then_outcome (put_outcome n (variable x.literal) x.first b) (assigned_of n xs (put_bytes n (variable x.literal) (literal_value x.literal) b))

abbrev pub assigned_bytes : ℕ → List Spotted → List ℕ → List ℕ
assigned_bytes n [] b = b
assigned_bytes n (x ∷ xs) b =
    then_bytes (put_outcome n (variable x.literal) x.first b) (assigned_bytes n xs (put_bytes n (variable x.literal) (literal_value x.literal) b)) b

-- ---- for the code

abbrev pub next_answer : Assigned → Outcome → Assigned
next_answer (Ok x) o = assigned_for o
next_answer (Err f) o = Err f

abbrev pub next_bytes : Assigned → List ℕ → List ℕ → List ℕ
next_bytes (Ok x) later b = later
next_bytes (Err f) later b = b

-- literals are passed over if each literal before them was assigned
abbrev pub PassesNext : Assigned → List ℕ → ℕ → ℕ → List ℕ → ℕ → List ℕ → Type 0
PassesNext (Ok x) t n p b q c = Passes t n p b q c
PassesNext (Err f) t n p b q c = (q ≡ p) × (c ≡ b)

-- ---- the whole answer, by its status

abbrev pub outcome_by : ℕ → List ℕ → List ℕ → Found → Outcome
outcome_by n t b (Found.satisfiable e) = assigned_of n (literals_from t e) b
outcome_by n t b (Found.other s) = Outcome.done
outcome_by n t b (Found.left s) = Outcome.done

unfoldable pub read_outcome : ℕ → List ℕ → List ℕ → Outcome
read_outcome n t b = outcome_by n t b (status_of t)

abbrev pub bytes_by : ℕ → List ℕ → List ℕ → Found → List ℕ
bytes_by n t b (Found.satisfiable e) = assigned_bytes n (literals_from t e) b
bytes_by n t b (Found.other s) = b
bytes_by n t b (Found.left s) = b

unfoldable pub read_bytes : ℕ → List ℕ → List ℕ → List ℕ
read_bytes n t b = bytes_by n t b (status_of t)

-- ---- what the code answers

abbrev pub ValuesRead : Type 0
ValuesRead = Result ℕ AssignFault

abbrev pub assumed_by : Formed → ℕ → ℕ
assumed_by (Ok e) k = k
assumed_by (Err f) k = 0

abbrev pub values_read : Assigned → ℕ → ValuesRead
values_read (Ok x) k = Ok k
values_read (Err f) k = Err f

abbrev pub ModelRead : Type 0
ModelRead = Result ValuesRead AnswerFault

abbrev pub answer_read : Formed → ValuesRead → ModelRead
answer_read (Ok e) v = Ok v
answer_read (Err f) v = Err f
