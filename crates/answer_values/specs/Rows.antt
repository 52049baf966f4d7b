-- Rows 13 and 14 of document 01's table ("Verdicts"), for the literals xs of an answer with the indices of their first bytes, and n variables.
--   New xs j, Old xs j           no literal before place j names its variable; some one does
--   Fit n xs j, AllFit n xs      the literal at place j is of a variable up to n that no literal before it names; each literal is
--   StrayAt n xs s               the first literal that is not fit is of a variable above n, and its first byte is at s
--   RepeatedAt n xs s            it is of a variable up to n that a literal before it names, and its first byte is at s
-- Assumes nothing.
use Rattle.std.specs.Prelude.{ℕ, ◌≤◌, ◌<◌, ◌≡◌, List, length}
use Rattle.answer_form.specs.Pieces.{Spotted}
use Rattle.answer_values.specs.Assign.{variable_at, spot_at}

-- no literal before place j names the variable at j
abbrev pub New : List Spotted → ℕ → Type 0
New xs j = (i : ℕ) → i < j → variable_at xs i ≡ variable_at xs j → ⊥

-- some literal before place j does
abbrev pub Old : List Spotted → ℕ → Type 0
Old xs j = (i : ℕ) × (i < j) × (variable_at xs i ≡ variable_at xs j)

abbrev pub Fit : ℕ → List Spotted → ℕ → Type 0
Fit n xs j = (variable_at xs j ≤ n) × New xs j

abbrev pub AllFit : ℕ → List Spotted → Type 0
AllFit n xs = (j : ℕ) → j < length xs → Fit n xs j

pub record StrayAt (n : ℕ) (xs : List Spotted) (s : ℕ) : Type 0 where
  pub place : ℕ
  pub inside : place < length xs
  pub spot : s ≡ spot_at xs place
  pub above : n < variable_at xs place
  pub before : (j : ℕ) → j < place → Fit n xs j

pub record RepeatedAt (n : ℕ) (xs : List Spotted) (s : ℕ) : Type 0 where
  pub place : ℕ
  pub inside : place < length xs
  pub spot : s ≡ spot_at xs place
  pub within : variable_at xs place ≤ n
  pub again : Old xs place
  pub before : (j : ℕ) → j < place → Fit n xs j
