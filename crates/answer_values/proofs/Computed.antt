-- Literals of answers as they are written, assigned to three bytes of a buffer of five.
--   outcomes_read   done, repeated by the other sign, stray, repeated before stray, stray before repeated in a later line, no literals
--   bytes_read      the buffers at that moment
--   counts_read     how many of the variables 1 to 3 no literal names
-- Assumes nothing.
use Prim.Native.Nat.{ℕ}
use mathlib.Core.Path.{◌≡◌, refl}
use mathlib.Core.List.{List, [], ◌∷◌, map}
use Rattle.lists.specs.Ascii.{ascii}
use Rattle.reader_form.specs.Automaton.{digit_test}
use Rattle.answer_form.specs.Automaton.{seek_step}
use Rattle.answer_form.specs.Pieces.{digits_value, behind_digits, minus_from, literal_from, seek_from, next_literal}
use Rattle.answer_bytes.specs.Bytes.{Outcome, put_outcome, put_bytes, overwritten}
use Rattle.answer_values.specs.Assign.{literals_within, literals_from, unnamed_count, assigned_of, assigned_bytes}

-- "s SATISFIABLE" has 13 bytes
abbrev samples : List (List ℕ)
samples =
    map ascii ("s SATISFIABLE\nv 3 -2 1 0\n" ∷ "s SATISFIABLE\nv -2 0\n" ∷ "s SATISFIABLE\nv 1 -1 0\n" ∷ "s SATISFIABLE\nv 1 4 1 0\n"
    ∷ "s SATISFIABLE\nv 1 2 2 4 0\n" ∷ "s SATISFIABLE\nv 2\nc x\nv -99999999999 2 0\n" ∷ "s SATISFIABLE\nv 0\n" ∷ [])

abbrev start : List ℕ
start = overwritten 3 2 (7 ∷ 7 ∷ 7 ∷ 8 ∷ 9 ∷ [])

pub outcomes_read : map (λ t. assigned_of 3 (literals_from t 13) start) samples
    ≡ Outcome.done ∷ Outcome.done ∷ Outcome.repeated 18 ∷ Outcome.stray 18 ∷ Outcome.repeated 20 ∷ Outcome.stray 24 ∷ Outcome.done ∷ []
unfolding ascii digit_test seek_step digits_value behind_digits minus_from literal_from seek_from next_literal literals_within literals_from put_outcome put_bytes overwritten
outcomes_read = refl

pub bytes_read : map (λ t. assigned_bytes 3 (literals_from t 13) start) samples
    ≡ (1 ∷ 0 ∷ 1 ∷ 8 ∷ 9 ∷ []) ∷ (2 ∷ 0 ∷ 2 ∷ 8 ∷ 9 ∷ []) ∷ (1 ∷ 2 ∷ 2 ∷ 8 ∷ 9 ∷ []) ∷ (1 ∷ 2 ∷ 2 ∷ 8 ∷ 9 ∷ []) ∷ (1 ∷ 1 ∷ 2 ∷ 8 ∷ 9 ∷ [])
    ∷ (2 ∷ 1 ∷ 2 ∷ 8 ∷ 9 ∷ []) ∷ (2 ∷ 2 ∷ 2 ∷ 8 ∷ 9 ∷ []) ∷ []
unfolding ascii digit_test seek_step digits_value behind_digits minus_from literal_from seek_from next_literal literals_within literals_from put_outcome put_bytes overwritten
bytes_read = refl

pub counts_read : map (λ t. unnamed_count 3 (literals_from t 13)) samples ≡ 0 ∷ 2 ∷ 2 ∷ 2 ∷ 1 ∷ 2 ∷ 3 ∷ []
unfolding ascii digit_test seek_step digits_value behind_digits minus_from literal_from seek_from next_literal literals_within literals_from unnamed_count
counts_read = refl
