-- What the code answers about the pieces of an answer.
--   most_number       the largest magnitude of a literal that is handed out
--   line_number       the automaton's state before the status: in a c line or at a line's start
--   tail_number, tail_state       its state at a place after literal 0; and where there may be none
--   place_number, place_state     its state at a place between literals; and where there may be none
--   space_from q i t  the index after the next space of t, whose first byte has index i, from state q on; or the spot
-- Assumes nothing.
use Rattle.std.specs.Prelude.{ℕ, ◌+◌, Bool, cond, List, [], ◌∷◌, eqb, Option, Some, None, Result, Ok, Err}
use Rattle.answer_form.specs.Automaton.{seek_step}
use Rattle.answer_words.specs.declared.Tail.{Tail}
use Rattle.answer_words.specs.declared.Tail.TheVariants as tail
use Rattle.answer_words.specs.declared.Place.{Place}
use Rattle.answer_words.specs.declared.Place.TheVariants as place

-- 2^31 - 1
abbrev pub most_number : ℕ
most_number = 2147483647

abbrev pub line_number : Bool → ℕ
line_number in_comment = cond in_comment 32 0

abbrev pub tail_number : Tail → ℕ
tail_number tail.Zero = 39
tail_number tail.LineStart = 40
tail_number tail.Comment = 41

abbrev pub tail_state : Option Tail → ℕ
tail_state (Some q) = tail_number q
tail_state None = 43

abbrev pub place_number : Place → ℕ
place_number place.LineStart = 33
place_number place.Comment = 34
place_number place.Values = 35
place_number place.Space = 36

abbrev pub place_state : Option Place → ℕ
place_state (Some q) = place_number q
place_state None = 43

unfoldable pub space_from : ℕ → ℕ → List ℕ → Result ℕ ℕ
space_from q i [] = Err i
space_from q i (b ∷ t) =
    cond (eqb (seek_step q b) 36) (Ok (i + 1)) (cond (eqb (seek_step q b) 43) (Err i) (space_from (seek_step q b) (i + 1) t))
