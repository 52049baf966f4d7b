-- Document 01's answer, and no values.
--   text_offered    the text of the values 1 1 1 1 0 0 1, and of none
--   bytes_offered   these values as bytes
--   values_given    the values that literals in another order give, and those that they give where 5 and 6 are left out
-- Assumes nothing.
use mathlib.Core.Path.{◌≡◌, refl}
use mathlib.Core.Bool.{Bool, true, false}
use mathlib.Core.List.{List, [], ◌∷◌, map}
use Rattle.lists.specs.Ascii.{ascii}
use Rattle.text.specs.Decimal.{decimal}
use Rattle.reader_form.specs.Automaton.{digit_test}
use Rattle.encoding.specs.Literal.{value_of}
use Rattle.answer_form.specs.Answer.{satisfiable_text, answer_text}
use Rattle.answer_form.specs.Automaton.{seek_step}
use Rattle.answer_form.specs.Pieces.{digits_value, behind_digits, minus_from, literal_from, seek_from, next_literal}
use Rattle.answer_values.specs.Assign.{literals_within, literals_from}
use Rattle.answer_offers.specs.Offered.{value_bytes, literals_for, offered_text, values_of}

abbrev values : List Bool
values = true ∷ true ∷ true ∷ true ∷ false ∷ false ∷ true ∷ []

pub text_offered : map offered_text (values ∷ [] ∷ []) ≡ map ascii ("s SATISFIABLE\nv 1 2 3 4 -5 -6 7 0\n" ∷ "s SATISFIABLE\nv 0\n" ∷ [])
unfolding ascii decimal satisfiable_text answer_text value_of literals_for offered_text
text_offered = refl

pub bytes_offered : value_bytes values ≡ 1 ∷ 1 ∷ 1 ∷ 1 ∷ 0 ∷ 0 ∷ 1 ∷ []
bytes_offered = refl

pub values_given : map (λ t. values_of 7 (literals_from (ascii t) 13)) ("s SATISFIABLE\nv 7 -6 -5\nc\nv 1 2 3 4 0\n" ∷ "s SATISFIABLE\nv 1 2 3 4 7 0\n" ∷ []) ≡ values ∷ values ∷ []
unfolding ascii digit_test seek_step digits_value behind_digits minus_from literal_from seek_from next_literal literals_within literals_from values_of
values_given = refl
