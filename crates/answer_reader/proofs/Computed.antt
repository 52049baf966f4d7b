-- The answers at texts as they are written.
--   statuses_given    the status, and where a text leaves the form before or in its status line
--   literals_given    the next literal from a position on, also of more than 2^31 - 1
--   ends_given        what follows literal 0
--   forms_given       the form of whole texts
-- Assumes nothing.
use mathlib.Core.Path.{◌≡◌, refl}
use mathlib.Core.List.{[], ◌∷◌, map}
use lib.IntN.{pos, negsuc}
use Rattle.lists.specs.Ascii.{ascii}
use Rattle.reader_form.specs.Automaton.{digit_test}
use Rattle.answer_form.specs.Machine.{accepted_by, read_by}
use Rattle.answer_form.specs.Answer.{satisfiable_text, status_text}
use Rattle.answer_form.specs.Automaton.{status_bytes, status_at, status_next, status_turn, status_step, seek_step, literal_step, end_step, answer_step, may_end}
use Rattle.answer_form.specs.Pieces.{common, first_line, status_from, status_of, digits_value, behind_digits, minus_from, literal_from, seek_from, next_literal, close_from, close_of}
use Rattle.std.specs.Prelude.{Ok, Err}
use Rattle.answer_reader.specs.declared.AnswerFault.TheVariants.{NoModel}
use Rattle.answer_reader.specs.declared.Token.TheVariants as token
use Rattle.answer_reader.specs.Results.{malformed, found_for, next_for, close_for, form_of}

pub statuses_given : map (λ s. found_for (status_of (ascii s)))
    ("s SATISFIABLE\nv 1 0\n" ∷ "c\ncc\ns UNSATISFIABLE\n" ∷ "s UNKNOWN\nany" ∷ "" ∷ "c" ∷ "s UNSATISFIABLE" ∷ "s UNK\n" ∷ "x" ∷ [])
    ≡ Ok 13 ∷ Err NoModel ∷ Err NoModel ∷ malformed 0 ∷ malformed 1 ∷ malformed 15 ∷ malformed 5 ∷ malformed 0 ∷ []
unfolding ascii satisfiable_text status_text common first_line status_from status_of
statuses_given = refl

pub literals_given : map (λ s. next_for (next_literal (ascii s) 0))
    (" 12 0\n" ∷ "\nv\nc 1\nv -7 0\n" ∷ " 2147483647\n" ∷ " 2147483648\n" ∷ " -99999999999\n" ∷ " 0\n" ∷ " 07\n" ∷ " -0\n" ∷ "  1\n" ∷ "\n1" ∷ "" ∷ [])
    ≡ Ok (token.Literal (pos 12) 1 3) ∷ Ok (token.Literal (negsuc 6) 9 11) ∷ Ok (token.Literal (pos 2147483647) 1 11) ∷ Ok (token.Literal (pos 2147483647) 1 11)
    ∷ Ok (token.Literal (negsuc 2147483646) 1 13) ∷ Ok (token.Last 2) ∷ Ok (token.Last 2) ∷ Err 2 ∷ Err 1 ∷ Err 1 ∷ Err 0 ∷ []
unfolding ascii digit_test seek_step digits_value behind_digits minus_from literal_from seek_from next_literal
literals_given = refl

pub ends_given : map (λ s. close_for (close_of (ascii s) 0)) ("\n" ∷ "\nc x\nc\n" ∷ "" ∷ "7\n" ∷ "\nc" ∷ "\nv\n" ∷ [])
    ≡ Ok tt ∷ Ok tt ∷ Err 0 ∷ Err 0 ∷ Err 2 ∷ Err 1 ∷ []
unfolding ascii end_step close_from close_of
ends_given = refl

pub forms_given : map (λ s. form_of (ascii s))
    ("s SATISFIABLE\nv 1 -2\nv 0\n" ∷ "c\ns SATISFIABLE\nv 0\nc\n" ∷ "s UNSATISFIABLE\nv" ∷ "s SATISFIABLE\nv 1\n" ∷ "s SATISFIABLE\nv 1 x" ∷ "s SAT\n" ∷ [])
    ≡ Ok 13 ∷ Ok 15 ∷ Err NoModel ∷ malformed 18 ∷ malformed 18 ∷ malformed 5 ∷ []
unfolding ascii digit_test accepted_by read_by satisfiable_text status_text status_bytes status_at status_next status_turn status_step seek_step literal_step end_step answer_step may_end common first_line status_from status_of form_of
forms_given = refl
