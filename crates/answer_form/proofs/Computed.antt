-- Printed answers and the automaton at texts as they are written.
--   answers_written     the texts of answers
--   texts_accepted      texts of the form
--   status_left, lines_left   texts that leave the form or stop short, and where
--   statuses_read, literals_read, ends_read   the same texts read piece by piece
--   spots_written       where the literals of the answers stand
-- Assumes nothing.
use Prim.Native.Nat.{ℕ}
use mathlib.Core.Path.{◌≡◌, refl}
use mathlib.Core.Bool.{true, cond}
use mathlib.Core.List.{List, [], ◌∷◌, ◌++◌, map}
use Rattle.lists.specs.Lists.{all}
use Rattle.lists.specs.Ascii.{ascii}
use Rattle.encoding.specs.Literal.{Literal}
use Literal.{var, −◌}
use Rattle.text.specs.Decimal.{decimal}
use Rattle.reader_form.specs.Automaton.{digit_test}
use Rattle.answer_form.specs.Machine.{accepted_by, read_by}
use Rattle.answer_form.specs.Answer.{Line, Status, Answer, proper, satisfiable_text, status_text, answer_text}
use Rattle.answer_form.specs.Pieces.{Found, common, first_line, status_from, status_of, Next, digits_value, behind_digits, minus_from, literal_from, seek_from, next_literal, Close, close_from, close_of, Spotted, spots_of}
use Rattle.answer_form.specs.Automaton.{status_bytes, status_at, status_next, status_turn, status_step, seek_step, literal_step, end_step, answer_step, may_end, answer_accepts, answer_leaves}

-- document 01's answer; one with c lines before, between and after, and v lines without literals; the other two statuses
abbrev samples : List Answer
samples =
    Answer.model [] [] (var 1 ∷ var 2 ∷ var 3 ∷ var 4 ∷ − 5 ∷ − 6 ∷ var 7 ∷ []) []
    ∷ Answer.model (ascii "nf" ∷ [] ∷ []) (Line.values [] ∷ Line.comment (ascii " x") ∷ Line.values (− 12 ∷ []) ∷ []) [] (ascii " y" ∷ [])
    ∷ Answer.no_model [] Status.unsatisfiable []
    ∷ Answer.no_model ([] ∷ []) Status.unknown (ascii "any") ∷ []

pub answers_written : map answer_text samples
    ≡ map ascii ("s SATISFIABLE\nv 1 2 3 4 -5 -6 7 0\n" ∷ "cnf\nc\ns SATISFIABLE\nv\nc x\nv -12\nv 0\nc y\n" ∷ "s UNSATISFIABLE\n" ∷ "c\ns UNKNOWN\nany" ∷ [])
unfolding answer_text satisfiable_text status_text decimal ascii
answers_written = refl

pub answers_proper : all proper samples ≡ true
unfolding proper ascii
answers_proper = refl

pub texts_accepted : all (λ s. answer_accepts 0 (ascii s)) (
    "s SATISFIABLE\nv 1 2 3 4 -5 -6 7 0\n" ∷ "s SATISFIABLE\nv 0\n" ∷ "s SATISFIABLE\nv\nv\nv 10\nv -203 4\nv\nv 0\n"
    ∷ "c\ncnf s UNKNOWN\ns SATISFIABLE\nc v 0\nv 1\nc\nv -2 0\nc s\nc\n" ∷ "c \r\ns SATISFIABLE\nv 0\n"
    ∷ "s UNSATISFIABLE\n" ∷ "s UNKNOWN\n" ∷ "c\ns UNKNOWN\n\nv 01 \r-- s" ∷ "s UNSATISFIABLE\nc unended" ∷ []
    ) ≡ true
unfolding accepted_by ascii answer_step status_step status_at status_bytes status_next status_turn seek_step literal_step end_step digit_test may_end
texts_accepted = refl

-- the spot of a text that is not accepted; 999 for one that is
abbrev spot_of : List ℕ → ℕ
spot_of t = cond (answer_accepts 0 t) 999 (answer_leaves 0 t)

-- the status line, from its first byte on
pub status_left : map (λ s. spot_of (ascii s)) (
    "" ∷ "c" ∷ "c\n" ∷ "c unended" ∷ "\n" ∷ "v 0\n" ∷ "c\nv 0\n" ∷ "s" ∷ "s SAT\n" ∷ "s  SATISFIABLE\n" ∷ "s SATISFIABLE" ∷ "s SATISFIABLE\r\n" ∷ "s UNSAT\n" ∷ "s UNKNOWN"
    ∷ "s UNKNOWN \n" ∷ "s UX" ∷ "S" ∷ []
    ) ≡ 0 ∷ 1 ∷ 2 ∷ 9 ∷ 0 ∷ 0 ∷ 2 ∷ 1 ∷ 5 ∷ 2 ∷ 13 ∷ 13 ∷ 7 ∷ 9 ∷ 9 ∷ 3 ∷ 0 ∷ []
unfolding accepted_by read_by ascii answer_step status_step status_at status_bytes status_next status_turn seek_step literal_step end_step digit_test may_end
status_left = refl

-- after "s SATISFIABLE" and its byte 10, which are 14 bytes
pub lines_left : map (λ s. spot_of (ascii "s SATISFIABLE\n" ++ ascii s)) (
    -- no literal 0; a c line that is not ended; a second status line; an empty line; another letter
    "" ∷ "v 1 2\n" ∷ "v 1" ∷ "v" ∷ "c" ∷ "s SATISFIABLE\n" ∷ "\n" ∷ "x"
    -- -0, --1, +1, "- 1", 01, 00, a letter in a number
    ∷ "v -0\n" ∷ "v --1 0\n" ∷ "v +1 0\n" ∷ "v - 1 0\n" ∷ "v 01 0\n" ∷ "v 00\n" ∷ "v 1x 0\n"
    -- after literal 0: a literal, a space, a v line, a status line, an empty line, a c line that is not ended, its own line not ended
    ∷ "v 1 0 2\n" ∷ "v 0 \n" ∷ "v 0\nv 0\n" ∷ "v 0\ns UNKNOWN\n" ∷ "v 0\n\n" ∷ "v 0\nc" ∷ "v 0"
    -- "v " and byte 10, v1, two spaces, a trailing space, CR, a tab
    ∷ "v \n" ∷ "v1 0\n" ∷ "v  1 0\n" ∷ "v 1 \nv 0\n" ∷ "v 1 0\r\n" ∷ "v 1\r\nv 0\n" ∷ "v\t1 0\n" ∷ []
    ) ≡ 14 ∷ 20 ∷ 17 ∷ 15 ∷ 15 ∷ 14 ∷ 14 ∷ 14
    ∷ 17 ∷ 17 ∷ 16 ∷ 17 ∷ 17 ∷ 17 ∷ 17
    ∷ 19 ∷ 17 ∷ 18 ∷ 18 ∷ 18 ∷ 19 ∷ 17
    ∷ 16 ∷ 15 ∷ 16 ∷ 18 ∷ 19 ∷ 17 ∷ 15 ∷ []
unfolding accepted_by read_by ascii answer_step status_step status_at status_bytes status_next status_turn seek_step literal_step end_step digit_test may_end
lines_left = refl

-- ---- piece by piece

pub statuses_read : map (λ s. status_of (ascii s)) (
    "s SATISFIABLE\nv 0\n" ∷ "c\nc s\ns SATISFIABLE\nx" ∷ "c\ns UNSATISFIABLE\nx" ∷ "s UNKNOWN\n" ∷ "" ∷ "c\n" ∷ "c unended" ∷ "c\nv 0\n" ∷ "s SATISFIABLE" ∷ "s UNSAT\n" ∷ "s UNKNOWN" ∷ []
    ) ≡ Found.satisfiable 13 ∷ Found.satisfiable 19 ∷ Found.other Status.unsatisfiable ∷ Found.other Status.unknown ∷ Found.left 0 ∷ Found.left 2 ∷ Found.left 9 ∷ Found.left 2
    ∷ Found.left 13 ∷ Found.left 7 ∷ Found.left 9 ∷ []
unfolding status_of status_from first_line common satisfiable_text status_text ascii
statuses_read = refl

-- from the end of the status line on; then from positions of document 01's answer
pub literals_read : map (λ s. next_literal (ascii "s SATISFIABLE\n" ++ ascii s) 13) (
    "v 1 0\n" ∷ "v\nc x\nv -12x" ∷ "v 0\n" ∷ "v 00\n" ∷ "v 4294967296 0\n" ∷ "" ∷ "c" ∷ "v" ∷ "v " ∷ "v -0 0\n" ∷ "v --1 0\n" ∷ "v +1 0\n" ∷ "v1 0\n" ∷ "s UNKNOWN\n" ∷ []
    ) ≡ Next.literal (var 1) 16 17 ∷ Next.literal (− 12) 22 25 ∷ Next.last 17 ∷ Next.last 17 ∷ Next.literal (var 4294967296) 16 26 ∷ Next.left 14 ∷ Next.left 15 ∷ Next.left 15 ∷ Next.left 16
    ∷ Next.left 17 ∷ Next.left 17 ∷ Next.left 16 ∷ Next.left 15 ∷ Next.left 14 ∷ []
unfolding next_literal seek_from seek_step literal_from minus_from digits_value behind_digits digit_test ascii
literals_read = refl

pub positions_read : map (next_literal (ascii "s SATISFIABLE\nv 1 2 3 4 -5 -6 7 0\n")) (13 ∷ 17 ∷ 19 ∷ 21 ∷ 23 ∷ 26 ∷ 29 ∷ 31 ∷ [])
    ≡ Next.literal (var 1) 16 17 ∷ Next.literal (var 2) 18 19 ∷ Next.literal (var 3) 20 21 ∷ Next.literal (var 4) 22 23 ∷ Next.literal (− 5) 24 26 ∷ Next.literal (− 6) 27 29
    ∷ Next.literal (var 7) 30 31 ∷ Next.last 33 ∷ []
unfolding next_literal seek_from seek_step literal_from minus_from digits_value behind_digits digit_test ascii
positions_read = refl

-- after literal 0
pub ends_read : map (λ s. close_of (ascii s) 0) ("\n" ∷ "\nc x\nc\n" ∷ "" ∷ "1\n" ∷ " 2\n" ∷ "\r\n" ∷ "\nv 0\n" ∷ "\n\n" ∷ "\nc" ∷ [])
    ≡ Close.fine ∷ Close.fine ∷ Close.left 0 ∷ Close.left 0 ∷ Close.left 0 ∷ Close.left 0 ∷ Close.left 1 ∷ Close.left 1 ∷ Close.left 2 ∷ []
unfolding close_of close_from end_step ascii
ends_read = refl

abbrev spotted : Literal → ℕ → Spotted
spotted l f = record { literal = l; first = f }

pub spots_written : map spots_of samples
    ≡ (spotted (var 1) 16 ∷ spotted (var 2) 18 ∷ spotted (var 3) 20 ∷ spotted (var 4) 22 ∷ spotted (− 5) 24 ∷ spotted (− 6) 27 ∷ spotted (var 7) 30 ∷ [])
    ∷ (spotted (− 12) 28 ∷ []) ∷ [] ∷ [] ∷ []
unfolding spots_of decimal ascii
spots_written = refl
