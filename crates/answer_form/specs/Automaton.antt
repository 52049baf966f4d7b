-- One byte of a solver answer, from a state (document 01, "Solver answer").
--   status_bytes        the three status lines, each from the byte on at which it differs from those before it
--   answer_step q b     the state after byte b
--   may_end q           the text may end in state q
--   answer_accepts q t  from state q the bytes t end where a text may end
--   answer_leaves q t   how many bytes of t are read from state q before no ending gives the form; all of them where t stops short
--   answer_end q        an ending from state q
-- States:
--   0 to 31         before byte q of `status_bytes`: 0 is a line's start before the status, 14 is after "s U", 27 after "s UNK"
--   32              in a c line before the status
--   33, 34          after "s SATISFIABLE": a line's start, in a c line
--   35              in a v line, where a space or the line's end comes
--   36, 37, 38      in a v line: after a space, after a minus, in the digits of a literal that is not 0
--   39              after literal 0
--   40, 41          after the end of its line: a line's start, in a c line
--   42              past the line end of another status
--   43              no ending gives the form
-- Assumes nothing.
use Rattle.std.specs.Prelude.{ℕ, suc, ◌-◌, Bool, ◌||◌, cond, List, [], ◌∷◌, map, ltb, eqb, get_or, drop}
use Rattle.lists.specs.Ascii.{ascii}
use Rattle.reader_form.specs.Automaton.{digit_test}
use Rattle.answer_form.specs.Machine.{accepted_by, read_by}

-- "s SATISFIABLE", "(s U)NSATISFIABLE" and "(s UNK)NOWN"
unfoldable pub status_bytes : List ℕ
status_bytes = ascii "s SATISFIABLE\nNSATISFIABLE\nNOWN\n"

unfoldable pub status_at : ℕ → ℕ
status_at q = get_or status_bytes q 0

-- the state after byte q of `status_bytes`
unfoldable pub status_next : ℕ → ℕ
status_next q = cond (eqb q 13) 33 (cond (eqb q 26) 42 (cond (eqb q 31) 42 (suc q)))

-- the state after another byte: a comment, or another status line
unfoldable pub status_turn : ℕ → ℕ → ℕ
status_turn q b =
    cond (eqb q 0) (cond (eqb b 99) 32 43) (cond (eqb q 2) (cond (eqb b 85) 14 43) (cond (eqb q 15) (cond (eqb b 75) 27 43) 43))

unfoldable pub status_step : ℕ → ℕ → ℕ
status_step q b = cond (eqb b (status_at q)) (status_next q) (status_turn q b)

-- between literals: at a line's start, in a c line, or after v or a literal
unfoldable pub seek_step : ℕ → ℕ → ℕ
seek_step q b =
    cond (eqb q 33) (cond (eqb b 99) 34 (cond (eqb b 118) 35 43))
    (cond (eqb q 34) (cond (eqb b 10) 33 34) (cond (eqb b 32) 36 (cond (eqb b 10) 33 43)))

-- in a literal
unfoldable pub literal_step : ℕ → ℕ → ℕ
literal_step q b =
    cond (eqb q 36) (cond (eqb b 45) 37 (cond (eqb b 48) 39 (cond (digit_test b) 38 43)))
    (cond (eqb q 37) (cond (eqb b 48) 43 (cond (digit_test b) 38 43)) (cond (digit_test b) 38 (seek_step 35 b)))

-- after literal 0
unfoldable pub end_step : ℕ → ℕ → ℕ
end_step q b = cond (eqb q 39) (cond (eqb b 10) 40 43) (cond (eqb q 40) (cond (eqb b 99) 41 43) (cond (eqb b 10) 40 41))

unfoldable pub answer_step : ℕ → ℕ → ℕ
answer_step q b =
    cond (ltb q 32) (status_step q b)
    (cond (eqb q 32) (cond (eqb b 10) 0 32)
    (cond (ltb q 36) (seek_step q b)
    (cond (ltb q 39) (literal_step q b)
    (cond (ltb q 42) (end_step q b)
    (cond (eqb q 42) 42 43)))))

unfoldable pub may_end : ℕ → Bool
may_end q = eqb q 40 || eqb q 42

abbrev pub answer_accepts : ℕ → List ℕ → Bool
answer_accepts q t = accepted_by answer_step may_end q t

abbrev pub answer_leaves : ℕ → List ℕ → ℕ
answer_leaves q t = read_by answer_step 43 q t

-- the endings from states 32 to 42
unfoldable pub late_ends : List (List ℕ)
late_ends = map ascii ("\ns UNKNOWN\n" ∷ "v 0\n" ∷ "\nv 0\n" ∷ " 0\n" ∷ "0\n" ∷ "1 0\n" ∷ " 0\n" ∷ "\n" ∷ "" ∷ "\n" ∷ "" ∷ [])

unfoldable pub answer_end : ℕ → List ℕ
answer_end q =
    cond (ltb q 14) (drop q (ascii "s SATISFIABLE\nv 0\n"))
    (cond (ltb q 27) (drop (q - 14) (ascii "NSATISFIABLE\n"))
    (cond (ltb q 32) (drop (q - 27) (ascii "NOWN\n")) (get_or late_ends (q - 32) [])))
