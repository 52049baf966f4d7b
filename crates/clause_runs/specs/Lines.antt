-- The lines of a code's clause file, and a run of them (document 01, "Clauses, in order").
--   code_lines G           line 0, "p cnf V C", then line j for each clause j
--   code_line G j          line j
--   fitting n ls           how many whole lines of ls, from the first on, fit n bytes
--   code_run G j n         the lines from line j on that fit n bytes
--   code_run_bytes G j b   the buffer b with them at its front
--   code_part G j n        how many they are, their bytes, and the place of the line after them
--   clause_total P, lines_of P, line_of P j, run_in P j n  C, the lines and a run of them, of document 01's code of P
-- Assumes nothing.
use Rattle.std.specs.Prelude.{ℕ, suc, ◌+◌, ◌-◌, cond, List, [], ◌∷◌, ◌++◌, map, leb, length, get_or, take, drop}
use Rattle.lists.specs.Lists.{joined}
use Rattle.meaning.specs.Program.{Program}
use Rattle.encoding.specs.Code.{Code, code_of, clauses_of, variables_of, clause_total_of}
use Rattle.digits.specs.Bytes.{line_text}
use Rattle.fixed_lines.specs.Lines.{header_text}
use Rattle.clause_places.specs.Places.{place_at}
use Rattle.clause_runs.specs.declared.RunPart.{RunPart}

unfoldable pub code_lines : Code → List (List ℕ)
code_lines G = header_text (variables_of G) (clause_total_of G) ∷ map line_text (clauses_of G)

abbrev pub code_line : Code → ℕ → List ℕ
code_line G j = get_or (code_lines G) j []

abbrev pub fitting : ℕ → List (List ℕ) → ℕ
fitting n [] = 0
fitting n (l ∷ ls) = cond (leb (length l) n) (suc (fitting (n - length l) ls)) 0

-- the lines from line j on that fit n bytes
abbrev pub code_run : Code → ℕ → ℕ → List (List ℕ)
code_run G j n = take (fitting n (drop j (code_lines G))) (drop j (code_lines G))

abbrev pub code_run_bytes : Code → ℕ → List ℕ → List ℕ
code_run_bytes G j b = joined (code_run G j (length b)) ++ drop (length (joined (code_run G j (length b)))) b

-- as far as it fits n bytes, with the place of the line after it
abbrev pub code_part : Code → ℕ → ℕ → RunPart
code_part G j n =
    record { lines = fitting n (drop j (code_lines G)); bytes = length (joined (code_run G j n)); place = place_at G (j + fitting n (drop j (code_lines G))) }

-- ---- of a program

abbrev pub clause_total : Program → ℕ
clause_total P = clause_total_of (code_of P)

abbrev pub lines_of : Program → List (List ℕ)
lines_of P = code_lines (code_of P)

abbrev pub line_of : Program → ℕ → List ℕ
line_of P j = code_line (code_of P) j

abbrev pub run_in : Program → ℕ → ℕ → List (List ℕ)
run_in P j n = take (fitting n (drop j (lines_of P))) (drop j (lines_of P))
