-- The first line of the clause file and the line of a refusal (document 01, "Clauses, in order").
--   header_text v c           "p cnf", v variables and c clauses in decimal, each after one space, then byte 10
--   refused_text number spot  "(refused", the number and the spot in decimal, each after one space, ")" and byte 10
-- Assumes nothing.
use Rattle.std.specs.Prelude.{ℕ, List, [], ◌∷◌, ◌++◌}
use Rattle.lists.specs.Ascii.{ascii}
use Rattle.text.specs.Decimal.{decimal}

unfoldable pub header_text : ℕ → ℕ → List ℕ
header_text v c = (ascii "p cnf " ++ (decimal v ++ (32 ∷ []))) ++ (decimal c ++ (10 ∷ []))

unfoldable pub refused_text : ℕ → ℕ → List ℕ
refused_text number spot = (ascii "(refused " ++ (decimal number ++ (32 ∷ []))) ++ (decimal spot ++ ascii ")\n")
