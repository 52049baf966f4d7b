-- Program texts (document 01, "Program text"), as bytes. The form is the set of texts that `text_of` gives for some number of atoms and
-- some rules over arbitrary numbers; no reader enters its definition.
--   list_text xs   numbers with one space between
--   rule_text r    "(rule H (B ..) (C ..))" and byte 10
--   text_of P      "(atoms N)", byte 10, and the rules
--   HasForm t      t is the text of some program
--   Viable t       some ending of t, a list of bytes, gives the form
--   Malformed t s  s is the first byte after which no ending gives the form, or the length if the text stops short
-- Assumes nothing.
use Rattle.std.specs.Prelude.{ℕ, ◌≡◌, List, [], ◌∷◌, ◌++◌}
use Rattle.meaning.specs.Program.{Rule, Program}
use Rattle.text.specs.Spot.{ViableIn, MalformedIn}
use Rattle.text.specs.Decimal.{decimal}

abbrev pub more_text : List ℕ → List ℕ
more_text [] = []
more_text (x ∷ xs) = 32 ∷ (decimal x ++ more_text xs)

abbrev pub list_text : List ℕ → List ℕ
list_text [] = []
list_text (x ∷ xs) = decimal x ++ more_text xs

-- "(rule ", " (", ") (" and "))" with byte 10
abbrev pub rule_text : Rule → List ℕ
rule_text r =
    40 ∷ 114 ∷ 117 ∷ 108 ∷ 101 ∷ 32 ∷ (decimal r.head
    ++ (32 ∷ 40 ∷ (list_text r.positive
    ++ (41 ∷ 32 ∷ 40 ∷ (list_text r.negative
    ++ (41 ∷ 41 ∷ 10 ∷ []))))))

abbrev pub rules_text : List Rule → List ℕ
rules_text [] = []
rules_text (r ∷ rs) = rule_text r ++ rules_text rs

-- "(atoms " and ")" with byte 10
unfoldable pub text_of : Program → List ℕ
text_of P = 40 ∷ 97 ∷ 116 ∷ 111 ∷ 109 ∷ 115 ∷ 32 ∷ (decimal P.atoms ++ (41 ∷ 10 ∷ rules_text P.rules))

pub record HasForm (t : List ℕ) : Type 0 where
  pub program : Program
  pub its_text : t ≡ text_of program

abbrev pub Viable : List ℕ → Type 0
Viable t = ViableIn HasForm t

abbrev pub Malformed : List ℕ → ℕ → Type 0
Malformed t s = MalformedIn HasForm t s
