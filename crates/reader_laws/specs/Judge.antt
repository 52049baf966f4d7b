-- What reading a program's text comes to, number by number, without its bytes: the actions of the fold in the order of the text.
--   Work                what is counted, and the three arrays
--   acts act k v g i W  one action
--   cap n               the number as the reader keeps it: 1000 for 1000 and above
--   judged P            the work after the text of P
-- Assumes nothing.
use Rattle.std.specs.Prelude.{ℕ, ◌+◌, cond, List, [], ◌∷◌, ltb, length}
use Rattle.meaning.specs.Program.{Rule, Program}
use Rattle.text.specs.Decimal.{decimal}
use Rattle.text.specs.Text.{list_text}
use Rattle.reader_work.specs.Work.{Tally}
use Rattle.reader_work.specs.Work.{work_of, work_heads, work_starts, work_bodies}

pub record Work : Type 0 where
  pub counts : Tally
  pub heads : List ℕ
  pub starts : List ℕ
  pub bodies : List ℕ

unfoldable pub acts : ℕ → ℕ → ℕ → ℕ → ℕ → Work → Work
acts act k v g i W =
    record {
      counts = work_of act k v g i W.counts;
      heads = work_heads act k v W.counts W.heads;
      starts = work_starts act W.counts W.starts;
      bodies = work_bodies act k v W.counts W.bodies;
    }

unfoldable pub cap : ℕ → ℕ
cap n = cond (ltb 999 n) 1000 n

-- the number n, whose first byte is g, is read at place k of the form
abbrev pub number_read : ℕ → ℕ → ℕ → Work → Work
number_read k n g W = acts 3 k (cap n) g (g + length (decimal n)) W

-- the further numbers of a list, from the space at g on
abbrev pub more_read : ℕ → List ℕ → ℕ → Work → Work
more_read k [] g W = W
more_read k (x ∷ xs) g W = more_read k xs (g + 1 + length (decimal x)) (number_read k x (g + 1) W)

abbrev pub list_read : ℕ → List ℕ → ℕ → Work → Work
list_read k [] g W = W
list_read k (x ∷ xs) g W = more_read k xs (g + length (decimal x)) (number_read k x g W)

-- the spots of a rule whose opening bracket is at g: its head, its lists, and the byte after its end
abbrev pub positive_spot : Rule → ℕ → ℕ
positive_spot r g = g + 6 + length (decimal r.head) + 2

abbrev pub negative_spot : Rule → ℕ → ℕ
negative_spot r g = positive_spot r g + length (list_text r.positive) + 3

abbrev pub rule_end : Rule → ℕ → ℕ
rule_end r g = negative_spot r g + length (list_text r.negative) + 3

abbrev pub rule_read : Rule → ℕ → Work → Work
rule_read r g W =
    acts 6 26 0 0 (negative_spot r g + length (list_text r.negative) + 2)
    (list_read 23 r.negative (negative_spot r g)
    (acts 5 21 0 0 (positive_spot r g + length (list_text r.positive) + 1)
    (list_read 19 r.positive (positive_spot r g)
    (number_read 16 r.head (g + 6)
    (acts 4 10 0 0 g W)))))

abbrev pub rules_read : List Rule → ℕ → Work → Work
rules_read [] g W = W
rules_read (r ∷ rs) g W = rules_read rs (rule_end r g) (rule_read r g W)

unfoldable pub judged : Program → Work → Work
judged P W = rules_read P.rules (7 + length (decimal P.atoms) + 2) (number_read 7 P.atoms 7 W)
