-- The arrays of a program, and the program that arrays hold.
--   kept P               the arrays of P
--   empty_program        those of the program with no atom and no rule
--   rule_in A i          the rule with i rules before it
--   rules_from A i k     k rules from there on
--   decoded A            the whole program
-- Assumes nothing.
use Rattle.std.specs.Prelude.{ℕ, zero, suc, ◌+◌, ◌-◌, ◌*◌, List, [], ◌∷◌, ◌++◌, map, length, get_or, take, drop, replicate}
use Rattle.meaning.specs.Program.{Rule, Program}
use Rattle.text.specs.Limits.{bodies_of}
use Rattle.program.specs.declared.Program.{Program as Arrays}

-- where list j of all lists begins: the lists of rule i are 2i and 2i + 1
abbrev pub start_of : Arrays → ℕ → ℕ
start_of A j = get_or A.starts j 0

abbrev pub list_in : Arrays → ℕ → List ℕ
list_in A j = take (start_of A (j + 1) - start_of A j) (drop (start_of A j) A.bodies)

abbrev pub rule_in : Arrays → ℕ → Rule
rule_in A i = record { head = get_or A.heads i 0; positive = list_in A (2 * i); negative = list_in A (2 * i + 1) }

abbrev pub rules_from : Arrays → ℕ → ℕ → List Rule
rules_from A i zero = []
rules_from A i (suc k) = rule_in A i ∷ rules_from A (suc i) k

unfoldable pub decoded : Arrays → Program
decoded A = record { atoms = A.atoms; rules = rules_from A 0 A.rules }

-- ---- the arrays of a program

-- xs, filled up with zeros to k elements
abbrev pub pad : ℕ → List ℕ → List ℕ
pad k xs = xs ++ replicate (k - length xs) 0

-- where the lists of the rules end, with j body atoms before them
abbrev pub ends_of : ℕ → List Rule → List ℕ
ends_of j [] = []
ends_of j (r ∷ rs) =
    (j + length r.positive) ∷ (j + length r.positive + length r.negative) ∷ ends_of (j + length r.positive + length r.negative) rs

unfoldable pub kept : Program → Arrays
kept P =
    record {
      atoms = P.atoms;
      rules = length P.rules;
      held = length (bodies_of P.rules);
      heads = pad 500 (map (λ r. r.head) P.rules);
      starts = pad 1001 (0 ∷ ends_of 0 P.rules);
      bodies = pad 500 (bodies_of P.rules);
    }

unfoldable pub empty_program : Arrays
empty_program = record { atoms = 0; rules = 0; held = 0; heads = replicate 500 0; starts = replicate 1001 0; bodies = replicate 500 0 }
