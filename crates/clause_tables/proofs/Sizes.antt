-- The number of pairs, of rules with no positive body atom and of body atoms of a program, and their bounds.
--   size_of, none_of  how many positive body atoms a rule has; 1 where it has none
--   atoms_held        the body atoms in all are those in the flat list
--   pairs_are         K is the sum of the sizes of the positive lists
--   pairs_few         the positive body atoms are at most all body atoms
--   pairs_held        the pairs of the first rules, with those of the next one, are at most the body atoms
--   count_few         K is at most 500
--   none_sum          of the first r rules at most r have no positive body atom
--   empty_few         at most as many rules with no positive body atom as rules
-- Assumes nothing.
use Prim.Native.Nat.{ℕ, zero, suc, ◌+◌, ◌≤◌, ◌<◌}
use native.Mathlib.Omega.{arith}
use mathlib.Core.Path.{◌≡◌, refl, sym, ◌∙◌, ap}
use mathlib.Core.Bool.{Bool, true, false, cond}
use mathlib.Core.List.{List, [], ◌∷◌, ◌++◌, map, append_assoc}
use lib.Dec.{eqb}
use lib.ListN.{length, length-append, length-map}
use Rattle.lists.specs.Lists.{joined, sum}
use Rattle.lists.proofs.Tables.{sum_ext, sum_add, sum_mono, length_each, each_list}
use Rattle.meaning.specs.Program.{Rule, Program, no_rule, rule_at}
use Rattle.encoding.specs.Clauses.{pairs, pair_count, pairs_with, empty_bodies, body_atoms}
use Rattle.text.specs.Limits.{bodies_of}
use Rattle.text.specs.Limits.{Limits}

abbrev pub size_of : Program → ℕ → ℕ
size_of P r = length (rule_at P.rules r).positive

abbrev pub none_of : Program → ℕ → ℕ
none_of P r = cond (eqb (size_of P r) 0) 1 0

-- the body atoms of one rule
abbrev both : Rule → List ℕ
both R = R.positive ++ R.negative

joined_bodies : (rs : List Rule) → joined (map both rs) ≡ bodies_of rs
joined_bodies [] = refl
joined_bodies (R ∷ rs) = append_assoc R.positive R.negative (joined (map both rs)) ∙ ap (λ (xs : List ℕ). R.positive ++ (R.negative ++ xs)) (joined_bodies rs)

pub atoms_held : (P : Program) → body_atoms P ≡ length (bodies_of P.rules)
unfolding body_atoms
atoms_held P =
    sym (sum_ext (length P.rules) (λ r. length (both (rule_at P.rules r))) _ (λ i h. length-append (rule_at P.rules (suc i)).positive (rule_at P.rules (suc i)).negative))
    ∙ sym (length_each (length P.rules) (λ r. both (rule_at P.rules r)))
    ∙ ap length (each_list both P.rules no_rule ∙ joined_bodies P.rules)

pub pairs_are : (P : Program) → pair_count P ≡ sum (length P.rules) (size_of P)
unfolding pairs
pairs_are P =
    length_each (length P.rules) (λ r. pairs_with (rule_at P.rules r).head (rule_at P.rules r).positive)
    ∙ sum_ext (length P.rules) _ _ (λ i h. length-map (rule_at P.rules (suc i)).positive _)

pub pairs_few : (P : Program) → sum (length P.rules) (size_of P) ≤ length (bodies_of P.rules)
unfolding body_atoms
pairs_few P = omega (arith, atoms_held P, sum_add (length P.rules) (size_of P) (λ r. length (rule_at P.rules r).negative))

pub pairs_held : (P : Program) (r : ℕ) → r < length P.rules → sum r (size_of P) + size_of P (suc r) ≤ length (bodies_of P.rules)
pairs_held P r h = omega (arith, pairs_few P, sum_mono (length P.rules) (size_of P) r h)

pub count_few : (P : Program) → Limits P → pair_count P ≤ 500
count_few P l = omega (arith, pairs_are P, pairs_few P, l.few_bodies)

pub none_few : (k : ℕ) → cond (eqb k 0) 1 0 ≤ 1
none_few k = go (eqb k 0)
  where
    go : (b : Bool) → cond b 1 0 ≤ 1
    go true = omega arith
    go false = omega arith

pub none_sum : (P : Program) (r : ℕ) → sum r (none_of P) ≤ r
none_sum P zero = omega arith
none_sum P (suc r) = omega (arith, none_sum P r, none_few (size_of P (suc r)))

pub empty_few : (P : Program) → empty_bodies P ≤ length P.rules
unfolding empty_bodies
empty_few P = none_sum P (length P.rules)
