-- Ground normal programs as plain values (document 01, "Program text").
--   Rule           H, B and C: head, positive and negative body atoms
--   Program        the number of atoms and the rules in text order; atoms are numbered from 1
--   rule_at P r    rule r of P, counted from 1
--   well_formed P  each atom of a rule is one of 1 to n
-- Assumes nothing.
use Rattle.std.specs.Prelude.{ℕ, pred, Bool, not, ◌&&◌, List, [], ltb, leb, get_or}
use Rattle.lists.specs.Lists.{all}

pub record Rule : Type 0 where
  pub head : ℕ
  pub positive : List ℕ
  pub negative : List ℕ

pub record Program : Type 0 where
  pub atoms : ℕ
  pub rules : List Rule

-- a set of atoms
abbrev pub Atoms : Type 0
Atoms = ℕ → Bool

-- what stands at a number that is no rule's
abbrev pub no_rule : Rule
no_rule = record { head = 0; positive = []; negative = [] }

abbrev pub rule_at : List Rule → ℕ → Rule
rule_at rs r = get_or rs (pred r) no_rule

-- a is one of the atoms 1 to n
abbrev pub is_atom : ℕ → ℕ → Bool
is_atom n a = ltb 0 a && leb a n

abbrev pub rule_fits : ℕ → Rule → Bool
rule_fits n r = is_atom n r.head && (all (is_atom n) r.positive && all (is_atom n) r.negative)

unfoldable pub well_formed : Program → Bool
well_formed P = all (rule_fits P.atoms) P.rules

-- the body of a rule is true in M: each B atom is in M and no C atom is
abbrev pub none_in : Atoms → List ℕ → Bool
none_in M cs = all (λ c. not (M c)) cs

abbrev pub body_true : Atoms → Rule → Bool
body_true M r = all M r.positive && none_in M r.negative
