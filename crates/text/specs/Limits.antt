-- The limits of a program text (document 01, "Program text").
--   max_atoms, max_rules, max_body_atoms, max_text  126 atoms, 500 rules, 500 body atoms, 65,536 bytes
--   bodies_of rs    the body atoms of the rules, in text order
--   Limits P        at most 126 atoms, 500 rules and 500 body atoms, each an atom, lists ascending strictly
--   Admitted t P    t is at most 65,536 bytes long, the text of P, and P is within the limits
-- Assumes nothing.
use Rattle.std.specs.Prelude.{ℕ, ◌≤◌, ◌≡◌, Bool, true, ◌&&◌, List, [], ◌∷◌, ◌++◌, ltb, length}
use Rattle.std.proofs.Math.Bool.{So}
use Rattle.lists.specs.Lists.{all}
use Rattle.meaning.specs.Program.{Rule, Program, well_formed}
use Rattle.text.specs.Text.{text_of}

abbrev pub max_atoms : ℕ
max_atoms = 126

abbrev pub max_rules : ℕ
max_rules = 500

-- in all lists
abbrev pub max_body_atoms : ℕ
max_body_atoms = 500

-- bytes of a program text, and of a solver answer
abbrev pub max_text : ℕ
max_text = 65536

-- the body atoms of the rules, in text order
abbrev pub bodies_of : List Rule → List ℕ
bodies_of [] = []
bodies_of (r ∷ rs) = r.positive ++ (r.negative ++ bodies_of rs)

-- a list ascends strictly
abbrev pub ascends : List ℕ → Bool
ascends [] = true
ascends (x ∷ []) = true
ascends (x ∷ (y ∷ xs)) = ltb x y && ascends (y ∷ xs)

abbrev pub rule_ascends : Rule → Bool
rule_ascends r = ascends r.positive && ascends r.negative

pub record Limits (P : Program) : Type 0 where
  pub few_atoms : P.atoms ≤ max_atoms
  pub few_rules : length P.rules ≤ max_rules
  pub few_bodies : length (bodies_of P.rules) ≤ max_body_atoms
  pub all_atoms : So (well_formed P)
  pub ascending : So (all rule_ascends P.rules)

-- t is a text that document 01 admits, and P its program
pub record Admitted (t : List ℕ) (P : Program) : Type 0 where
  pub not_overlong : length t ≤ max_text
  pub its_text : t ≡ text_of P
  pub limits : Limits P
