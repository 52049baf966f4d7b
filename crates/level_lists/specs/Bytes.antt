-- Sets of atoms and levels as bytes, one for each atom, and what they say of the lists of a rule (document 01, "Meaning").
--   set_in n s            the atoms of 1 to n whose byte is not 0
--   level_byte ls a       the byte of atom a
--   is_within ls lo hi b  the byte of b is at least lo and below hi
--   list_of R k           the B of rule R where k is 0, its C otherwise
--   is_below ls i b       b has a level, and one below i
--   enters M ls i R       rule R is kept and each of its B has a level below i
-- Assumes nothing.
use Rattle.std.specs.Prelude.{ℕ, pred, Bool, ◌&&◌, cond, List, eqb, leb, ltb, get_or}
use Rattle.lists.specs.Lists.{all}
use Rattle.meaning.specs.Program.{Rule, Atoms, none_in}
use Rattle.encoding.specs.Fill.{true_in}
use Rattle.truth_literals.specs.Values.{value_in}

abbrev pub set_in : ℕ → List ℕ → Atoms
set_in n s = true_in n (value_in s)

abbrev pub level_byte : List ℕ → ℕ → ℕ
level_byte ls a = get_or ls (pred a) 0

abbrev pub is_within : List ℕ → ℕ → ℕ → ℕ → Bool
is_within ls lo hi b = leb lo (level_byte ls b) && ltb (level_byte ls b) hi

abbrev pub list_of : Rule → ℕ → List ℕ
list_of R k = cond (eqb k 0) R.positive R.negative

abbrev pub is_below : List ℕ → ℕ → ℕ → Bool
is_below ls i b = value_in ls b && ltb (level_byte ls b) i

abbrev pub enters : Atoms → List ℕ → ℕ → Rule → Bool
enters M ls i R = none_in M R.negative && all (is_below ls i) R.positive
