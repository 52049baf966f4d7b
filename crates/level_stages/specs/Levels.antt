-- The stages of a reduct, computed in bytes: one round over the rules for each stage (document 01, "Meaning").
--   fires M ls i R           rule R enters (enters of crate level_lists), and its head has no level yet
--   fired_bytes M i R ls     its head is then given level i
--   level_after M ls i rs a  the level of a once each of the rules rs had its turn in round i
--   first_difference n s ls  the smallest atom of 1 to n that has byte 0 in one of s and ls alone, 0 if there is none
-- Assumes nothing.
use Rattle.std.specs.Prelude.{ℕ, pred, Bool, not, ◌&&◌, cond, List, eqb, set}
use Rattle.std.specs.Bool.{beq}
use Rattle.lists.specs.Lists.{any, first}
use Rattle.meaning.specs.Program.{Rule, Atoms}
use Rattle.truth_literals.specs.Values.{value_in}
use Rattle.level_lists.specs.Bytes.{level_byte, enters}

abbrev pub fires : Atoms → List ℕ → ℕ → Rule → Bool
fires M ls i R = eqb (level_byte ls R.head) 0 && enters M ls i R

abbrev pub fired_bytes : Atoms → ℕ → Rule → List ℕ → List ℕ
fired_bytes M i R ls = cond (fires M ls i R) (set ls (pred R.head) i) ls

abbrev pub level_after : Atoms → List ℕ → ℕ → List Rule → ℕ → ℕ
level_after M ls i rs a = cond (eqb (level_byte ls a) 0 && any (λ R. eqb R.head a && enters M ls i R) rs) i (level_byte ls a)

unfoldable pub first_difference : ℕ → List ℕ → List ℕ → ℕ
first_difference n s ls = first n (λ a. not (beq (value_in s a) (value_in ls a)))
