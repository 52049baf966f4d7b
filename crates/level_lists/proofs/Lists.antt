-- What a range of bytes says of the atoms of a list: the ranges that are asked for.
--   none_within, below_within, is_below_within
-- Assumes nothing.
use Prim.Native.Nat.{ℕ, zero, suc}
use native.Mathlib.Omega.{arith}
use mathlib.Core.Path.{◌≡◌, refl, sym, ◌∙◌, ap}
use mathlib.Core.Bool.{Bool, not, ◌&&◌}
use mathlib.Core.List.{List}
use lib.Dec.{eqb, leb, ltb}
use lib.ListN.{get_or}
use borrow.Author.Tests.{eq-eqb, ne_eqb, le-leb, lt-leb, lt-ltb, le-ltb}
use Rattle.lists.specs.Lists.{all}
use Rattle.lists.proofs.Tests.{all_ext}
use Rattle.meaning.specs.Program.{none_in}
use Rattle.truth_literals.specs.Values.{value_in}
use Rattle.level_lists.specs.Bytes.{level_byte, is_within, is_below}

from_one : (x : ℕ) → leb 1 x ≡ not (eqb x 0)
from_one zero = lt-leb 1 0 (omega arith) ∙ sym (ap not (eq-eqb 0 0 refl))
from_one (suc x) = le-leb 1 (suc x) (omega arith) ∙ sym (ap not (ne_eqb (suc x) 0 (λ q. omega (arith, q))))

under_one : (x : ℕ) → ltb x 1 ≡ not (not (eqb x 0))
under_one zero = lt-ltb 0 1 (omega arith) ∙ sym (ap (λ (d : Bool). not (not d)) (eq-eqb 0 0 refl))
under_one (suc x) = le-ltb (suc x) 1 (omega arith) ∙ sym (ap (λ (d : Bool). not (not d)) (ne_eqb (suc x) 0 (λ q. omega (arith, q))))

module _ (bs xs : List ℕ) where
  pub below_within : (y : ℕ) → all (is_within bs 0 y) xs ≡ all (λ b. ltb (level_byte bs b) y) xs
  below_within y =
      all_ext (is_within bs 0 y) (λ b. ltb (level_byte bs b) y) xs 0
      (λ j h. ap (λ (d : Bool). d && ltb (level_byte bs (get_or xs j 0)) y) (le-leb 0 (level_byte bs (get_or xs j 0)) (omega arith)))

  pub none_within : all (is_within bs 0 1) xs ≡ none_in (value_in bs) xs
  none_within =
      below_within 1 ∙ all_ext (λ b. ltb (level_byte bs b) 1) (λ b. not (value_in bs b)) xs 0 (λ j h. under_one (level_byte bs (get_or xs j 0)))

  pub is_below_within : (i : ℕ) → all (is_within bs 1 i) xs ≡ all (is_below bs i) xs
  is_below_within i =
      all_ext (is_within bs 1 i) (is_below bs i) xs 0
      (λ j h. ap (λ (d : Bool). d && ltb (level_byte bs (get_or xs j 0)) i) (from_one (level_byte bs (get_or xs j 0))))
