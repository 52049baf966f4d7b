-- Values as bytes and as truth values.
--   value_same, values_same   the value of a variable is the same in both
--   count_same, counters_same, levels_same   so are the number of true atoms, their counters and the highest one
--   atoms_within              each atom's variable is one of 1 to V
--   value_here, level_here    values and levels at the front of a list
-- Assumes nothing.
use Prim.Native.Nat.{ℕ, zero, suc, pred, ◌≤◌, ◌<◌}
use native.Mathlib.Omega.{arith}
use mathlib.Core.Path.{◌≡◌, refl, ◌∙◌, ap}
use mathlib.Core.Bool.{Bool, true, false, not, So, cond}
use mathlib.Core.List.{List, [], ◌∷◌, ◌++◌}
use lib.Dec.{eqb}
use lib.ListN.{length, get_or}
use Rattle.lists.specs.Lists.{tab, sum, highest}
use Rattle.lists.proofs.Tables.{length_tab, get_or_tab, get_or_here}
use Rattle.lists.proofs.Highest.{highest_same}
use Rattle.meaning.specs.Program.{is_atom}
use Rattle.encoding.specs.Code.{Code, variables_of}
use Rattle.encoding.specs.Literal.{Assignment, value_of}
use Rattle.encoding.specs.Variables.{Sizes}
use Rattle.encoding.specs.Fill.{counter}
use Rattle.theory.proofs.Atoms.{by_place}
use Rattle.answer_offers.specs.Offered.{value_bytes}
use Rattle.truth_clauses.specs.Truth.{value_in}
use Rattle.call_results.specs.Results.{true_count, level_byte, counters}

byte_true : (bs : List Bool) (k : ℕ) → not (eqb (get_or (value_bytes bs) k 0) 0) ≡ get_or bs k false
byte_true [] k = refl
byte_true (true ∷ bs) zero = refl
byte_true (false ∷ bs) zero = refl
byte_true (b ∷ bs) (suc k) = byte_true bs k

pub value_same : (bs : List Bool) (v : ℕ) → value_in (value_bytes bs) v ≡ value_of bs v
unfolding value_of
value_same bs v = byte_true bs (pred v)

pub values_same : (bs : List Bool) → value_in (value_bytes bs) ≡ value_of bs
values_same bs = λ i v. value_same bs v i

pub count_same : (n : ℕ) (bs : List Bool) → true_count n (value_bytes bs) ≡ sum n (λ a. cond (value_of bs a) 1 0)
unfolding true_count
count_same n bs = ap (λ (A : Assignment). sum n (λ a. cond (A a) 1 0)) (values_same bs)

pub counters_same : (S : Sizes) (bs : List Bool) → counters S (value_bytes bs) ≡ tab S.n (counter S (value_of bs))
counters_same S bs = ap (λ (A : Assignment). tab S.n (counter S A)) (values_same bs)

pub levels_same : (n : ℕ) (f : ℕ → ℕ) → highest n (level_byte (tab n f)) ≡ highest n f
levels_same n f = highest_same n (level_byte (tab n f)) f (λ i h. get_or_tab n f 0 i h)

-- ---- at the front of a list

pub atoms_within : (G : Code) → G.n ≤ variables_of G
atoms_within G = omega arith

pub value_here : (xs ys : List ℕ) (i : ℕ) → i < length xs → value_in (xs ++ ys) (suc i) ≡ value_in xs (suc i)
value_here xs ys i h = ap (λ (x : ℕ). not (eqb x 0)) (get_or_here xs ys 0 (length xs) i refl h)

pub level_here : (n : ℕ) (ℓ : ℕ → ℕ) (ys : List ℕ) (a : ℕ) → So (is_atom n a) → level_byte (tab n ℓ ++ ys) a ≡ ℓ a
level_here n ℓ ys =
    by_place n (λ a. level_byte (tab n ℓ ++ ys) a ≡ ℓ a) (λ a h. get_or_here (tab n ℓ) ys 0 n a (length_tab n ℓ) h ∙ get_or_tab n ℓ 0 a h)
