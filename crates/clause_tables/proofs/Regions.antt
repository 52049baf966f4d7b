-- Lists laid one after the other, and each of them by its place.
--   total ks      the sum of the numbers ks
--   region_at     the cells of list i of joined lists, whose lengths are known
--   joined_length their length in all
-- Assumes nothing.
use Prim.Native.Nat.{ℕ, zero, suc, ◌+◌, ◌<◌}
use native.Mathlib.Nat.{not-suc-le-zero, le_of_suc-le-suc}
use mathlib.Core.Path.{◌≡◌, refl, sym, ◌∙◌, ap}
use mathlib.Core.List.{List, [], ◌∷◌, map}
use lib.ListN.{length, get_or, take, length-append}
use lib.Seq.{take_at, drop-append-add}
use Rattle.lists.specs.Lists.{joined}
use Rattle.clause_tables.specs.Tables.{region}

abbrev pub total : List ℕ → ℕ
total [] = 0
total (k ∷ ks) = k + total ks

-- the lengths of the lists
abbrev pub lengths : List (List ℕ) → List ℕ
lengths Rs = map length Rs

here : (Rs : List (List ℕ)) (i : ℕ) → i < length Rs → region (total (take i (lengths Rs))) (get_or (lengths Rs) i 0) (joined Rs) ≡ get_or Rs i []
here [] i h = absurd (not-suc-le-zero h)
here (R ∷ Rs) zero h = take_at R (joined Rs) (length R) refl
here (R ∷ Rs) (suc i) h =
    ap (take (get_or (lengths Rs) i 0)) (drop-append-add R (joined Rs) (total (take i (lengths Rs)))) ∙ here Rs i (le_of_suc-le-suc h)

pub region_at : (Rs : List (List ℕ)) (ks : List ℕ) → lengths Rs ≡ ks → (i : ℕ) → i < length Rs
    → region (total (take i ks)) (get_or ks i 0) (joined Rs) ≡ get_or Rs i []
region_at Rs ks e i h = ap (λ (xs : List ℕ). region (total (take i xs)) (get_or xs i 0) (joined Rs)) (sym e) ∙ here Rs i h

length_here : (Rs : List (List ℕ)) → length (joined Rs) ≡ total (lengths Rs)
length_here [] = refl
length_here (R ∷ Rs) = length-append R (joined Rs) ∙ ap (λ (k : ℕ). length R + k) (length_here Rs)

pub joined_length : (Rs : List (List ℕ)) (ks : List ℕ) → lengths Rs ≡ ks → length (joined Rs) ≡ total ks
joined_length Rs ks e = length_here Rs ∙ ap total e
