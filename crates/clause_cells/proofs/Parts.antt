-- A cell and a part of a region of a table, by their places in the table.
-- Assumes nothing.
use Prim.Native.Nat.{ℕ, ◌+◌, ◌-◌, ◌≤◌, ◌<◌}
use Prim.Native.Nat.{zero, suc}
use native.Mathlib.Nat.{sub-zero}
use native.Mathlib.Omega.{arith}
use mathlib.Core.Path.{◌≡◌, refl, sym, ◌∙◌, ap}
use mathlib.Core.List.{List, [], ◌∷◌}
use lib.ListN.{get_or, take, drop}
use lib.Seq.{get_or-take, get_or-drop, take-take, drop-drop}
use Rattle.clause_tables.specs.Tables.{region}

none_taken : (n : ℕ) → ◌≡◌ {A = List ℕ} [] (take n [])
none_taken zero = refl
none_taken (suc n) = refl

drop_front : (f k : ℕ) (xs : List ℕ) → f ≤ k → drop f (take k xs) ≡ take (k - f) (drop f xs)
drop_front zero k xs h = ap (λ (n : ℕ). take n xs) (sym (sub-zero k))
drop_front (suc f) zero xs h = absurd (omega (arith, h))
drop_front (suc f) (suc k) [] h = none_taken (suc k - suc f)
drop_front (suc f) (suc k) (x ∷ xs) h = drop_front f k xs (omega (arith, h)) ∙ ap (λ (n : ℕ). take n (drop f xs)) (less f k)
  where
    less : (f k : ℕ) → k - f ≡ suc k - suc f
    less f k = omega arith

module _ (tb : List ℕ) (j k : ℕ) where
  pub cell_at : (i : ℕ) → i < k → get_or tb (j + i) 0 ≡ get_or (region j k tb) i 0
  cell_at i h = sym (get_or-take k (drop j tb) i 0 h ∙ get_or-drop j tb i 0)

  pub front_at : (m : ℕ) → m ≤ k → take (j + m - j) (drop j tb) ≡ take m (region j k tb)
  front_at m h = ap (λ (n : ℕ). take n (drop j tb)) (less m) ∙ sym (take-take m k (drop j tb) h)
    where
      less : (m : ℕ) → j + m - j ≡ m
      less m = omega arith

  pub part_at : (f e : ℕ) → f ≤ e → e ≤ k → take (j + e - (j + f)) (drop (j + f) tb) ≡ take (e - f) (drop f (region j k tb))
  part_at f e h l =
      ap (λ (n : ℕ). take n (drop (j + f) tb)) (less f e)
      ∙ ap (take (e - f)) (sym (drop-drop f j tb))
      ∙ sym (take-take (e - f) (k - f) (drop f (drop j tb)) (omega (arith, l)))
      ∙ ap (take (e - f)) (sym (drop_front f k (drop j tb) (omega (arith, h, l))))
    where
      less : (f e : ℕ) → j + e - (j + f) ≡ e - f
      less f e = omega arith
