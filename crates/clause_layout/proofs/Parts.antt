-- Parts of a list, by where they begin and end.
-- Assumes nothing.
use Prim.Native.Nat.{ℕ, ◌-◌, ◌≤◌, ◌<◌}
use native.Mathlib.Omega.{arith}
use mathlib.Core.Path.{◌≡◌, ◌∙◌, ap, subst, sym}
use mathlib.Core.List.{List}
use lib.ListN.{length, get_or, take, drop, length-drop}
use lib.Seq.{length-take-le}
use borrow.Author.Tests.{lt-ltb, le-ltb, eq-eqb, ne_eqb}
use Rattle.clause_walk.specs.Walk.{slots1}
use Rattle.clause_layout.specs.Numbers.{implied_size}

part_length : (xs : List ℕ) (b e : ℕ) → b ≤ e → e ≤ length xs → length (take (e - b) (drop b xs)) ≡ e - b
part_length xs b e h k = length-take-le (e - b) (drop b xs) (subst (λ (n : ℕ). e - b ≤ n) (sym (length-drop b xs)) (less (length xs) k))
  where
    less : (n : ℕ) → e ≤ n → e - b ≤ n - b
    less n k = omega (arith, h, k)

-- of an array of 500 elements
module _ (xs : List ℕ) {ys : List ℕ} (s : length xs ≡ 500) where
  pub part_slots : (b e y l : ℕ) → ys ≡ take (e - b) (drop b xs) → b ≤ e → e ≤ 500 → l ≤ slots1 (e - b) y → l ≤ slots1 (length ys) y
  part_slots b e y l p h k q = subst (λ (n : ℕ). l ≤ slots1 n y) (sym (ap length p ∙ part_length xs b e h (omega (arith, s, k)))) q

-- the clauses of a block of group 2, by the tests that the code makes
module _ (m i a : ℕ) (hs : List ℕ) where
  pub implied_past : m < i → 1 ≡ implied_size m hs a i
  implied_past h = rw (lt-ltb m i h)

  pub implied_own : i ≤ m → {x : ℕ} → x ≡ get_or hs (i - 1) 0 → x ≡ a → 1 ≡ implied_size m hs a i
  implied_own h p e = rw (le-ltb m i h, eq-eqb (get_or hs (i - 1) 0) a (sym p ∙ e))

  pub implied_other : i ≤ m → {x : ℕ} → x ≡ get_or hs (i - 1) 0 → (x ≡ a → ⊥) → 0 ≡ implied_size m hs a i
  implied_other h p f = rw (le-ltb m i h, ne_eqb (get_or hs (i - 1) 0) a (λ e. f (p ∙ e)))
