-- One literal, by its number.
--   put_repeated, put_done              what `put_variable` answers, and the buffer it leaves
--   put_stray                           what `put_value` answers of one that is stray, and the buffer it leaves
--   put_stops                           a literal that is stray or repeated leaves the buffer
-- Assumes nothing.
use Prim.Native.Nat.{ℕ, ◌-◌, ◌≤◌, ◌<◌}
use mathlib.Core.Path.{◌≡◌, refl, subst}
use mathlib.Core.Bool.{Bool, true, false, cond}
use mathlib.Core.List.{List}
use lib.Dec.{eqb, ltb}
use lib.ListN.{get_or, set}
use borrow.Author.Tests.{eq-eqb, ne_eqb, lt-ltb, le-ltb}
use Rattle.std.specs.Prelude.{Ok, Err}
use Rattle.answer_bytes.specs.declared.AssignFault.TheVariants.{Stray, Repeated}
use Rattle.answer_bytes.specs.Bytes.{Outcome, put_outcome, put_bytes, assigned_for}

-- ---- by its number

module _ (n v s x : ℕ) (b : List ℕ) where
  -- k is the variable, as the code has it
  pub put_stray : (k : ℕ) → k ≡ v → n < k → (Err (Stray s) ≡ assigned_for (put_outcome n v s b)) × (b ≡ put_bytes n v x b)
  unfolding put_outcome put_bytes
  put_stray k same h =
      let above = lt-ltb n v (subst (λ (j : ℕ). n < j) same h) in
      (rw above, rw above)

  -- ---- a literal that is not assigned

  pub put_stops : (put_outcome n v s b ≡ Outcome.done → ⊥) → put_bytes n v x b ≡ b
  unfolding put_outcome put_bytes
  put_stops h = go (ltb n v) (eqb (get_or b (v - 1) 0) 2) h
    where
      go : (c d : Bool) → (cond c (Outcome.stray s) (cond d Outcome.done (Outcome.repeated s)) ≡ Outcome.done → ⊥) → cond c b (cond d (set b (v - 1) x) b) ≡ b
      go true d h = refl
      go false true h = absurd (h refl)
      go false false h = refl

  -- ---- a variable up to n

  pub put_repeated : v ≤ n → (get_or b (v - 1) 0 ≡ 2 → ⊥) → (Err (Repeated s) ≡ assigned_for (put_outcome n v s b)) × (b ≡ put_bytes n v x b)
  unfolding put_outcome put_bytes
  put_repeated h e =
      let below = le-ltb n v h in
      let other = ne_eqb (get_or b (v - 1) 0) 2 e in
      (rw (below, other), rw (below, other))

  pub put_done : v ≤ n → get_or b (v - 1) 0 ≡ 2 → (Ok tt ≡ assigned_for (put_outcome n v s b)) × (set b (v - 1) x ≡ put_bytes n v x b)
  unfolding put_outcome put_bytes
  put_done h e =
      let below = le-ltb n v h in
      let here = eq-eqb (get_or b (v - 1) 0) 2 e in
      (rw (below, here), rw (below, here))
