-- Any number for an action: what it does is what the action does that it is taken for, a that `Action::from` makes of n.
--   value_numbered, begin_numbered   to the number being read
--   work_numbered, heads_numbered, starts_numbered, bodies_numbered   to counts and arrays
-- Assumes nothing.
use Prim.Native.Nat.{ℕ, ◌≤◌, ◌<◌, min}
use native.Mathlib.Omega.{arith}
use mathlib.Core.Path.{◌≡◌, ◌∙◌, ap}
use mathlib.Core.Logic.{⊎_elim}
use mathlib.Core.List.{List}
use borrow.Author.Tests.{ne_eqb, le-ltb}
use Rattle.std.proofs.lemmas.Bool.{cases_lt}
use Rattle.reader_form.specs.declared.Action.{Action}
use Rattle.reader_form.specs.Numbers.{act_number}
use Rattle.reader_work.specs.Work.{Tally, value_after, begin_after, bracket_of, bracket_starts, work_of, work_heads, work_starts, work_bodies}

module _ (n : ℕ) (a : Action) (e : act_number a ≡ min n 6) where
  taken : {A : Type 0} (f : ℕ → A) → (7 ≤ n → f 6 ≡ f n) → f (act_number a) ≡ f n
  taken f past =
      ⊎_elim (λ (h : n < 7). let l : act_number a ≡ n = omega (arith, e) in ap f l)
      (λ (h : 7 ≤ n). let l : act_number a ≡ 6 = omega (arith, e) in ap f l ∙ past h) (cases_lt n 7)

  pub value_numbered : (value b : ℕ) → value_after (act_number a) value b ≡ value_after n value b
  unfolding value_after
  value_numbered value b = taken (λ (x : ℕ). value_after x value b) (λ h. rw (ne_eqb n 1 (omega arith), ne_eqb n 2 (omega arith)))

  pub begin_numbered : (begin i : ℕ) → begin_after (act_number a) begin i ≡ begin_after n begin i
  unfolding begin_after
  begin_numbered begin i = taken (λ (x : ℕ). begin_after x begin i) (λ h. rw (ne_eqb n 1 (omega arith), ne_eqb n 2 (omega arith)))

  pub work_numbered : (k value begin i : ℕ) (c : Tally) → work_of (act_number a) k value begin i c ≡ work_of n k value begin i c
  unfolding bracket_of work_of
  work_numbered k value begin i c =
      taken (λ (x : ℕ). work_of x k value begin i c)
      (λ h. rw (le-ltb n 3 (omega arith), ne_eqb n 3 (omega arith), ne_eqb n 4 (omega arith), ne_eqb n 5 (omega arith)))

  pub heads_numbered : (k value : ℕ) (c : Tally) (heads : List ℕ) → work_heads (act_number a) k value c heads ≡ work_heads n k value c heads
  unfolding work_heads
  heads_numbered k value c heads = taken (λ (x : ℕ). work_heads x k value c heads) (λ h. rw (le-ltb n 3 (omega arith), ne_eqb n 3 (omega arith)))

  pub starts_numbered : (c : Tally) (starts : List ℕ) → work_starts (act_number a) c starts ≡ work_starts n c starts
  unfolding bracket_starts work_starts
  starts_numbered c starts =
      taken (λ (x : ℕ). work_starts x c starts)
      (λ h. rw (le-ltb n 3 (omega arith), ne_eqb n 3 (omega arith), ne_eqb n 4 (omega arith), ne_eqb n 5 (omega arith)))

  pub bodies_numbered : (k value : ℕ) (c : Tally) (bodies : List ℕ) → work_bodies (act_number a) k value c bodies ≡ work_bodies n k value c bodies
  unfolding work_bodies
  bodies_numbered k value c bodies = taken (λ (x : ℕ). work_bodies x k value c bodies) (λ h. rw (le-ltb n 3 (omega arith), ne_eqb n 3 (omega arith)))
