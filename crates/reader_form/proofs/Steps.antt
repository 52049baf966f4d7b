-- Any number for a mode: the step from it is that from the mode that it is taken for.
--   step_numbered   for the mode m that `Mode::from` makes of n
-- Assumes nothing.
use Prim.Native.Nat.{ℕ, ◌≤◌, ◌<◌, min}
use native.Mathlib.Omega.{arith}
use mathlib.Core.Path.{◌≡◌, ◌∙◌, ap}
use mathlib.Core.Logic.{⊎_elim}
use borrow.Author.Tests.{ne_eqb}
use Rattle.lists.proofs.Tests.{le_or_lt}
use Rattle.reader_form.specs.Automaton.{Step, digit_of, leave_of, item_of, form_step}
use Rattle.reader_form.specs.declared.Mode.{Mode}
use Rattle.reader_form.specs.Numbers.{mode_number}

past_last : (k n b : ℕ) → 5 ≤ n → form_step k 4 b ≡ form_step k n b
unfolding digit_of leave_of item_of form_step
past_last k n b h = rw (ne_eqb n 0 (omega arith), ne_eqb n 1 (omega arith), ne_eqb n 2 (omega arith), ne_eqb n 3 (omega arith))

step_capped : (k n b : ℕ) → form_step k (min n 4) b ≡ form_step k n b
step_capped k n b =
    ⊎_elim (λ (h : 5 ≤ n). let e : min n 4 ≡ 4 = omega arith in rw e (past_last k n b h))
    (λ (h : n < 5). let e : min n 4 ≡ n = omega arith in rw e) (le_or_lt 5 n)

pub step_numbered : (k n b : ℕ) (m : Mode) → mode_number m ≡ min n 4 → form_step k (mode_number m) b ≡ form_step k n b
step_numbered k n b m e = ap (λ (x : ℕ). form_step k x b) e ∙ step_capped k n b
