-- A place of the form that holds a byte is one of its 27; past them there is none.
-- Assumes nothing.
use Prim.Native.Nat.{ℕ, suc, ◌≤◌, ◌<◌}
use native.Mathlib.Nat.{suc-ne-zero}
use mathlib.Core.Path.{◌≡◌, sym, ◌∙◌}
use mathlib.Core.Logic.{⊎_elim}
use lib.ListN.{get_or-eq_default}
use Rattle.lists.proofs.Tests.{le_or_lt}
use Rattle.reader_form.specs.Automaton.{form_bytes, form_at}

pub form_below : (k c : ℕ) → form_at k ≡ suc c → k < 27
unfolding form_at
form_below k c e =
    ⊎_elim (λ (h : 27 ≤ k). absurd (suc-ne-zero c (sym e ∙ get_or-eq_default form_bytes 0 h))) (λ (h : k < 27). h) (le_or_lt 27 k)

pub none_behind : (k : ℕ) → 27 ≤ k → form_at k ≡ 0
unfolding form_at
none_behind k h = get_or-eq_default form_bytes 0 h
