-- Spots where texts leave a form, for any form.
--   left_malformed       a text that a test of the form rejects is malformed at the byte from which on the test rejects every ending
--   spot_unique          no text has two malformed spots
--   form_not_malformed   a text of the form is not malformed
-- Assumes nothing.
use Prim.Native.Nat.{ℕ, ◌+◌, ◌-◌, ◌≤◌, ◌<◌}
use native.Mathlib.Nat.{le_antisymm, lt_of_lt_of_le, add-sub_of_le, eq-or-lt_of_le}
use native.Mathlib.Omega.{arith}
use mathlib.Core.Path.{◌≡◌, sym, ◌∙◌, ap, subst}
use mathlib.Core.Bool.{Bool, true, false, true≢false}
use mathlib.Core.Logic.{⊎_elim}
use mathlib.Core.List.{List, ◌++◌, append_assoc}
use lib.ListN.{length, take, drop, take-append-drop}
use lib.Seq.{take-add}
use Rattle.lists.proofs.Tests.{le_or_lt}
use Rattle.text.specs.Spot.{ViableIn, MalformedIn}

-- a test that accepts every text of the form
module _ (Form : List ℕ → Type 0) (accepts : List ℕ → Bool) (complete : (t : List ℕ) → Form t → accepts t ≡ true) where
  pub left_malformed : (t : List ℕ) (n : ℕ) → accepts t ≡ false → n ≤ length t → ViableIn Form (take n t)
      → (n < length t → (e : List ℕ) → accepts (take (n + 1) t ++ e) ≡ false) → MalformedIn Form t n
  left_malformed t n r h v d =
      record {
        within = h;
        before = v;
        dead = λ l v. true≢false (sym (complete _ v.gives) ∙ d l v.ending);
        short = λ e f. true≢false (sym (complete t f) ∙ r);
      }

-- a part of a text of the form has an ending of bytes
module _ (Form : List ℕ → Type 0) (part : (t u : List ℕ) → Form (t ++ u) → ViableIn Form t) where
  -- what has an ending has one from any part of it on
  viable_take : (t : List ℕ) (i j : ℕ) → i ≤ j → ViableIn Form (take j t) → ViableIn Form (take i t)
  viable_take t i j h v =
      part (take i t) (take (j - i) (drop i t) ++ v.ending)
      (subst Form (ap (λ (k : ℕ). take k t ++ v.ending) (sym (add-sub_of_le h)) ∙ ap (λ (u : List ℕ). u ++ v.ending) (take-add i (j - i) t)
      ∙ append_assoc (take i t) (take (j - i) (drop i t)) v.ending) v.gives)

  no_later : (t : List ℕ) (s u : ℕ) → MalformedIn Form t s → MalformedIn Form t u → u ≤ s
  no_later t s u p q =
      ⊎_elim (λ (l : u ≤ s). l)
      (λ (l : s < u). absurd (p.dead (lt_of_lt_of_le l q.within) (viable_take t (s + 1) u (omega arith) q.before))) (le_or_lt u s)

  pub spot_unique : (t : List ℕ) (s u : ℕ) → MalformedIn Form t s → MalformedIn Form t u → s ≡ u
  spot_unique t s u p q = le_antisymm (no_later t u s q p) (no_later t s u p q)

  pub form_not_malformed : (t : List ℕ) (s : ℕ) → Form t → MalformedIn Form t s → ⊥
  form_not_malformed t s f m =
      ⊎_elim (λ (e : s ≡ length t). m.short e f)
      (λ (l : s < length t). m.dead l (part (take (s + 1) t) (drop (s + 1) t) (subst Form (sym (take-append-drop (s + 1) t)) f))) (eq-or-lt_of_le m.within)
