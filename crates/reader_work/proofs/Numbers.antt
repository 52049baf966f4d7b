-- What the number of a refusal says, and tests that do not matter.
--   some_number, no_number   the test of a refusal's number
--   either                   a choice between one value and itself
--   capped                   a number kept at 1000
--   counts_stay              a program whose arrays are written keeps the counts that it had
-- Assumes nothing.
use Prim.Native.Nat.{ℕ, min}
use native.Mathlib.Omega.{arith}
use mathlib.Core.Path.{◌≡◌, refl, sym, ap, subst}
use mathlib.Core.Bool.{Bool, true, false, cond, false≢true, true≢false}
use mathlib.Core.List.{List}
use lib.Dec.{eqb, ltb}
use borrow.Author.Tests.{ltb-true, ltb-false}
use Rattle.std.specs.Prelude.{Option, Some, None}
use Rattle.std.specs.Option.{is_some}
use Rattle.refusals.specs.declared.TextRefusal.{TextRefusal}
use Rattle.refusals.specs.declared.TextRefusal.TheVariants.{Overlong, Malformed, TooManyAtoms, UnknownAtom, Unordered, TooManyRules, BodiesFull}
use Rattle.program.specs.declared.Program.{Program}
use Rattle.reader_work.specs.Numbers.{refusal_number, with_arrays, SameCounts}

pub some_number : (o : Option TextRefusal) → is_some o ≡ true → eqb (refusal_number o) 0 ≡ false
some_number None e = absurd (false≢true e)
some_number (Some (Overlong s)) e = refl
some_number (Some (Malformed s)) e = refl
some_number (Some (TooManyAtoms s)) e = refl
some_number (Some (UnknownAtom s)) e = refl
some_number (Some (Unordered s)) e = refl
some_number (Some (TooManyRules s)) e = refl
some_number (Some (BodiesFull s)) e = refl

pub no_number : (o : Option TextRefusal) → is_some o ≡ false → eqb (refusal_number o) 0 ≡ true
no_number None e = refl
no_number (Some r) e = absurd (true≢false e)

pub either : {A : Type 0} (b : Bool) (x : A) → cond b x x ≡ x
either true x = refl
either false x = refl

-- a number kept at 1000 once it is that large
pub capped : (v : ℕ) → min v 1000 ≡ cond (ltb 1000 v) 1000 v
capped v = go (ltb 1000 v) refl
  where
    go : (e : Bool) → ltb 1000 v ≡ e → min v 1000 ≡ cond e 1000 v
    go true e = omega (arith, ltb-true 1000 v e)
    go false e = omega (arith, ltb-false 1000 v e)

pub counts_stay : (A B : Program) {C : Program} {heads starts bodies : List ℕ} → C ≡ with_arrays B heads starts bodies → SameCounts A B → SameCounts A C
counts_stay A B {C} {heads} {starts} {bodies} e k =
    subst (λ (X : Program). SameCounts A X) (sym e) (ap (λ (X : Program). with_arrays X heads starts bodies) k)
