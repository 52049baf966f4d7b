-- Modes and actions by their numbers: two of them are one where their numbers are.
--   other_mode, same_mode   a test of two modes' numbers, from the modes and back
--   other_action            the same of two actions
--   at_place, at_space, in_zero, in_number  the derived equality with a mode is the test of its number
--   begins, grows           and with an action
-- Assumes nothing.
use Prim.Native.Nat.{ℕ}
use mathlib.Core.Path.{◌≡◌, refl, sym, ◌∙◌, ap}
use mathlib.Core.Bool.{true, false, cond}
use lib.Dec.{eqb}
use borrow.Author.Tests.{ne_eqb, eqb-true}
use denote.Enum.Bare.{sameb}
use Rattle.reader_form.specs.contracts.Mode.{the_type}
use Rattle.reader_form.specs.contracts.Action.{the_type as action_type}
use Rattle.reader_form.specs.declared.Mode.{Mode}
use Rattle.reader_form.specs.declared.Mode.TheVariants.{AtPlace, InZero, InNumber, AtSpace, Dead}
use Rattle.reader_form.specs.declared.Action.{Action}
use Rattle.reader_form.specs.declared.Action.TheVariants.{Nothing, BeginNumber, GrowNumber, EndNumber, BeginRule, EndList, EndRule}
use Rattle.reader_form.specs.Numbers.{mode_number, act_number}

mode_of : ℕ → Mode
mode_of n = cond (eqb n 0) AtPlace (cond (eqb n 1) InZero (cond (eqb n 2) InNumber (cond (eqb n 3) AtSpace Dead)))

back : (m : Mode) → mode_of (mode_number m) ≡ m
unfolding mode_of
back AtPlace = refl
back InZero = refl
back InNumber = refl
back AtSpace = refl
back Dead = refl

numbers_same : (m n : Mode) → mode_number m ≡ mode_number n → m ≡ n
numbers_same m n e = sym (back m) ∙ ap mode_of e ∙ back n

pub other_mode : (m n : Mode) → (m ≡ n → ⊥) → eqb (mode_number m) (mode_number n) ≡ false
other_mode m n h = ne_eqb (mode_number m) (mode_number n) (λ e. h (numbers_same m n e))

pub same_mode : (m n : Mode) → eqb (mode_number m) (mode_number n) ≡ true → m ≡ n
same_mode m n e = numbers_same m n (eqb-true (mode_number m) (mode_number n) e)

action_of : ℕ → Action
action_of n =
    cond (eqb n 0) Nothing
    (cond (eqb n 1) BeginNumber (cond (eqb n 2) GrowNumber (cond (eqb n 3) EndNumber (cond (eqb n 4) BeginRule (cond (eqb n 5) EndList EndRule)))))

action_back : (a : Action) → action_of (act_number a) ≡ a
unfolding action_of
action_back Nothing = refl
action_back BeginNumber = refl
action_back GrowNumber = refl
action_back EndNumber = refl
action_back BeginRule = refl
action_back EndList = refl
action_back EndRule = refl

pub other_action : (a b : Action) → (a ≡ b → ⊥) → eqb (act_number a) (act_number b) ≡ false
other_action a b h = ne_eqb (act_number a) (act_number b) (λ e. h (sym (action_back a) ∙ ap action_of e ∙ action_back b))

pub at_place : (m : Mode) → sameb the_type m AtPlace ≡ eqb (mode_number m) 0
at_place AtPlace = refl
at_place InZero = refl
at_place InNumber = refl
at_place AtSpace = refl
at_place Dead = refl

pub at_space : (m : Mode) → sameb the_type m AtSpace ≡ eqb (mode_number m) 3
at_space AtPlace = refl
at_space InZero = refl
at_space InNumber = refl
at_space AtSpace = refl
at_space Dead = refl

pub in_zero : (m : Mode) → sameb the_type m InZero ≡ eqb (mode_number m) 1
in_zero AtPlace = refl
in_zero InZero = refl
in_zero InNumber = refl
in_zero AtSpace = refl
in_zero Dead = refl

pub in_number : (m : Mode) → sameb the_type m InNumber ≡ eqb (mode_number m) 2
in_number AtPlace = refl
in_number InZero = refl
in_number InNumber = refl
in_number AtSpace = refl
in_number Dead = refl

pub begins : (a : Action) → sameb action_type a BeginNumber ≡ eqb (act_number a) 1
begins Nothing = refl
begins BeginNumber = refl
begins GrowNumber = refl
begins EndNumber = refl
begins BeginRule = refl
begins EndList = refl
begins EndRule = refl

pub grows : (a : Action) → sameb action_type a GrowNumber ≡ eqb (act_number a) 2
grows Nothing = refl
grows BeginNumber = refl
grows GrowNumber = refl
grows EndNumber = refl
grows BeginRule = refl
grows EndList = refl
grows EndRule = refl
