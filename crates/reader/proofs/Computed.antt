-- The working definitions compute document 01's number and spot: a table of texts.
-- Assumes nothing.
use Prim.Native.Nat.{ℕ}
use Prim.Native.String.{String}
use mathlib.Core.Path.{◌≡◌, refl}
use mathlib.Core.List.{List, [], ◌∷◌, map}
use Rattle.lists.specs.Ascii.{ascii}
use Rattle.reader_form.specs.Automaton.{form_at, digit_test, literal_of, leave_of, digit_of, item_of, act_at, form_step}
use Rattle.std.specs.Prelude.{Ok, Err}
use Rattle.reader_work.specs.Work as Work
use Rattle.reader_work.specs.Fold.{ended, read_from}
use Rattle.refusals.specs.Numbers.{text_number, text_spot}
use Rattle.reader.specs.Verdict.{ReadVerdict, refusal_of, refuse_of, finished, read_of}

-- number and spot of a refusal
abbrev pub row_of : ReadVerdict → List ℕ
row_of (Ok u) = []
row_of (Err r) = text_number r ∷ text_spot r ∷ []

pub record Case : Type 0 where
  pub text : String
  pub row : List ℕ

abbrev is : String → List ℕ → Case
is text row = record { text = text; row = row }

unfoldable pub computed : Case → Case
computed c = is c.text (row_of (read_of (ascii c.text)).verdict)

unfoldable pub cases : List Case
cases =
    is "(atoms 0)\n" []
    ∷ is "(atoms 126)\n" []
    ∷ is "(atoms 1)\n(rule 1 () ())\n" []
    ∷ is "(atoms 2)\n(rule 1 (1 2) (2))\n" []
    ∷ is "" (2 ∷ 0 ∷ [])
    ∷ is "(atoms 1)" (2 ∷ 9 ∷ [])
    ∷ is "(atoms 01)\n" (2 ∷ 8 ∷ [])
    ∷ is "(atoms )\n" (2 ∷ 7 ∷ [])
    ∷ is "(atoms 1)\n(rule 1 ( ) ())\n" (2 ∷ 19 ∷ [])
    ∷ is "(atoms 127)\n(rule 0 () ())\n" (3 ∷ 7 ∷ [])
    ∷ is "(atoms 18446744073709551617)\n" (3 ∷ 7 ∷ [])
    ∷ is "(atoms 1)\n(rule 2 () ())\n" (4 ∷ 16 ∷ [])
    ∷ is "(atoms 1)\n(rule 1 (0) ())\n" (4 ∷ 19 ∷ [])
    ∷ is "(atoms 2)\n(rule 1 (2 2) ())\n" (5 ∷ 21 ∷ [])
    ∷ is "(atoms 2)\n(rule 1 (2 0) ())\n" (4 ∷ 21 ∷ [])
    ∷ is "(atoms 2)\n(rule 1 (2) (1 3))\n" (4 ∷ 25 ∷ [])
    ∷ []

pub cases_hold : map computed cases ≡ cases
unfolding ascii form_at digit_test literal_of leave_of digit_of item_of act_at form_step Work.grown_of Work.value_after Work.begin_after Work.atoms_ended Work.head_ended Work.head_stored Work.body_ended Work.body_stored Work.opened_of Work.start_stored Work.rule_shut Work.ended_of Work.ended_heads Work.ended_bodies Work.bracket_of Work.bracket_starts Work.work_of Work.work_heads Work.work_starts Work.work_bodies ended read_from refusal_of refuse_of finished read_of computed cases
cases_hold = refl
