-- Filling out computes document 01's examples: a table of calls on texts, with the answer and both buffers afterwards.
-- A set and a buffer afterwards are written in digits; the bytes lent are 9.
-- Assumes nothing.
use Prim.Native.Nat.{ℕ, ◌-◌}
use Prim.Native.String.{String}
use mathlib.Core.Path.{◌≡◌, refl}
use mathlib.Core.List.{List, [], ◌∷◌, map}
use lib.ListN.{replicate}
use Rattle.lists.specs.Ascii.{ascii}
use Rattle.reader_form.specs.Automaton.{form_at, digit_test, literal_of, leave_of, digit_of, item_of, act_at, form_step}
use Rattle.reader_work.specs.Work as Work
use Rattle.reader_work.specs.Fold.{ended, read_from}
use Rattle.reader.specs.Verdict.{refusal_of, refuse_of, finished, read_of}
use Rattle.program.specs.Arrays.{empty_program}
use Rattle.program.specs.Arrays.{decoded}
use Rattle.meaning.specs.Stage.{reduct, stage, level_in, differ}
use Rattle.encoding.specs.Width.{bits_for}
use Rattle.encoding.specs.Code.{inner, pair_list, reduct_of}
use Rattle.encoding.specs.Fill.{fill_with}
use Rattle.call_results.specs.Results.{true_count}
use Rattle.refusals.specs.Numbers.{fill_number, fill_spot}
use Rattle.call_fill_rows.specs.FillOut.{first_bad, founded_result, fill_of, fill_answer, fill_assignment, fill_levels}
use Rattle.call_fill_rows.specs.Verdict.{FillVerdict}
use Rattle.std.specs.Prelude.{Err, Ok}

-- true atoms and highest level; number and spot of a refusal
pub data Said : Type 0 where
  filled : (count highest : ℕ) → Said
  refused : (number spot : ℕ) → Said

abbrev pub said_of : FillVerdict → Said
said_of (Ok x) = Said.filled x.atoms x.highest
said_of (Err r) = Said.refused (fill_number r) (fill_spot r)

-- a call with the lengths of its buffers, and what it gives
pub record Case : Type 0 where
  pub text : String
  pub set : List ℕ
  pub variable_room : ℕ
  pub level_room : ℕ
  pub said : Said
  pub assignment : List ℕ
  pub levels : List ℕ

abbrev nines : ℕ → List ℕ
nines k = replicate k 9

abbrev digits : String → List ℕ
digits s = map (λ b. b - 48) (ascii s)

abbrev of : String → List ℕ → ℕ → ℕ → Said → List ℕ → List ℕ → Case
of t s a l x b m = record { text = t; set = s; variable_room = a; level_room = l; said = x; assignment = b; levels = m }

abbrev is : String → String → ℕ → ℕ → Said → String → String → Case
is t s a l x b m = of t (digits s) a l x (digits b) (digits m)

-- a refusal, by number and spot, writes nothing
abbrev stay : String → String → ℕ → ℕ → ℕ → ℕ → Case
stay t s a l number spot = of t (digits s) a l (Said.refused number spot) (nines a) (nines l)

unfoldable pub computed : Case → Case
computed c =
    let t = ascii c.text in
    let a = c.variable_room in
    let l = c.level_room in
    of c.text c.set a l
    (said_of (fill_answer t c.set a l))
    (fill_assignment t c.set (nines a) l)
    (fill_levels t c.set a (nines l))

abbrev fact_text : String
fact_text = "(atoms 1)\n(rule 1 () ())\n"

abbrev ring_text : String
ring_text = "(atoms 2)\n(rule 1 (2) ())\n(rule 2 (1) ())\n"

abbrev lecture_text : String
lecture_text = "(atoms 4)\n(rule 1 () ())\n(rule 1 (3) ())\n(rule 2 (1) ())\n(rule 3 (1 2) ())\n(rule 4 (3 4) ())\n"

abbrev self_text : String
self_text = "(atoms 1)\n(rule 1 () (1))\n"

abbrev choice_text : String
choice_text = "(atoms 2)\n(rule 1 () (2))\n(rule 2 () (1))\n"

unfoldable pub cases : List Case
cases =
    is "(atoms 0)\n" "" 0 0 (Said.filled 0 0) "" ""
    ∷ is "(atoms 0)\n" "" 2 1 (Said.filled 0 0) "99" "9"
    ∷ is fact_text "1" 7 1 (Said.filled 1 1) "1111001" "1"
    ∷ is fact_text "1" 9 2 (Said.filled 1 1) "111100199" "19"
    ∷ is ring_text "00" 22 2 (Said.filled 0 0) "0000000000101000000000" "00"
    ∷ stay ring_text "11" 22 2 18 1
    ∷ stay ring_text "01" 22 2 18 2
    ∷ is lecture_text "1110" 74 5 (Said.filled 3 3) "11101111010110100010110000010110001100000110011000011111111000000000000000" "12309"
    ∷ stay lecture_text "1111" 74 4 18 4
    ∷ stay self_text "0" 7 1 18 1
    ∷ stay self_text "1" 7 1 18 1
    ∷ is choice_text "10" 14 2 (Said.filled 1 1) "10101010000110" "10"
    ∷ is choice_text "01" 14 2 (Said.filled 1 1) "01010100101001" "01"
    ∷ is "(atoms 1)\n(rule 1 () ())\n(rule 1 (1) ())\n" "1" 13 1 (Said.filled 1 1) "1111010010010" "1"
    ∷ is "(atoms 2)\n(rule 2 () ())\n(rule 1 (2) (2))\n" "01" 18 2 (Said.filled 1 1) "011010001010010000" "01"
    ∷ stay "" "1" 7 1 2 0
    ∷ stay "(atoms 127)\n" "" 0 0 3 7
    ∷ stay fact_text "1" 6 1 8 7
    ∷ stay fact_text "1" 7 0 8 1
    ∷ stay fact_text "1" 6 0 8 7
    ∷ stay fact_text "2" 6 1 8 7
    ∷ stay fact_text "11" 6 1 8 7
    ∷ stay fact_text "" 7 0 8 1
    ∷ stay ring_text "112" 22 2 17 2
    ∷ stay ring_text "1" 22 2 17 2
    ∷ stay ring_text "12" 22 2 17 1
    ∷ stay ring_text "32" 22 2 17 0
    ∷ []

pub cases_hold : map computed cases ≡ cases
unfolding ascii form_at digit_test literal_of leave_of digit_of item_of act_at form_step Work.grown_of Work.value_after Work.begin_after Work.atoms_ended Work.head_ended Work.head_stored Work.body_ended Work.body_stored Work.opened_of Work.start_stored Work.rule_shut Work.ended_of Work.ended_heads Work.ended_bodies Work.bracket_of Work.bracket_starts Work.work_of Work.work_heads Work.work_starts Work.work_bodies ended read_from refusal_of refuse_of finished read_of empty_program decoded reduct stage level_in differ bits_for inner pair_list reduct_of fill_with true_count first_bad founded_result fill_of fill_answer fill_assignment fill_levels computed cases
cases_hold = refl
