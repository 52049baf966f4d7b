-- The two calls' answers and bytes for a program G, by the tests on j and on the room.
-- Assumes nothing.
use Prim.Native.Nat.{ℕ, ◌+◌, ◌-◌, ◌≤◌, ◌<◌}
use mathlib.Core.Path.{◌≡◌, ◌∙◌, ap}
use mathlib.Core.Bool.{Bool, cond}
use mathlib.Core.List.{List, ◌++◌}
use lib.Dec.{ltb}
use lib.ListN.{length, take, drop}
use borrow.Author.Tests.{lt-ltb, le-ltb}
use Rattle.encoding.specs.Code.{Code, clause_total_of}
use Rattle.lists.specs.Lists.{joined}
use Rattle.refusals.specs.declared.LineRefusal.TheVariants.{NoSuchClause, ShortBuffer}
use Rattle.clause_runs.specs.Lines.{code_lines, code_line, fitting, code_run}
use Rattle.call_lines_rows.specs.Lines.{answer_in, line_bytes_in, run_answer_in}
use Rattle.std.specs.Prelude.{Err, Ok}
use Rattle.call_lines_rows.specs.Verdicts.{RunVerdict, written_run}

-- three values, the first where j is above C, the second where the room is short
module _ {A : Type 0} (x y z : A) (G : Code) (j room : ℕ) where
  abbrev pub tested : A
  tested = cond (ltb (clause_total_of G) j) x (cond (ltb room (length (code_line G j))) y z)

  none : clause_total_of G < j → tested ≡ x
  none h = ap (λ (d : Bool). cond d x (cond (ltb room (length (code_line G j))) y z)) (lt-ltb (clause_total_of G) j h)

  within : j ≤ clause_total_of G → tested ≡ cond (ltb room (length (code_line G j))) y z
  within h = ap (λ (d : Bool). cond d x (cond (ltb room (length (code_line G j))) y z)) (le-ltb (clause_total_of G) j h)

  short : j ≤ clause_total_of G → room < length (code_line G j) → tested ≡ y
  short h f = within h ∙ ap (λ (d : Bool). cond d y z) (lt-ltb room (length (code_line G j)) f)

  fits : j ≤ clause_total_of G → length (code_line G j) ≤ room → tested ≡ z
  fits h f = within h ∙ ap (λ (d : Bool). cond d y z) (le-ltb room (length (code_line G j)) f)

module _ (G : Code) (j : ℕ) where
  abbrev need : ℕ
  need = length (code_line G j)

  module _ (room : ℕ) where
    pub answer_fits : j ≤ clause_total_of G → need ≤ room → answer_in G j room ≡ Ok need
    answer_fits = fits (Err (NoSuchClause (clause_total_of G))) (Err (ShortBuffer need)) (Ok need) G j room

    pub answer_none : clause_total_of G < j → answer_in G j room ≡ Err (NoSuchClause (clause_total_of G))
    answer_none = none (Err (NoSuchClause (clause_total_of G))) (Err (ShortBuffer need)) (Ok need) G j room

    pub answer_short : j ≤ clause_total_of G → room < need → answer_in G j room ≡ Err (ShortBuffer need)
    answer_short = short (Err (NoSuchClause (clause_total_of G))) (Err (ShortBuffer need)) (Ok need) G j room

    abbrev run : RunVerdict
    run = written_run (fitting room (drop j (code_lines G))) (length (joined (code_run G j room)))

    pub run_none : clause_total_of G < j → run_answer_in G j room ≡ Err (NoSuchClause (clause_total_of G))
    run_none = none (Err (NoSuchClause (clause_total_of G))) (Err (ShortBuffer need)) run G j room

    pub run_short : j ≤ clause_total_of G → room < need → run_answer_in G j room ≡ Err (ShortBuffer need)
    run_short = short (Err (NoSuchClause (clause_total_of G))) (Err (ShortBuffer need)) run G j room

    pub run_fits : j ≤ clause_total_of G → need ≤ room → run_answer_in G j room ≡ written_run (fitting room (drop j (code_lines G))) (length (joined (code_run G j room)))
    run_fits = fits (Err (NoSuchClause (clause_total_of G))) (Err (ShortBuffer need)) run G j room

  module _ (k : ℕ) (b : List ℕ) where
    abbrev put : List ℕ
    put = take k b ++ (code_line G j ++ drop (k + need) b)

    pub bytes_none : clause_total_of G < j → line_bytes_in G j k b ≡ b
    bytes_none = none b b put G j (length b - k)

    pub bytes_short : j ≤ clause_total_of G → length b - k < need → line_bytes_in G j k b ≡ b
    bytes_short = short b b put G j (length b - k)

    pub bytes_fits : j ≤ clause_total_of G → need ≤ length b - k → line_bytes_in G j k b ≡ take k b ++ (code_line G j ++ drop (k + need) b)
    bytes_fits = fits b b put G j (length b - k)
