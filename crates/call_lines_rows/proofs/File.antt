-- The clause file of a program within the limits.
--   header_line, clause_line    line 0, and line j from 1 to C
--   clause_total_lem            C is the number of clauses
--   placed                      clause j stands at place j of the walk
--   short_lines                 no line passes 3,008 bytes
-- Assumes nothing.
use Prim.Native.Nat.{ℕ, zero, suc, pred, ◌≤◌, ◌<◌}
use native.Mathlib.Nat.{not-suc-le-zero}
use mathlib.Core.Path.{◌≡◌, sym, ◌∙◌, ap, subst}
use mathlib.Core.List.{List, []}
use lib.ListN.{length, get_or}
use Rattle.lists.proofs.Tables.{get_d_map}
use Rattle.meaning.specs.Program.{Program}
use Rattle.encoding.specs.Width.{width}
use Rattle.encoding.specs.Literal.{Clause}
use Rattle.encoding.specs.Clauses.{clauses, variables}
use Rattle.encoding.specs.Code.{code_of, clauses_of}
use Rattle.theory.proofs.Whole.{variables_whole, clauses_whole}
use Rattle.digits.specs.Bytes.{line_text}
use Rattle.text.specs.Limits.{Limits}
use Rattle.clause_tables.specs.Tables.{Limited}
use Rattle.clause_table_laws.proofs.Cells.{Own, own}
use Rattle.clause_table_laws.proofs.Elements.{program_limited}
use Rattle.fixed_lines.specs.Lines.{header_text}
use Rattle.clause_places.specs.Places.{place_at, clause_in}
use Rattle.clause_places.proofs.Numbers.{clause_at_lem, coordinates_count}
use Rattle.clause_runs.specs.Lines.{code_lines, clause_total, line_of}
use Rattle.clause_runs.proofs.Placed.{total_is, line_short}

module _ (P : Program) where
  abbrev w : ℕ
  w = width P.atoms

  pub header_line : line_of P 0 ≡ header_text (variables P w) (clause_total P)
  unfolding code_lines
  header_line = ap (λ (v : ℕ). header_text v (clause_total P)) (variables_whole P w)

  module _ (L : Limits P) where
    G : Limited (code_of P)
    G = program_limited P L

    T : Own (code_of P)
    T = own (code_of P) G

    pub clause_total_lem : clause_total P ≡ length (clauses P w)
    clause_total_lem = ap length (clauses_whole P w)

    pub clause_line : (j : ℕ) → zero < j → j ≤ clause_total P → line_of P j ≡ line_text (get_or (clauses P w) (pred j) [])
    unfolding code_lines
    clause_line zero p h = absurd (not-suc-le-zero p)
    clause_line (suc j) p h =
        get_d_map line_text (clauses_of (code_of P)) [] [] j h ∙ ap (λ (cs : List Clause). line_text (get_or cs j [])) (clauses_whole P w)

    pub placed : (j : ℕ) → zero < j → j ≤ clause_total P → clause_in (code_of P) (place_at (code_of P) j).coordinates ≡ get_or (clauses P w) (pred j) []
    placed j p h =
        clause_at_lem (code_of P) G j p (subst (λ (k : ℕ). j ≤ k) (sym (coordinates_count (code_of P) G)) h)
        ∙ ap (λ (cs : List Clause). get_or cs (pred j) []) (clauses_whole P w)

    pub short_lines : (j : ℕ) → j ≤ clause_total P → length (line_of P j) ≤ 3008
    short_lines j h = line_short T j (subst (λ (k : ℕ). j ≤ k) (sym (total_is T)) h)
