-- The lines by the places of the clauses, from the tables.
--   lines_count     there are C + 1 lines
--   header_is       line 0
--   clause_is       line n, from the place of clause n
--   clause_told     and from its literals
--   line_short      no line passes 3,008 bytes
-- Assumes nothing.
use Prim.Native.Nat.{ℕ, zero, suc, pred, ◌≤◌, ◌<◌, ◌^◌}
use native.Mathlib.Nat.{not-suc-le-zero, le_trans, pos_of_ne-zero}
use native.Mathlib.Omega.{arith}
use mathlib.Core.Path.{◌≡◌, sym, ◌∙◌, ap, ap₂, subst}
use mathlib.Core.List.{List, []}
use lib.ListN.{length, get_or, length-map}
use lib.Dec.{leb}
use mathlib.Core.Bool.{true}
use borrow.Author.Tests.{le-leb}
use Rattle.lists.proofs.Tables.{get_d_map}
use Rattle.encoding.specs.Literal.{Clause}
use Rattle.encoding.specs.Code.{Code, clauses_of, clause_total_of}
use Rattle.digits.specs.Bytes.{line_text}
use Rattle.digits.proofs.Lengths.{line_length}
use Rattle.clause_walk.specs.Walk.{clause_at}
use Rattle.clause_tables.specs.declared.Totals.{Totals}
use Rattle.clause_tables.specs.Tables.{Tabled}
use Rattle.clause_table_laws.proofs.Elements.{vars_are, clauses_are}
use Rattle.clause_table_laws.proofs.Bounds.{lines_fit, vars_short, clauses_short}
use Rattle.fixed_lines.specs.Lines.{header_text}
use Rattle.fixed_lines.proofs.Parts.{header_small, header_length}
use Rattle.clause_places.specs.declared.Place.{Place}
use Rattle.clause_places.specs.Places.{place_at}
use Rattle.clause_places.proofs.Numbers.{placed_clause, clauses_many}
use Rattle.clause_runs.specs.Lines.{code_lines, code_line}

module _ {G : Code} {t : Totals} {hs ss bs ks xs ys : List ℕ} (T : Tabled G t hs ss bs ks xs ys) where
  pub total_is : t.clauses ≡ clause_total_of G
  total_is = clauses_are G t hs ss bs ks xs ys T

  pub header_asks : (t.vars < 2 ^ 32) × (t.clauses < 2 ^ 32)
  header_asks = (omega (arith, vars_short T), omega (arith, clauses_short T))

  pub lines_count : length (code_lines G) ≡ suc t.clauses
  unfolding code_lines
  lines_count = ap suc (length-map (clauses_of G) _ ∙ clauses_many T)

  pub header_is : header_text t.vars t.clauses ≡ code_line G 0
  unfolding code_lines
  header_is = ap₂ header_text (vars_are G t hs ss bs ks xs ys T) total_is

  pub line_of_clause : (n : ℕ) → 0 < n → n ≤ t.clauses → line_text (get_or (clauses_of G) (pred n) []) ≡ code_line G n
  unfolding code_lines
  line_of_clause zero p h = absurd (not-suc-le-zero p)
  line_of_clause (suc n) p h =
      sym (get_d_map line_text (clauses_of G) [] [] n (subst (λ (k : ℕ). n < k) (sym (clauses_many T)) h))

  -- ---- at the place of clause n

  pub clause_is : {c : Place} → c ≡ place_at G c.number → 0 < c.number → c.number ≤ t.clauses
      → line_text (clause_at G c.coordinates.group c.coordinates.item c.coordinates.block c.coordinates.clause) ≡ code_line G c.number
  clause_is {c} e p h = ap line_text (placed_clause T e p h) ∙ line_of_clause c.number p h

  pub clause_told : {ls : Clause} (n : ℕ) → ls ≡ get_or (clauses_of G) (pred n) [] → 0 < n → n ≤ t.clauses → line_text ls ≡ code_line G n
  clause_told n e p h = ap line_text e ∙ line_of_clause n p h

  -- ---- lengths

  pub line_short : (n : ℕ) → n ≤ t.clauses → length (code_line G n) ≤ 3008
  line_short zero h = subst (λ (l : List ℕ). length l ≤ 3008) header_is (le_trans (header_small t.vars t.clauses header_asks.0 header_asks.1) (omega arith))
  line_short (suc n) h =
      subst (λ (l : List ℕ). length l ≤ 3008) (line_of_clause (suc n) (omega arith) h) (lines_fit G T.limits n (subst (λ (k : ℕ). n < k) (sym (clauses_many T)) h))

  pub short_fits : (n : ℕ) {room : ℕ} → n ≤ t.clauses → 3008 ≤ room → true ≡ leb (length (code_line G n)) room
  short_fits n {room} h k = sym (le-leb (length (code_line G n)) room (le_trans (line_short n h) k))

  -- a line has bytes
  pub line_some : (n : ℕ) → n ≤ t.clauses → 0 < length (code_line G n)
  line_some zero h = subst (λ (l : List ℕ). 0 < length l) header_is (omega (arith, header_length t.vars t.clauses))
  line_some (suc n) h =
      subst (λ (l : List ℕ). 0 < length l) (line_of_clause (suc n) (omega arith) h) (omega (arith, line_length (get_or (clauses_of G) n [])))

-- ---- what code has in its hands

pub some_number : {n : ℕ} → (n ≡ 0 → ⊥) → 0 < n
some_number f = pos_of_ne-zero f

pub header_line : {G : Code} {t : Totals} {hs ss bs ks xs ys : List ℕ} → Tabled G t hs ss bs ks xs ys → {n : ℕ} → n ≡ 0 → header_text t.vars t.clauses ≡ code_line G n
header_line {G} T e = header_is T ∙ ap (code_line G) (sym e)
