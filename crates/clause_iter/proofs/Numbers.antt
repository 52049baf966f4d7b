-- The numbers of the literals of a clause, one after the other.
--   Turn             a number stands at a place of theirs
--   yields_numbers   an iterator over them gives their numbers
--   yields_next      after some numbers it gives the one that stands there
--   yields_end       and then nothing once all are given
--   literals_within  the literals of a clause are of variables from 1 to the last one
--   number_some, number_in, number_small   a number of a clause is not 0, and at most that of the last variable, and below 2 ^ 31
-- Assumes nothing.
use Prim.Native.Nat.{ℕ, zero, suc, ◌^◌, ◌≤◌, ◌<◌}
use native.Mathlib.Nat.{not-suc-le-zero, le_of_suc-le-suc}
use native.Mathlib.Omega.{arith}
use mathlib.Core.Path.{◌≡◌, sym, subst}
use mathlib.Core.Bool.{So}
use mathlib.Core.List.{List, [], ◌∷◌, map}
use lib.IntN.{ℤ, nat_abs}
use lib.ListN.{length, get_or}
use Rattle.std.specs.Prelude.{Option, None, Some}
use Rattle.std.specs.Iterator.{YieldsFirst, Yields}
use Rattle.std.proofs.lemmas.Iterator.{YieldsList}
use Rattle.std.proofs.lemmas.Iterator.Consumers.{YieldsList-from_first, YieldsList-turn, YieldsList-end}
use Rattle.lists.specs.Lists.{all}
use Rattle.lists.proofs.Bools.{and_left, and_right}
use Rattle.meaning.specs.Program.{is_atom}
use Rattle.theory.proofs.Atoms.{atom_le, atom_pos}
use Rattle.encoding.specs.Literal.{Literal, variable, literal_number}
use Rattle.encoding.proofs.Literals.{number_size}
use Rattle.clause_tables.specs.Tables.{totals_in}
use Rattle.clause_table_laws.proofs.Bounds.{clause_in_lem, vars_short}
use Rattle.clause_table_laws.proofs.Cells.{arrays}
use Rattle.clause_table_laws.proofs.Elements as elements
use Rattle.clause_cells.specs.Held.{table_code}
use Rattle.clause_layout.specs.declared.TableClause.{TableClause}
use Rattle.clause_layout.specs.Clauses.{literals_of}
use Rattle.clause_iter.specs.declared.Literals.{Literals}
use Rattle.clause_iter.specs.Left.{numbers_left}

-- the number z stands at place k
abbrev pub Turn : List Literal → ℕ → ℤ → Type 0
Turn ls k z = (k < length (map literal_number ls)) × (z ≡ get_or (map literal_number ls) k z)

-- an iterator over the literals of clause c gives their numbers
module _ (c : TableClause) (s : Literals) (e : numbers_left s ≡ map literal_number (literals_of c)) where
  pub yields_numbers : YieldsList (YieldsFirst numbers_left) (λ x. x) s (map literal_number (literals_of c))
  yields_numbers = YieldsList-from_first (λ x. x) numbers_left (map literal_number (literals_of c)) e

  module _ (zs : List ℤ) (t u : Literals) (y : Yields (YieldsFirst numbers_left) s zs t) where
    pub yields_next : (z : ℤ) {r : Option ℤ} → r ≡ Some z → YieldsFirst numbers_left t r u → Turn (literals_of c) (length zs) z
    yields_next z {r} p w = YieldsList-turn yields_numbers zs t y r u z p w

    pub yields_end : {r : Option ℤ} → r ≡ None → YieldsFirst numbers_left t r u → length zs ≡ length (map literal_number (literals_of c))
    yields_end {r} p w = (YieldsList-end yields_numbers zs t y r u p w).1

number_atom : (n : ℕ) (ls : List Literal) → So (all (λ l. is_atom n (variable l)) ls) → (k : ℕ) (z : ℤ) → Turn ls k z → So (is_atom n (nat_abs z))
number_atom n [] u k z h = absurd (not-suc-le-zero h.0)
number_atom n (l ∷ ls) u zero z h =
    subst (λ (z : ℤ). So (is_atom n (nat_abs z))) (sym h.1) (subst (λ (k : ℕ). So (is_atom n k)) (sym (number_size l)) (and_left (is_atom n (variable l)) (all (λ l. is_atom n (variable l)) ls) u))
number_atom n (l ∷ ls) u (suc k) z h = number_atom n ls (and_right (is_atom n (variable l)) (all (λ l. is_atom n (variable l)) ls) u) k z (le_of_suc-le-suc h.0, h.1)

module _ (c : TableClause) where
  abbrev vars : ℕ
  vars = (totals_in c.block.table.cells.now).vars

  pub literals_within : So (all (λ l. is_atom vars (variable l)) (literals_of c))
  literals_within =
      let T = arrays c.block.table.ready in
      subst (λ (n : ℕ). So (all (λ l. is_atom n (variable l)) (literals_of c))) (sym (elements.vars_are _ _ _ _ _ _ _ _ T))
      (clause_in_lem (table_code c.block.table) T.limits c.block.group c.block.item c.block.number c.number c.stands)

  module _ (k : ℕ) (z : ℤ) (h : Turn (literals_of c) k z) where
    atom : So (is_atom vars (nat_abs z))
    atom = number_atom vars (literals_of c) literals_within k z h

    pub number_some : 0 < nat_abs z
    number_some = atom_pos vars (nat_abs z) atom

    pub number_in : nat_abs z ≤ vars
    number_in = atom_le vars (nat_abs z) atom

    pub number_small : nat_abs z < 2 ^ 31
    number_small = omega (arith, number_in, vars_short (arrays c.block.table.ready))
