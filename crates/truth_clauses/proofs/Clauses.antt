-- Truth of a clause literal by literal, and the first false clause place by place, from the tables.
-- Assumes nothing.
use Prim.Native.Nat.{ℕ, zero, suc, pred, ◌+◌, ◌-◌, ◌≤◌, ◌<◌}
use native.Mathlib.Nat.{not-suc-le-zero}
use native.Mathlib.Numerals.{add-one}
use native.Mathlib.Omega.{arith}
use mathlib.Core.Path.{◌≡◌, refl, sym, ◌∙◌, ap, ap₂, subst}
use mathlib.Core.Bool.{Bool, true, false, not, ◌||◌, So}
use mathlib.Core.List.{List, [], ◌∷◌, map}
use lib.IntN.{ℤ}
use Rattle.std.specs.List.{list_any}
use lib.ListN.{length}
use Rattle.lists.specs.Lists.{all, sum}
use Rattle.lists.proofs.Bools.{and_left, and_right}
use Rattle.lists.proofs.Tests.{up_to_lem}
use Rattle.theory.proofs.Atoms.{atom_pos}
use Rattle.meaning.specs.Program.{is_atom}
use Rattle.encoding.specs.Code.{Code, clauses_of}
use Rattle.encoding.specs.Literal.{Literal, literal_number, clause_true, variable}
use Rattle.clause_tables.specs.declared.Totals.{Totals}
use Rattle.clause_tables.specs.Tables.{Tabled, totals_in}
use Rattle.clause_layout.specs.declared.TableClause.{TableClause}
use Rattle.clause_layout.specs.Clauses.{literals_of}
use Rattle.clause_iter.proofs.Numbers.{Turn, literals_within, number_some, number_in, number_small}
use Rattle.clause_places.specs.declared.Place.{Place}
use Rattle.clause_places.specs.Places.{place_at}
use Rattle.clause_places.proofs.Numbers.{number_is, own_number, clauses_many}
use Rattle.truth_literals.specs.Clauses.{LiteralIn}
use Rattle.truth_literals.proofs.Values.{literal_true_lem}
use Rattle.truth_clauses.specs.Truth.{value_in, number_true, code_true, code_false, code_first_false}
use Rattle.truth_clauses.specs.Standing.{TrueTo, Standing, FalseItem}
use Rattle.clause_counts.specs.Counts.{item_size, group_size}
use Rattle.truth_clauses.proofs.Fronts.{first_here, first_nowhere, front_true, item_listed}

-- ---- literal by literal

any_true : (bs : List ℕ) (n : ℕ) (ls : List Literal) → So (all (λ l. is_atom n (variable l)) ls) → list_any (number_true bs) (map literal_number ls) ≡ clause_true (value_in bs) ls
any_true bs n [] u = refl
any_true bs n (l ∷ ls) u =
    ap₂ ◌||◌ (literal_true_lem bs l refl (atom_pos n (variable l) (and_left (is_atom n (variable l)) (all (λ l. is_atom n (variable l)) ls) u)) refl)
    (any_true bs n ls (and_right (is_atom n (variable l)) (all (λ l. is_atom n (variable l)) ls) u))

-- a clause is true if one of its numbers is
pub numbers_true : (c : TableClause) (bs : List ℕ) → list_any (number_true bs) (map literal_number (literals_of c)) ≡ clause_true (value_in bs) (literals_of c)
numbers_true c bs = any_true bs (totals_in c.block.table.cells.now).vars (literals_of c) (literals_within c)

-- its numbers are of variables that have bytes
pub number_asks : (c : TableClause) (bs : List ℕ) → (totals_in c.block.table.cells.now).vars ≤ length bs → (k : ℕ) (z : ℤ) → Turn (literals_of c) k z → LiteralIn bs z
number_asks c bs v k z h = (number_small c k z h, number_some c k z h, omega (arith, number_in c k z h, v))

module _ {G : Code} {t : Totals} {hs ss bs ks xs ys : List ℕ} (T : Tabled G t hs ss bs ks xs ys) where
  -- ---- place by place

  -- a place that was found by its number
  pub found_asks : {c : Place} {j : ℕ} → c ≡ place_at G j → 0 < j → j ≤ t.clauses → (c ≡ place_at G c.number) × (0 < c.number) × (c.number ≤ t.clauses)
  found_asks e p h = (own_number T e, omega (arith, number_is T e, p), omega (arith, number_is T e, h))

  pub found_true : (vs : List ℕ) {c : Place} {j : ℕ} → c ≡ place_at G j → {r : Bool} → r ≡ code_true G vs c.number → r ≡ code_true G vs j
  found_true vs e u = u ∙ ap (code_true G vs) (number_is T e)

  module _ (vs : List ℕ) where
    stands_by : {c : Place} {n : ℕ} → c ≡ place_at G (suc n) → n ≤ t.clauses → TrueTo G vs n → Standing G t vs c
    stands_by {c} {n} e h F =
        record {
          own = own_number T e;
          some = omega (arith, number_is T e);
          within = omega (arith, number_is T e, h);
          true_before = subst (λ (k : ℕ). TrueTo G vs (pred k)) (sym (number_is T e)) F;
        }

    module _ {c : Place} (S : Standing G t vs c) (h : c.number ≤ t.clauses) {r : Bool} (u : r ≡ code_true G vs c.number) where
      one_before : c.number ≡ suc (pred c.number)
      one_before = go c.number S.some
        where
          go : (n : ℕ) → 0 < n → n ≡ suc (pred n)
          go zero p = absurd (not-suc-le-zero p)
          go (suc n) p = refl

      false_is : code_false G vs (suc (pred c.number)) ≡ not r
      false_is = ap (code_false G vs) (sym one_before) ∙ ap not (sym u)

      pub clause_passed : r ≡ true → {d : Place} → d ≡ place_at G (suc c.number) → Standing G t vs d
      clause_passed z e =
          stands_by e h
          (record {
            each_true_lem = λ j l. up_to_lem (λ j. code_false G vs (suc j) ≡ false) (pred c.number) S.true_before.each_true_lem (false_is ∙ ap not z) j (subst (λ (k : ℕ). j < k) one_before l);
          })

      pub clause_false : r ≡ false → c.number ≡ code_first_false G vs
      unfolding code_first_false
      clause_false z =
          one_before
          ∙ first_here (length (clauses_of G)) (code_false G vs) (pred c.number) (subst (λ (n : ℕ). pred c.number < n) (sym (clauses_many T)) (omega (arith, one_before, h)))
          S.true_before.each_true_lem (false_is ∙ ap not z)

    pub ended : {c : Place} → Standing G t vs c → t.clauses < c.number → 0 ≡ code_first_false G vs
    unfolding code_first_false
    ended {c} S h =
        first_nowhere (length (clauses_of G)) (code_false G vs) (pred c.number) (subst (λ (n : ℕ). n ≤ pred c.number) (sym (clauses_many T)) (below c.number h))
        S.true_before.each_true_lem
      where
        below : (n : ℕ) {k : ℕ} → k < n → k ≤ pred n
        below zero q = absurd (not-suc-le-zero q)
        below (suc n) q = omega (arith, q)

    -- the first clause of an item with a false clause, before which all are true; x stand before it
    module _ {g a x : ℕ} (F : FalseItem G (value_in vs) g a) (e : x ≡ sum (pred g) (group_size G) + sum (a - 1) (item_size G g)) where
      before_item : (g a : ℕ) → FalseItem G (value_in vs) g a
          → (sum (pred g) (group_size G) + sum (a - 1) (item_size G g) < t.clauses) × (TrueTo G vs (sum (pred g) (group_size G) + sum (a - 1) (item_size G g)))
      before_item zero a F = absurd (not-suc-le-zero F.group_some)
      before_item (suc k) zero F = absurd (not-suc-le-zero F.item_some)
      before_item (suc k) (suc n) F =
          subst (λ (i : ℕ). (sum k (group_size G) + sum i (item_size G (suc k)) < t.clauses) × (TrueTo G vs (sum k (group_size G) + sum i (item_size G (suc k))))) (less n)
          (item_listed T vs k n F.group_in F.item_in F.item_false, front_true T vs k n F.group_in (omega (arith, F.item_in)) F.groups_before F.items_before)
        where
          less : (n : ℕ) → n ≡ suc n - 1
          less n = omega arith

      pub item_begins : x + 1 ≤ t.clauses
      item_begins = omega (arith, e, (before_item g a F).0)

      pub item_stands : {j : ℕ} → j ≡ x + 1 → {c : Place} → c ≡ place_at G j → Standing G t vs c
      item_stands q p =
          stands_by (p ∙ ap (place_at G) (q ∙ add-one x)) (omega (arith, item_begins)) (subst (TrueTo G vs) (sym e) (before_item g a F).1)
