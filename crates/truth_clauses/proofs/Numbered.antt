-- The clauses of an item by their numbers.
--   item_tested      an item is true exactly if each written clause of its numbers is
--   clause_in_item   each written clause is in an item
--   program_tested, program_in_item    the same of document 01's code of a program
-- Assumes nothing.
use Prim.Native.Nat.{ℕ, zero, suc, pred, ◌+◌, ◌≤◌, ◌<◌}
use native.Mathlib.Nat.{not-suc-le-zero, add-suc}
use native.Mathlib.Omega.{arith}
use mathlib.Core.Path.{◌≡◌, refl, sym, ◌∙◌, ap, ap₂, subst}
use mathlib.Core.Logic.{◌↔◌}
use mathlib.Core.Bool.{So}
use mathlib.Core.List.{List, [], ◌++◌, append_assoc}
use lib.ListN.{get_or, length-append}
use Rattle.lists.specs.Lists.{each}
use Rattle.lists.proofs.Tests.{all_at, all_in}
use Rattle.lists.proofs.Tables.{get_or_skip, get_or_here, sum_place}
use Rattle.meaning.specs.Program.{Program}
use Rattle.text.specs.Limits.{Limits}
use Rattle.encoding.specs.Code.{Code, code_of, clauses_of, clause_total_of}
use Rattle.encoding.specs.Literal.{Clause, clause_true}
use Rattle.clause_walk.specs.Walk.{group_count, item_count, group}
use Rattle.clause_tables.specs.declared.Totals.{Totals}
use Rattle.clause_tables.specs.Tables.{totals_of, Tabled}
use Rattle.clause_table_laws.proofs.Elements.{program_limited}
use Rattle.clause_table_laws.proofs.Cells.{own}
use Rattle.clause_counts.specs.Counts.{item_size, group_size}
use Rattle.clause_counts.proofs.Counted.{groups_all}
use Rattle.truth_literals.specs.Items.{item_true}
use Rattle.truth_clauses.specs.Truth.{value_in, item_before, InItem, code_true}
use Rattle.truth_clauses.proofs.Fronts.{item, item_length, items_length, groups_length, item_true_lem, front, walked_is}

module _ {G : Code} {t : Totals} {hs ss bs ks xs ys : List ℕ} (T : Tabled G t hs ss bs ks xs ys) where
  -- clause i, from 0, of the item after k groups and n items
  item_at : (k n i : ℕ) → k < group_count → n < item_count G (suc k) → i < item_size G (suc k) (suc n)
      → get_or (clauses_of G) (item_before G (suc k) (suc n) + i) [] ≡ get_or (item G (suc k) (suc n)) i []
  item_at k n i h l q =
      ap (λ (cs : List Clause). get_or cs (item_before G (suc k) (suc n) + i) []) (sym (walked_is T []) ∙ (front G k (suc n) h l).1 ∙ parts (each k (group G)) (each n (item G (suc k))) (item G (suc k) (suc n)) (front G k (suc n) h l).0)
      ∙ get_or_skip (each k (group G) ++ each n (item G (suc k))) (item G (suc k) (suc n) ++ (front G k (suc n) h l).0) [] (item_before G (suc k) (suc n)) i
      (length-append (each k (group G)) (each n (item G (suc k))) ∙ ap₂ ◌+◌ (groups_length G k) (items_length G (suc k) n))
      ∙ get_or_here (item G (suc k) (suc n)) (front G k (suc n) h l).0 [] (item_size G (suc k) (suc n)) i (item_length G (suc k) (suc n)) q
    where
      parts : (a b c d : List Clause) → (a ++ (b ++ c)) ++ d ≡ (a ++ b) ++ (c ++ d)
      parts a b c d = ap (λ (xs : List Clause). xs ++ d) (sym (append_assoc a b c)) ∙ append_assoc (a ++ b) c d

  module _ (vs : List ℕ) where
    number_true_lem : (k n i : ℕ) → k < group_count → n < item_count G (suc k) → i < item_size G (suc k) (suc n)
        → code_true G vs (item_before G (suc k) (suc n) + suc i) ≡ clause_true (value_in vs) (get_or (item G (suc k) (suc n)) i [])
    number_true_lem k n i h l q =
        ap (λ (j : ℕ). clause_true (value_in vs) (get_or (clauses_of G) j [])) (ap pred (add-suc (item_before G (suc k) (suc n)) i))
        ∙ ap (clause_true (value_in vs)) (item_at k n i h l q)

    pub item_tested : (g a : ℕ) → 0 < g → g ≤ group_count → 0 < a → a ≤ item_count G g
        → So (item_true G (value_in vs) g a) ↔ ((i j : ℕ) → InItem G g a i j → So (code_true G vs j))
    item_tested zero a p h q l = absurd (not-suc-le-zero p)
    item_tested (suc k) zero p h q l = absurd (not-suc-le-zero q)
    item_tested (suc k) (suc n) p h q l = (there, back)
      where
        in_order : So (item_true G (value_in vs) (suc k) (suc n)) → (i : ℕ) → 0 < i → i ≤ item_size G (suc k) (suc n)
            → So (code_true G vs (item_before G (suc k) (suc n) + i))
        in_order s zero z u = absurd (not-suc-le-zero z)
        in_order s (suc i) z u =
            number_true_lem k n i h l u
            ∙ all_at (clause_true (value_in vs)) (item G (suc k) (suc n)) [] (item_true_lem G (value_in vs) (suc k) (suc n) ∙ s) i
            (subst (λ (m : ℕ). i < m) (sym (item_length G (suc k) (suc n))) u)

        there : So (item_true G (value_in vs) (suc k) (suc n)) → (i j : ℕ) → InItem G (suc k) (suc n) i j → So (code_true G vs j)
        there s i j I = ap (code_true G vs) I.number_is ∙ in_order s i I.clause_some I.clause_in_lem

        back : ((i j : ℕ) → InItem G (suc k) (suc n) i j → So (code_true G vs j)) → So (item_true G (value_in vs) (suc k) (suc n))
        back f =
            sym (item_true_lem G (value_in vs) (suc k) (suc n))
            ∙ all_in (clause_true (value_in vs)) (item G (suc k) (suc n)) []
            (λ i u.
            let v = subst (λ (m : ℕ). i < m) (item_length G (suc k) (suc n)) u in
            sym (number_true_lem k n i h l v)
            ∙ f (suc i) (item_before G (suc k) (suc n) + suc i)
            (record { group_some = p; group_in = h; item_some = q; item_in = l; clause_some = omega arith; clause_in_lem = v; number_is = refl }))

  pub clause_in_item : (j : ℕ) → 0 < j → j ≤ t.clauses → (g : ℕ) × (a : ℕ) × (i : ℕ) × InItem G g a i j
  clause_in_item zero p h = absurd (not-suc-le-zero p)
  clause_in_item (suc x) p h =
      let u = sum_place group_count (group_size G) x (subst (λ (n : ℕ). x < n) (sym (groups_all T)) h) in
      let v = sum_place (item_count G (suc u.0)) (item_size G (suc u.0)) u.1 u.3 in (
        suc u.0,
        suc v.0,
        suc v.1,
        record {
          group_some = omega arith;
          group_in = u.2;
          item_some = omega arith;
          item_in = v.2;
          clause_some = omega arith;
          clause_in_lem = v.3;
          number_is = omega (arith, u.4, v.4);
        },
      )

-- ---- by document 01's code of a program

module _ (P : Program) (L : Limits P) where
  abbrev G : Code
  G = code_of P

  pub program_tested : (vs : List ℕ) (g a : ℕ) → 0 < g → g ≤ group_count → 0 < a → a ≤ item_count G g
      → So (item_true G (value_in vs) g a) ↔ ((i j : ℕ) → InItem G g a i j → So (code_true G vs j))
  program_tested vs = item_tested (own G (program_limited P L)) vs

  pub program_in_item : (j : ℕ) → 0 < j → j ≤ clause_total_of G → (g : ℕ) × (a : ℕ) × (i : ℕ) × InItem G g a i j
  unfolding totals_of
  program_in_item j = clause_in_item (own G (program_limited P L)) j
