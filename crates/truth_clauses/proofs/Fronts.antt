-- The clauses of the walk, item by item and group by group, and what is known of those before an item.
--   first_here, first_nowhere     a search from 1 on: the first number that passes, and none
--   items_true, groups_true       tests of items and groups are tests of their clauses
--   front_true                    groups and items that are true make the clauses true that stand before the next item
--   item-after, item_listed       an item with a false clause stands among the clauses
--   items_more, item_here, item_nowhere   the search in a group, one item after the other
--   item_found, groups_more               the search in the groups, one after the other
--   all_groups                    where each group is true, no clause is false
-- Assumes nothing.
use Prim.Native.Nat.{ℕ, zero, suc, ◌+◌, ◌≤◌, ◌<◌}
use native.Mathlib.Nat.{le_antisymm}
use native.Mathlib.Numerals.{add-one}
use native.Mathlib.Omega.{arith}
use mathlib.Core.Path.{◌≡◌, refl, sym, ◌∙◌, ap, ap₂, subst}
use mathlib.Core.Logic.{◌⊎◌, inl, inr, ⊎_elim}
use mathlib.Core.Bool.{Bool, true, false, not, ◌&&◌, So, false≢true, true≢false}
use mathlib.Core.List.{List, [], ◌∷◌, ◌++◌, append-nil, append_assoc}
use lib.ListN.{length, get_or, length-append}
use Rattle.lists.specs.Lists.{all, all_to, each, sum, first}
use Rattle.lists.proofs.Bools.{not_So}
use Rattle.lists.proofs.Tests.{le_or_lt, all_append, all_each, all_tab, all_to_ext, all_to_at, all_to_in, all_at}
use Rattle.lists.proofs.Tables.{length_each, length_tab, sum_ext, get_or_here}
use Rattle.lists.proofs.First.{IsFirst, first_is, first_le, first_none}
use Rattle.encoding.specs.Code.{Code, clauses_of}
use Rattle.encoding.specs.Literal.{Assignment, Clause, clause_true}
use Rattle.clause_walk.specs.Walk.{group_count, item_count, block_count, size, clause_at, block, group, walked}
use Rattle.clause_walk.proofs.Walked.{walked_clauses}
use Rattle.clause_tables.specs.declared.Totals.{Totals}
use Rattle.clause_tables.specs.Tables.{Tabled}
use Rattle.clause_counts.specs.Counts.{item_size, group_size}
use Rattle.clause_counts.proofs.Counted.{groups_all}
use Rattle.clause_counts.proofs.Before.{sum_up}
use Rattle.truth_literals.specs.Items.{block_true, item_true}
use Rattle.truth_clauses.specs.Truth.{value_in, group_true, code_false, code_first_false, first_false_item}
use Rattle.truth_clauses.specs.Standing.{TrueTo, FalseItem}

-- ---- the first number that passes

module _ (n : ℕ) (p : ℕ → Bool) (i : ℕ) where
  pub first_here : i < n → ((j : ℕ) → j < i → p (suc j) ≡ false) → So (p (suc i)) → suc i ≡ first n p
  first_here h f t = le_antisymm (not_before (first n p) (first_is n p)) (first_le n p i h t)
    where
      low : (k : ℕ) → IsFirst n p k → k < suc i → ⊥
      low zero F l = not_So (p (suc i)) (F.none_at_all refl i h) t
      low (suc k) F l = not_So (p (suc k)) (f k (omega (arith, l))) (F.passes (omega arith))

      not_before : (k : ℕ) → IsFirst n p k → suc i ≤ k
      not_before k F = ⊎_elim (λ (l : suc i ≤ k). l) (λ (l : k < suc i). absurd (low k F l)) (le_or_lt (suc i) k)

  pub first_nowhere : n ≤ i → ((j : ℕ) → j < i → p (suc j) ≡ false) → 0 ≡ first n p
  first_nowhere h f = sym (first_none n p (λ j l. f j (omega (arith, l, h))))

-- ---- rows of a list

module _ {A : Type 0} where
  -- the first k rows, and the others
  each_part : (n k : ℕ) (f : ℕ → List A) → k ≤ n → (r : List A) × (each n f ≡ each k f ++ r)
  each_part zero k f h = ([], ap (λ (j : ℕ). each j f) (none k h) ∙ sym (append-nil (each k f)))
    where
      none : (k : ℕ) → k ≤ 0 → 0 ≡ k
      none k h = omega (arith, h)
  each_part (suc n) k f h = go (each_part n k f) (le_or_lt k n)
    where
      last : (k : ℕ) → k ≤ suc n → n < k → suc n ≡ k
      last k h l = omega (arith, h, l)

      go : (k ≤ n → (r : List A) × (each n f ≡ each k f ++ r)) → (k ≤ n) ⊎ (n < k) → (r : List A) × (each (suc n) f ≡ each k f ++ r)
      go ih (inl l) =
          let q = ih l in
          (q.0 ++ f (suc n), ap (λ (xs : List A). xs ++ f (suc n)) q.1 ∙ append_assoc (each k f) q.0 (f (suc n)))
      go ih (inr l) = ([], ap (λ (j : ℕ). each j f) (last k h l) ∙ sym (append-nil (each k f)))

  -- a list with an element that fails has an element
  some_of : (p : A → Bool) (xs : List A) → all p xs ≡ false → 0 < length xs
  some_of p [] e = absurd (true≢false e)
  some_of p (x ∷ xs) e = omega arith

-- ---- items and groups

module _ (G : Code) where
  abbrev pub item : ℕ → ℕ → List Clause
  item g a = each (block_count G g) (block G g a)

  pub item_length : (g a : ℕ) → length (item g a) ≡ item_size G g a
  item_length g a =
      length_each (block_count G g) (block G g a)
      ∙ sum_ext (block_count G g) _ (size G g a) (λ i h. length_tab (size G g a (suc i)) (clause_at G g a (suc i)))

  pub items_length : (g n : ℕ) → length (each n (item g)) ≡ sum n (item_size G g)
  items_length g n = length_each n (item g) ∙ sum_ext n _ (item_size G g) (λ a h. item_length g (suc a))

  pub groups_length : (k : ℕ) → length (each k (group G)) ≡ sum k (group_size G)
  groups_length k = length_each k (group G) ∙ sum_ext k _ (group_size G) (λ g h. items_length (suc g) (item_count G (suc g)))

  module _ (A : Assignment) where
    pub item_true_lem : (g a : ℕ) → all (clause_true A) (item g a) ≡ item_true G A g a
    unfolding item_true block_true
    item_true_lem g a =
        all_each (clause_true A) (block_count G g) (block G g a)
        ∙ all_to_ext (block_count G g) _ _ (λ i h. all_tab (clause_true A) (size G g a (suc i)) (clause_at G g a (suc i)))

    pub items_true : (g n : ℕ) → all (clause_true A) (each n (item g)) ≡ all_to n (item_true G A g)
    items_true g n = all_each (clause_true A) n (item g) ∙ all_to_ext n _ _ (λ a h. item_true_lem g (suc a))

    pub groups_true : (k : ℕ) → all (clause_true A) (each k (group G)) ≡ all_to k (group_true G A)
    groups_true k = all_each (clause_true A) k (group G) ∙ all_to_ext k _ _ (λ g h. items_true (suc g) (item_count G (suc g)))

    item_some : (g a : ℕ) → item_true G A g a ≡ false → 0 < item_size G g a
    item_some g a e = subst (λ (n : ℕ). 0 < n) (item_length g a) (some_of (clause_true A) (item g a) (item_true_lem g a ∙ e))

  -- the first k groups and the first n items of the next one stand in front
  pub front : (k n : ℕ) → k < group_count → n ≤ item_count G (suc k) → (r : List Clause) × (walked G ≡ (each k (group G) ++ each n (item (suc k))) ++ r)
  unfolding walked
  front k n h l =
      let p = each_part group_count (suc k) (group G) h in
      let q = each_part (item_count G (suc k)) n (item (suc k)) l in
      (q.0 ++ p.0, p.1 ∙ ap (λ (xs : List Clause). (each k (group G) ++ xs) ++ p.0) q.1 ∙ joined (each k (group G)) (each n (item (suc k))) q.0 p.0)
    where
      joined : (a b c d : List Clause) → (a ++ (b ++ c)) ++ d ≡ (a ++ b) ++ (c ++ d)
      joined a b c d = ap (λ (xs : List Clause). xs ++ d) (sym (append_assoc a b c)) ∙ append_assoc (a ++ b) c d

module _ {G : Code} {t : Totals} {hs ss bs ks xs ys : List ℕ} (T : Tabled G t hs ss bs ks xs ys) (vs : List ℕ) where
  abbrev before : ℕ → ℕ → ℕ
  before k n = sum k (group_size G) + sum n (item_size G (suc k))

  pub walked_is : walked G ≡ clauses_of G
  walked_is = walked_clauses G T.limits.some_bit T.limits.none_open

  -- the clauses of a list that the clause list begins with
  true_front : (cs r : List Clause) → walked G ≡ cs ++ r → all (clause_true (value_in vs)) cs ≡ true → TrueTo G vs (length cs)
  true_front cs r e t =
      record {
        each_true_lem =
            λ j h.
            ap not
            (ap (λ (ds : List Clause). clause_true (value_in vs) (get_or ds j [])) (sym walked_is ∙ e)
            ∙ ap (clause_true (value_in vs)) (get_or_here cs r [] (length cs) j refl h) ∙ all_at (clause_true (value_in vs)) cs [] t j h);
      }

  module _ (k n : ℕ) (h : k < group_count) (l : n ≤ item_count G (suc k)) where
    pub front_true : all_to k (group_true G (value_in vs)) ≡ true → all_to n (item_true G (value_in vs) (suc k)) ≡ true → TrueTo G vs (before k n)
    front_true p q =
        subst (TrueTo G vs) (length-append (each k (group G)) (each n (item G (suc k))) ∙ ap₂ ◌+◌ (groups_length G k) (items_length G (suc k) n))
        (true_front (each k (group G) ++ each n (item G (suc k))) (front G k n h l).0 (front G k n h l).1
        (all_append (clause_true (value_in vs)) (each k (group G)) (each n (item G (suc k)))
        ∙ ap₂ ◌&&◌ (groups_true G (value_in vs) k ∙ p) (items_true G (value_in vs) (suc k) n ∙ q)))

  -- an item with a false clause, after k groups and n items
  pub item_listed : (k n : ℕ) → k < group_count → n < item_count G (suc k) → item_true G (value_in vs) (suc k) (suc n) ≡ false → before k n < t.clauses
  item_listed k n h l e =
      omega (
        arith,
        item_some G (value_in vs) (suc k) (suc n) e,
        sum_up (suc n) (item_count G (suc k)) (item_size G (suc k)) l,
        sum_up (suc k) group_count (group_size G) h,
        groups_all T,
      )

  pub all_groups : {k : ℕ} → group_count ≤ k → k ≤ group_count → all_to k (group_true G (value_in vs)) ≡ true → 0 ≡ code_first_false G vs
  unfolding walked code_first_false
  all_groups {k} h l e =
      sym (first_none (length (clauses_of G)) (code_false G vs) (λ j h. F.each_true_lem j (subst (λ (n : ℕ). j < n) (sym (ap length walked_is)) h)))
    where
      F : TrueTo G vs (length (walked G))
      F = true_front (walked G) [] (sym (append-nil (walked G))) (groups_true G (value_in vs) group_count ∙ ap (λ (n : ℕ). all_to n (group_true G (value_in vs))) (le_antisymm h l) ∙ e)

-- ---- the search, item by item and group by group

not_twice : (b : Bool) → not b ≡ false → b ≡ true
not_twice true e = refl
not_twice false e = absurd (true≢false e)

not_true : (b : Bool) → not b ≡ true → b ≡ false
not_true true e = absurd (false≢true e)
not_true false e = refl

more : (f : ℕ → Bool) (k : ℕ) → all_to k f ≡ true → {r : Bool} → r ≡ f (k + 1) → r ≡ true → all_to (k + 1) f ≡ true
more f k t e z = ap (λ (n : ℕ). all_to n f) (add-one k) ∙ ap₂ ◌&&◌ t (sym (e ∙ ap f (add-one k)) ∙ z)

module _ (G : Code) (A : Assignment) (g : ℕ) where
  abbrev fails : ℕ → Bool
  fails a = not (item_true G A g a)

  module _ (a : ℕ) (t : all_to a (item_true G A g) ≡ true) where
    none_to : (j : ℕ) → j < a → fails (suc j) ≡ false
    none_to j h = ap not (all_to_at a (item_true G A g) t j h)

    module _ {r : Bool} (e : r ≡ item_true G A g (a + 1)) where
      pub items_more : r ≡ true → all_to (a + 1) (item_true G A g) ≡ true
      items_more z = more (item_true G A g) a t e z

      pub item_here : a < item_count G g → r ≡ false → a + 1 ≡ first_false_item G A g
      item_here h z = add-one a ∙ first_here (item_count G g) fails a h none_to (ap not (sym (e ∙ ap (item_true G A g) (add-one a)) ∙ z))

    pub item_nowhere : item_count G g ≤ a → 0 ≡ first_false_item G A g
    item_nowhere h = first_nowhere (item_count G g) fails a h none_to

module _ (G : Code) (A : Assignment) where
  -- item n of the group after k others is the first with a false clause
  found : (k n : ℕ) → k < group_count → all_to k (group_true G A) ≡ true → IsFirst (item_count G (suc k)) (fails G A (suc k)) n → 0 < n → FalseItem G A (suc k) n
  found k zero h t F p = absurd (omega (arith, p))
  found k (suc n) h t F p =
      record {
        group_some = omega arith;
        group_in = h;
        item_some = p;
        item_in = F.within;
        groups_before = t;
        items_before = all_to_in n (item_true G A (suc k)) (λ i l. not_twice (item_true G A (suc k) (suc i)) (F.none_before i (omega (arith, l))));
        item_false = not_true (item_true G A (suc k) (suc n)) (F.passes p);
      }

  module _ (k : ℕ) (t : all_to k (group_true G A) ≡ true) {a : ℕ} (e : a ≡ first_false_item G A (k + 1)) where
    is_first_lem : IsFirst (item_count G (suc k)) (fails G A (suc k)) a
    is_first_lem =
        subst (IsFirst (item_count G (suc k)) (fails G A (suc k))) (sym (e ∙ ap (first_false_item G A) (add-one k))) (first_is (item_count G (suc k)) (fails G A (suc k)))

    pub item_found : k < group_count → 0 < a → FalseItem G A (k + 1) a
    item_found h p = subst (λ (g : ℕ). FalseItem G A g a) (sym (add-one k)) (found k a h t is_first_lem p)

    pub groups_more : a ≤ 0 → all_to (k + 1) (group_true G A) ≡ true
    groups_more h =
        ap (λ (n : ℕ). all_to n (group_true G A)) (add-one k)
        ∙ ap₂ ◌&&◌ t
        (all_to_in (item_count G (suc k)) (item_true G A (suc k))
        (λ i l. not_twice (item_true G A (suc k) (suc i)) (is_first_lem.none_at_all (omega (arith, h)) i l)))
