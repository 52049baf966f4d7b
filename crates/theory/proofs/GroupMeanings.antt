-- What each group of clauses says, for document 01's own definitions: all clauses of the group are true exactly if the statement holds of each rule, atom or
-- pair. P is any program, A any assignment and w any width; group 6 asks that it is not 0.
--   group1_iff to group7_iff   the groups
--   pairs_are, pairs_counted   which pairs are those of a rule, and how many there are in all
-- Assumes nothing.
use Prim.Native.Nat.{ℕ, zero, suc, pred, ◌+◌, ◌%◌, ◌^◌, ◌≤◌, ◌<◌}
use native.Mathlib.Nat.{not-suc-le-zero}
use native.Mathlib.Omega.{arith}
use mathlib.Core.Path.{◌≡◌, refl, sym, ◌∙◌, ap, ap₂, subst}
use mathlib.Core.Logic.{◌↔◌, ⊎_elim}
use mathlib.Core.Bool.{Bool, false, not, ◌&&◌, ◌||◌, So}
use mathlib.Core.List.{List, [], ◌∷◌, ◌++◌}
use lib.ListN.{length, get_or}
use borrow.Author.Tests.{not-true}
use Rattle.lists.specs.Lists.{any, all_to, each, sum}
use Rattle.lists.proofs.Bools.{and_in, beq_eq, eq_beq, or_cases, not_So, So-not, false_of}
use Rattle.lists.proofs.Tests.{all_to_at, all_to_in}
use Rattle.lists.proofs.Tables.{length_tab, sum_zero, sum_ext}
use Rattle.meaning.specs.Program.{Program, rule_at, is_atom, body_true}
use Rattle.encoding.specs.Literal.{Clause, Assignment, all_true}
use Rattle.encoding.specs.Variables.{Sizes, body_var, founds_var, level_var, next_var, below_var, next_below_var}
use Rattle.encoding.specs.Counter.{value, chain}
use Rattle.encoding.specs.Clauses.{implied_clauses, supported_clause, founds_clauses, lowest_clauses, founded_clause, sizes, Pair, pairs, pair_at, pair_count, pairs_before, pairs_of, rules_of, group1, group2, group3, group4, group5, group6, group7}
use Rattle.encoding.specs.Fill.{counter}
use Rattle.encoding.specs.Code.{whole}
use Rattle.theory.specs.GroupMeaning.{SomeRule, ComparesPair, FoundsRule}
use Rattle.theory.proofs.Atoms.{by_place, is_atom_lem}
use Rattle.theory.proofs.Bits.{value_ext, value_inj}
use Rattle.theory.proofs.Counters.{chain_iff, successor_iff, one_iff}
use Rattle.theory.proofs.AllTrue.{so_or, or_so, so_implies, each_at, each_in, append_left, append_right, append_in, one_of}
use Rattle.theory.proofs.Groups.{body_means, implied_means, supported_means, zero_means, founds_means, one_test, low_test, lowest_means, founded_means}
use Rattle.theory.proofs.Meaning.{its_any, any_its, its_all, all_its}
use Rattle.theory.proofs.Pairs.{pair_count_lem, pair_is}
use Rattle.theory.proofs.Whole.{inner_whole, pairs_whole, before_whole}

-- ---- numbers from 1 on

from_one : (n : ℕ) (Q : ℕ → Type 0) → ((i : ℕ) → i < n → Q (suc i)) → (i : ℕ) → zero < i → i ≤ n → Q i
from_one n Q f zero p h = absurd (not-suc-le-zero p)
from_one n Q f (suc i) p h = f i h

-- ---- counters of 0 and of 1

zero_value : (X : ℕ → Bool) (w : ℕ) → So (all_to w (λ i. not (X i))) ↔ (value X w ≡ 0)
zero_value X w = (
  λ t. value_ext X (λ i. false) w (λ i h. not-true (X (suc i)) (all_to_at w (λ i. not (X i)) t i h)) ∙ sum_zero w,
  λ e. all_to_in w (λ i. not (X i)) (λ i h. So-not (X (suc i)) (value_inj X (λ i. false) w (e ∙ sym (sum_zero w)) i h)),
)

one_value : (X : ℕ → Bool) (w : ℕ) → zero < w → So (X 1 && all_to (pred w) (λ i. not (X (suc i)))) ↔ (value X w ≡ 1)
one_value X zero p = absurd (not-suc-le-zero p)
one_value X (suc w) p = one_iff X w

module _ (P : Program) (w : ℕ) (A : Assignment) where
  abbrev S : Sizes
  S = sizes P w

  abbrev its : ℕ → List ℕ
  its a = rules_of P.rules a

  -- ---- a group is a list for each number from 1 to n

  each_iff : (n : ℕ) (f : ℕ → List Clause) (Q : ℕ → Type 0) → ((i : ℕ) → So (all_true A (f i)) ↔ Q i)
      → So (all_true A (each n f)) ↔ ((i : ℕ) → zero < i → i ≤ n → Q i)
  each_iff n f Q q = (
    λ t. from_one n Q (λ i h. (q (suc i)).0 (each_at A n f t i h)),
    λ g. each_in A n f (λ i h. (q (suc i)).1 (g (suc i) (omega arith) h)),
  )

  -- of the atoms 1 to n
  atoms_iff : (f : ℕ → List Clause) (Q : ℕ → Type 0) → ((a : ℕ) → So (all_true A (f a)) ↔ Q a)
      → So (all_true A (each P.atoms f)) ↔ ((a : ℕ) → So (is_atom P.atoms a) → Q a)
  atoms_iff f Q q = (
    λ t. by_place P.atoms Q (λ a h. (q (suc a)).0 (each_at A P.atoms f t a h)),
    λ g. each_in A P.atoms f (λ a h. (q (suc a)).1 (g (suc a) (is_atom_lem P.atoms (suc a) (omega arith) h))),
  )

  -- ---- the rules of an atom

  some_rule : (p : ℕ → Bool) (a : ℕ) → So (any p (its a)) → SomeRule P p a
  some_rule p a t =
      let q = its_any (whole P w) p a t in
      record { rule = suc q.0; from_one = omega arith; is_rule = q.1; its_head = q.2; passes = q.3 }

  rule_some : (p : ℕ → Bool) (a : ℕ) → SomeRule P p a → So (any p (its a))
  rule_some p a s =
      from_one (length P.rules) (λ r. (rule_at P.rules r).head ≡ a → So (p r) → So (any p (its a))) (any_its (whole P w) p a)
      s.rule s.from_one s.is_rule s.its_head s.passes

  -- ---- the groups

  pub group1_iff : So (all_true A (group1 P w))
      ↔ ((r : ℕ) → zero < r → r ≤ length P.rules → A (body_var (sizes P w) r) ≡ body_true A (rule_at P.rules r))
  group1_iff =
      each_iff (length P.rules) _ (λ r. A (body_var S r) ≡ body_true A (rule_at P.rules r))
      (λ r. (λ t. beq_eq _ _ (sym (body_means S A r (rule_at P.rules r)) ∙ t), λ e. body_means S A r (rule_at P.rules r) ∙ eq_beq _ _ e))

  group2_at : (a : ℕ) → So (all_true A (implied_clauses S a (its a) ++ (supported_clause S a (its a) ∷ []))) ↔ (So (A a) ↔ SomeRule P (λ r. A (body_var S r)) a)
  group2_at a = (reads, writes)
    where
      reads : So (all_true A (implied_clauses S a (its a) ++ (supported_clause S a (its a) ∷ []))) → So (A a) ↔ SomeRule P (λ r. A (body_var S r)) a
      reads t = (
        λ u. some_rule _ a (or_so (A a) _
            (sym (supported_means S A a (its a)) ∙ one_of A (supported_clause S a (its a)) (append_right A (implied_clauses S a (its a)) _ t)) u),
        λ s. ⊎_elim (λ u. u)
            (λ u. absurd (not_So (not (A (body_var S s.rule))) (ap not s.passes)
            (from_one (length P.rules) (λ r. (rule_at P.rules r).head ≡ a → So (not (A (body_var S r))))
            (its_all (whole P w) (λ r. not (A (body_var S r))) a u)
            s.rule s.from_one s.is_rule s.its_head)))
            (or_cases (A a) _ (sym (implied_means S A a (its a)) ∙ append_left A (implied_clauses S a (its a)) (supported_clause S a (its a) ∷ []) t)),
      )

      writes : So (A a) ↔ SomeRule P (λ r. A (body_var S r)) a → So (all_true A (implied_clauses S a (its a) ++ (supported_clause S a (its a) ∷ [])))
      writes f =
          append_in A (implied_clauses S a (its a)) (supported_clause S a (its a) ∷ [])
          (implied_means S A a (its a)
          ∙ so_or (A a) _ (λ u. all_its (whole P w) (λ r. not (A (body_var S r))) a
          (λ r h e. So-not (A (body_var S (suc r))) (false_of (A (body_var S (suc r)))
          (λ t. not_So (A a) (not-true (A a) u) (f.1 (record { rule = suc r; from_one = omega arith; is_rule = h; its_head = e; passes = t })))))))
          (and_in (supported_means S A a (its a) ∙ so_implies (A a) _ (λ t. rule_some _ a (f.0 t))) refl)

  pub group2_iff : So (all_true A (group2 P w))
      ↔ ((a : ℕ) → So (is_atom P.atoms a) → So (A a) ↔ SomeRule P (λ r. A (body_var (sizes P w) r)) a)
  group2_iff = atoms_iff _ (λ a. So (A a) ↔ SomeRule P (λ r. A (body_var S r)) a) group2_at

  pub group3_iff : So (all_true A (group3 P w)) ↔ ((a : ℕ) → So (is_atom P.atoms a) → A a ≡ false → counter (sizes P w) A a ≡ 0)
  group3_iff =
      atoms_iff _ (λ a. A a ≡ false → counter S A a ≡ 0) (λ a. (
        λ t e. (zero_value (λ i. A (level_var S a i)) w).0
            (subst (λ b. So (b || all_to w (λ i. not (A (level_var S a i))))) e (sym (zero_means S A a) ∙ t)),
        λ f. zero_means S A a ∙ so_or (A a) _ (λ u. (zero_value (λ i. A (level_var S a i)) w).1 (f (not-true (A a) u))),
      ))

  pub group4_iff : So (all_true A (group4 P w))
      ↔ ((a : ℕ) → So (is_atom P.atoms a) → value (λ i. A (next_var (sizes P w) a i)) w ≡ (counter (sizes P w) A a + 1) % 2 ^ w)
  group4_iff =
      atoms_iff _ (λ a. value (λ i. A (next_var S a i)) w ≡ (counter S A a + 1) % 2 ^ w) (λ a. successor_iff A w (next_var S a) (level_var S a))

  -- the two chains of pair k
  abbrev below_chain : ℕ → List Clause
  below_chain k = chain w (below_var S k) (level_var S (pair_at (pairs P) k).body) (level_var S (pair_at (pairs P) k).head)

  abbrev next_chain : ℕ → List Clause
  next_chain k = chain w (next_below_var S k) (next_var S (pair_at (pairs P) k).body) (level_var S (pair_at (pairs P) k).head)

  pub group5_iff : So (all_true A (group5 P w)) ↔ ((k : ℕ) → zero < k → k ≤ pair_count P → (i : ℕ) → zero < i → i ≤ w → ComparesPair P w A k i)
  group5_iff =
      each_iff (pair_count P) _ (λ k. (i : ℕ) → zero < i → i ≤ w → ComparesPair P w A k i) (λ k. (
        λ t. from_one w (ComparesPair P w A k) (λ i h. record {
          level_below = (chain_iff A w (below_var S k) _ _).0 (append_left A (below_chain k) (next_chain k) t) i h;
          next_below = (chain_iff A w (next_below_var S k) _ _).0 (append_right A (below_chain k) (next_chain k) t) i h;
        }),
        λ f. append_in A (below_chain k) (next_chain k)
            ((chain_iff A w (below_var S k) _ _).1 (λ i h. (f (suc i) (omega arith) h).level_below))
            ((chain_iff A w (next_below_var S k) _ _).1 (λ i h. (f (suc i) (omega arith) h).next_below)),
      ))

  -- the test of group 6's last clauses, with B empty and not
  low_empty : (h : ℕ) (ks : List ℕ) → ks ≡ [] → low_test S A h ks ≡ one_test S A h
  low_empty h ks e = ap (low_test S A h) e

  low_some : (h : ℕ) (ks : List ℕ) → zero < length ks → low_test S A h ks ≡ any (λ k. not (A (next_below_var S k w))) ks
  low_some h [] p = absurd (not-suc-le-zero p)
  low_some h (k ∷ ks) p = refl

  group6_at : zero < w → (r : ℕ)
      → So (all_true A (founds_clauses S r (pairs_of P r) ++ lowest_clauses S r (rule_at P.rules r).head (pairs_of P r))) ↔ FoundsRule P w A r
  group6_at some r = (reads, writes)
    where
      h : ℕ
      h = (rule_at P.rules r).head

      count_is : length (pairs_of P r) ≡ length (rule_at P.rules r).positive
      count_is = length_tab (length (rule_at P.rules r).positive) _

      empty : (rule_at P.rules r).positive ≡ [] → pairs_of P r ≡ []
      empty e = none (pairs_of P r) (count_is ∙ ap length e)
        where
          none : (ks : List ℕ) → length ks ≡ 0 → ks ≡ []
          none [] e = refl
          none (k ∷ ks) e = absurd (omega (arith, e))

      some_pair : zero < length (rule_at P.rules r).positive → zero < length (pairs_of P r)
      some_pair p = omega (arith, p, count_is)

      reads : So (all_true A (founds_clauses S r (pairs_of P r) ++ lowest_clauses S r h (pairs_of P r))) → FoundsRule P w A r
      reads t =
          let low : So (A (body_var S r)) → So (low_test S A h (pairs_of P r)) = λ u.
          or_so (A (body_var S r)) _ (sym (lowest_means S A r h (pairs_of P r))
          ∙ append_right A (founds_clauses S r (pairs_of P r)) (lowest_clauses S r h (pairs_of P r)) t) u in
          record {
            founds = beq_eq _ _ (sym (founds_means S A r (pairs_of P r)) ∙ append_left A (founds_clauses S r (pairs_of P r)) _ t);
            at_one = λ u e. (one_value (λ i. A (level_var S h i)) w some).0
                (sym (low_empty h (pairs_of P r) (empty e)) ∙ low u);
            lowest = λ u p. sym (low_some h (pairs_of P r) (some_pair p)) ∙ low u;
          }

      writes : FoundsRule P w A r → So (all_true A (founds_clauses S r (pairs_of P r) ++ lowest_clauses S r h (pairs_of P r)))
      writes s =
          append_in A (founds_clauses S r (pairs_of P r)) (lowest_clauses S r h (pairs_of P r))
          (founds_means S A r (pairs_of P r) ∙ eq_beq _ _ s.founds)
          (lowest_means S A r h (pairs_of P r) ∙ so_implies (A (body_var S r)) _ (λ u. low u (rule_at P.rules r).positive refl))
        where
          low : So (A (body_var S r)) → (bs : List ℕ) → (rule_at P.rules r).positive ≡ bs → So (low_test S A h (pairs_of P r))
          low u [] e =
              low_empty h (pairs_of P r) (empty e)
              ∙ (one_value (λ i. A (level_var S h i)) w some).1 (s.at_one u e)
          low u (b ∷ bs) e =
              let p : zero < length (rule_at P.rules r).positive = omega (arith, ap length e) in
              low_some h (pairs_of P r) (some_pair p) ∙ s.lowest u p

  pub group6_iff : zero < w → So (all_true A (group6 P w)) ↔ ((r : ℕ) → zero < r → r ≤ length P.rules → FoundsRule P w A r)
  group6_iff some = each_iff (length P.rules) _ (FoundsRule P w A) (group6_at some)

  pub group7_iff : So (all_true A (group7 P w))
      ↔ ((a : ℕ) → So (is_atom P.atoms a) → So (A a) → SomeRule P (λ r. A (founds_var (sizes P w) r)) a)
  group7_iff =
      atoms_iff _ (λ a. So (A a) → SomeRule P (λ r. A (founds_var S r)) a) (λ a. (
        λ t u. some_rule _ a (or_so (A a) _ (sym (founded_means S A a (its a)) ∙ one_of A (founded_clause S a (its a)) t) u),
        λ f. and_in (founded_means S A a (its a) ∙ so_implies (A a) _ (λ t. rule_some _ a (f t))) refl,
      ))

-- ---- the pairs

module _ (P : Program) where
  -- pair j of rule r is its body atom j with its head, after the pairs of the rules before it
  pub pairs_are : (r : ℕ) → zero < r → r ≤ length P.rules → (j : ℕ) → j < length (rule_at P.rules r).positive
      → pair_at (pairs P) (pairs_before P r + suc j) ≡ record { body = get_or (rule_at P.rules r).positive j 0; head = (rule_at P.rules r).head }
  pairs_are =
      from_one (length P.rules)
      (λ r. (j : ℕ) → j < length (rule_at P.rules r).positive
      → pair_at (pairs P) (pairs_before P r + suc j) ≡ record { body = get_or (rule_at P.rules r).positive j 0; head = (rule_at P.rules r).head })
      (λ r h j g.
      ap₂ (λ (ps : List Pair) (b : ℕ). pair_at ps (b + suc j)) (sym (pairs_whole P 0)) (sym (before_whole P 0 (suc r)))
      ∙ pair_is (whole P 0) r j h (subst (λ (bs : List ℕ). j < length bs) (sym (inner_whole P 0 (suc r))) g)
      ∙ ap (λ (bs : List ℕ). record { body = get_or bs j 0; head = (rule_at P.rules (suc r)).head }) (inner_whole P 0 (suc r)))

  pub pairs_counted : pair_count P ≡ sum (length P.rules) (λ r. length (rule_at P.rules r).positive)
  pairs_counted =
      ap length (sym (pairs_whole P 0)) ∙ pair_count_lem (whole P 0) ∙ sum_ext (length P.rules) _ _ (λ r h. ap length (inner_whole P 0 (suc r)))
