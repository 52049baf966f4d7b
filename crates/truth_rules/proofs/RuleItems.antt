-- The items of groups 1 and 6 in the walk. Of any code, rule r:
--   body_of_lem, rule_of       every clause of the item is true exactly if the definition for its group says so
-- Of a code whose tables are given, rule a:
--   body_rule, body_lists       group 1: the bounds of a rule and of its lists in the table
--   body_item, body_asks        with the body atoms as the table has them; and what body_holds requires
--   rule_fits_lem, rule_starts  group 6: the bounds of a rule and of its first list in the table
--   rule_item, rule_asks        with head and pairs as the table has them; and what rule_holds requires
-- Assumes nothing.
use Prim.Native.Nat.{ℕ, zero, suc, ◌+◌, ◌-◌, ◌*◌, ◌≤◌, ◌<◌}
use native.Mathlib.Nat.{le_refl, le_trans}
use native.Mathlib.Omega.{arith}
use mathlib.Core.Path.{◌≡◌, refl, sym, ◌∙◌, ap, ap₂, subst}
use mathlib.Core.Bool.{So}
use mathlib.Core.List.{List}
use lib.ListN.{length, get_or, take, drop}
use Rattle.lists.specs.Lists.{all}
use Rattle.lists.proofs.Bools.{and_in}
use Rattle.lists.proofs.Tests.{all_at, all_append}
use Rattle.meaning.specs.Program.{is_atom}
use Rattle.encoding.specs.Code.{Code, code_sizes, rl, pair_total, before}
use Rattle.encoding.specs.Literal.{Assignment}
use Rattle.encoding.specs.Variables.{Sizes, body_var, var_count}
use Rattle.theory.proofs.Atoms.{atom_pos, atom_le}
use Rattle.clause_walk.specs.Walk.{head_of, positives, inner_count, body_of, body_count, item_count, block_count, size, slots, slot, slots1, slot1, size6, slots6, slot6, group_of, BlockAt}
use Rattle.clause_tables.specs.declared.Totals.{Totals}
use Rattle.clause_tables.specs.Tables.{Tabled}
use Rattle.clause_table_laws.proofs.Elements as elements
use Rattle.clause_layout.proofs.Groups.{sizes_are, rule1, rule6, rule_fits_lem as fits, span_asks, span1, body_is as list_is, end_in}
use Rattle.truth_literals.specs.Clauses.{Has}
use Rattle.truth_literals.specs.Items.{item_true}
use Rattle.truth_literals.proofs.Items.{block_of_lem, block_at, item_one}
use Rattle.truth_literals.proofs.Variables.{count_grows, atom_in, body_in}
use Rattle.truth_rules.specs.Rules.{AtomsIn, body_item_true, rule_true}
use Rattle.truth_rules.proofs.BodyLaws.{body_is}
use Rattle.truth_rules.proofs.RuleLaws.{rule_is}

-- ---- of any code

module _ (G : Code) (r : ℕ) (p : 0 < r) where
  module _ (h : r ≤ item_count G 1) where
    body_at_lem : BlockAt G 1 r 1
    unfolding block_count group_of
    body_at_lem = block_at G 1 r (omega arith) (omega arith) p h 1 (omega arith) (le_refl 1)

    pub body_of_lem : (A : Assignment) → body_item_true A (body_var (code_sizes G) r) (body_of G r) (positives G r) ≡ item_true G A 1 r
    unfolding block_count size slots slot group_of
    body_of_lem A =
        body_is A (code_sizes G) r (body_of G r) (positives G r)
        ∙ item_one G 1 r (omega arith) (omega arith) p h A refl
        (λ R. block_of_lem R A (suc (body_count G r)) (slots1 (body_count G r)) (slot1 (code_sizes G) r (body_of G r) (positives G r)) refl (λ y B. refl) (λ y l B. refl))

  module _ (h : r ≤ item_count G 6) where
    rule_at_lem : BlockAt G 6 r 1
    unfolding block_count group_of
    rule_at_lem = block_at G 6 r (omega arith) (omega arith) p h 1 (omega arith) (le_refl 1)

    pub rule_of : (A : Assignment) → rule_true A (code_sizes G) r (head_of G r) (before G r) (inner_count G r) ≡ item_true G A 6 r
    unfolding block_count size slots slot group_of
    rule_of A =
        rule_is A (code_sizes G) r (head_of G r) (before G r) (inner_count G r)
        ∙ item_one G 6 r (omega arith) (omega arith) p h A refl
        (λ R. block_of_lem R A (size6 G.w (inner_count G r)) (slots6 (inner_count G r)) (slot6 (code_sizes G) r (head_of G r) (before G r) (inner_count G r)) refl (λ y B. refl) (λ y l B. refl))

-- ---- of a code whose tables are given

module _ {G : Code} {t : Totals} {hs ss bs ks xs ys : List ℕ} (T : Tabled G t hs ss bs ks xs ys) where
  bytes : {n : ℕ} → t.vars ≤ n → var_count (code_sizes G) (pair_total G) ≤ n
  bytes {n} f = subst (λ (k : ℕ). k ≤ n) (elements.vars_are G t hs ss bs ks xs ys T) f

  -- ---- group 1; the lists of rule a begin at b and c and end at d

  body_atoms_lem : (a : ℕ) → 0 < a → a ≤ length G.rules → So (all (is_atom G.n) (body_of G a))
  body_atoms_lem zero p h = absurd (omega (arith, p))
  body_atoms_lem (suc r) p h =
      all_append (is_atom G.n) (rl G (suc r)).positive (rl G (suc r)).negative
      ∙ and_in ((elements.ranges G T.limits).positive_in r h) ((elements.ranges G T.limits).negative_in r h)

  module _ {a : ℕ} (p : 0 < a) (h : a ≤ item_count G 1) where
    R : BlockAt G 1 a 1
    R = body_at_lem G a p h

    in_rules : a ≤ length G.rules
    in_rules = rule1 T R refl

    pub body_rule : a ≤ 500
    body_rule = fits T R in_rules

    module _ {b c d : ℕ} (e : b ≡ get_or ss (2 * (a - 1) + 0) 0) (f : c ≡ get_or ss (2 * (a - 1) + 1) 0) (g : d ≡ get_or ss (2 * (a - 1) + 2) 0) where
      pub body_lists : (b ≤ c) × (b ≤ d) × (d ≤ 500)
      body_lists = (omega (arith, e, f, list_up 1 (omega arith)), omega (arith, e, g, list_up 2 (omega arith)), omega (arith, g, end_in T R in_rules))
        where
          list_up : (k : ℕ) → k ≤ 2 → get_or ss (2 * (a - 1) + 0) 0 ≤ get_or ss (2 * (a - 1) + k) 0
          list_up k l = (span_asks T R in_rules k l).3

      module _ {us : List ℕ} (q : us ≡ take (d - b) (drop b bs)) where
        body_are : us ≡ body_of G a
        body_are = q ∙ ap₂ (λ (d b : ℕ). take (d - b) (drop b bs)) g e ∙ list_is T R in_rules

        module _ {v : ℕ} (u : v ≡ body_var t.sizes a) where
          var_is : v ≡ body_var (code_sizes G) a
          var_is = u ∙ ap (λ (S : Sizes). body_var S a) (sizes_are T)

          pub body_item : (A : Assignment) {z : ℕ} → z ≡ c - b → body_item_true A v us z ≡ item_true G A 1 a
          body_item A {z} s =
              ap (λ (v : ℕ). body_item_true A v us z) var_is
              ∙ ap₂ (body_item_true A (body_var (code_sizes G) a)) body_are (s ∙ ap₂ (λ (c b : ℕ). c - b) f e ∙ span1 T R in_rules)
              ∙ body_of_lem G a p h A

          pub body_asks : (vs : List ℕ) → t.vars ≤ length vs → (Has vs v) × (AtomsIn vs us)
          body_asks vs k = (body_in (code_sizes G) (pair_total G) (bytes k) a p in_rules var_is, subst (AtomsIn vs) (sym body_are) atoms)
            where
              atoms : AtomsIn vs (body_of G a)
              atoms j l =
                  let z = get_or (body_of G a) j 0 in
                  let y = all_at (is_atom G.n) (body_of G a) 0 (body_atoms_lem a p in_rules) j l in
                  atom_in (code_sizes G) (pair_total G) (bytes k) z (atom_pos G.n z y) (atom_le G.n z y) refl

  -- ---- group 6; rule a has the head h and b pairs after k others

  module _ {a : ℕ} (p : 0 < a) (i : a ≤ item_count G 6) where
    R6 : BlockAt G 6 a 1
    R6 = rule_at_lem G a p i

    in_rules6 : a ≤ length G.rules
    in_rules6 = rule6 T R6 refl

    pub rule_fits_lem : a ≤ 500
    rule_fits_lem = fits T R6 in_rules6

    pub rule_starts : get_or ss (2 * (a - 1) + 0) 0 ≤ get_or ss (2 * (a - 1) + 1) 0
    rule_starts = (span_asks T R6 in_rules6 1 (omega arith)).3

    module _ {h k b : ℕ} (e : h ≡ get_or hs (a - 1) 0) (f : k ≡ get_or ks (a - 1) 0) (g : b ≡ get_or ss (2 * (a - 1) + 1) 0 - get_or ss (2 * (a - 1) + 0) 0) where
      head_is : h ≡ head_of G a
      head_is = e ∙ elements.head_is G t hs ss bs ks xs ys T a p in_rules6

      before_is : k ≡ before G a
      before_is = f ∙ elements.before_is G t hs ss bs ks xs ys T a p (le_trans in_rules6 (omega arith))

      pairs_are : b ≡ inner_count G a
      pairs_are = g ∙ span1 T R6 in_rules6 ∙ sym (elements.inner_positives G T.limits a)

      pub rule_item : (A : Assignment) → rule_true A t.sizes a h k b ≡ item_true G A 6 a
      rule_item A =
          ap₂ (λ (S : Sizes) (h : ℕ). rule_true A S a h k b) (sizes_are T) head_is
          ∙ ap₂ (rule_true A (code_sizes G) a (head_of G a)) before_is pairs_are
          ∙ rule_of G a p i A

      pub rule_asks : (vs : List ℕ) → t.vars ≤ length vs
          → (0 < a) × (a ≤ t.sizes.m) × (0 < h) × (h ≤ t.sizes.n) × (k + b ≤ 500) × (var_count t.sizes (k + b) ≤ length vs)
      rule_asks vs l = (p, rule_among, omega (arith, head_is, x.0), omega (arith, head_is, x.1, atoms_are), few, enough)
        where
          rule_among : a ≤ t.sizes.m
          rule_among = subst (λ (n : ℕ). a ≤ n) (sym (elements.rules_are G t hs ss bs ks xs ys T)) in_rules6

          atoms_are : t.sizes.n ≡ G.n
          atoms_are = elements.atoms_are G t hs ss bs ks xs ys T

          x : (0 < head_of G a) × (head_of G a ≤ G.n)
          x = elements.head_atom G T.limits a p in_rules6

          in_pairs : k + b ≤ pair_total G
          in_pairs = omega (arith, before_is, pairs_are, elements.before_fits G T.limits a p in_rules6)

          few : k + b ≤ 500
          few = le_trans in_pairs (elements.pairs_fit G T.limits)

          enough : var_count t.sizes (k + b) ≤ length vs
          enough =
              subst (λ (S : Sizes). var_count S (k + b) ≤ length vs) (sym (sizes_are T))
              (le_trans (count_grows (code_sizes G) (k + b) (pair_total G) in_pairs) (bytes l))
