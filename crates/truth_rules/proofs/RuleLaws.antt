-- Truth of the clauses of group 6, over an assignment and plain numbers.
--   below_in, next_in                   the variables of a rule's pair have bytes
--   below_more, not_more, founds_all    the clauses of s(r)
--   fact_more, fact_all                 the last clauses of a rule without pairs
--   next_more, bound_all                the last clause of a rule with pairs
--   rule_fact, rule_bound               a rule's clauses, as code goes through them
--   rule_is                             all its clauses, by their slots
-- Assumes nothing.
use Prim.Native.Nat.{ℕ, suc, pred, ◌+◌, ◌-◌, ◌≤◌, ◌<◌}
use native.Mathlib.Nat.{le_refl}
use native.Mathlib.Numerals.{add-one}
use native.Mathlib.Omega.{arith}
use mathlib.Core.Path.{◌≡◌, refl, sym, ◌∙◌, ap, ap₂}
use mathlib.Core.Bool.{Bool, true, false, ◌&&◌, ◌||◌, cond}
use lib.Dec.{eqb, leb, eqb-suc-suc}
use borrow.Author.Tests.{eq-eqb, ne_eqb, eqb-true, eqb-false, le-leb, lt-leb}
use Rattle.lists.specs.Lists.{all_to, any_to}
use Rattle.encoding.specs.Literal.{Assignment, Literal, var, −◌, literal_true}
use Rattle.encoding.specs.Variables.{Sizes, body_var, founds_var, level_var, below_var, next_below_var, var_count}
use Rattle.clause_walk.specs.Walk.{signed, two, three, size6, slots6, slot6}
use Rattle.truth_literals.specs.Clauses.{two_true}
use Rattle.truth_literals.proofs.Gathered.{all_more, and_more, or_more, all_done, and_done, or_done, all_after, any_after}
use Rattle.truth_literals.proofs.Variables.{below_fits, next_below_fits}
use Rattle.truth_rules.specs.Rules.{below_true, not_below, not_next, founds_true, fact_clause, fact_true, bound_true, rule_true}

-- ---- variables

-- a variable of the rule's pair j has a byte
module _ (S : Sizes) {r : ℕ} (p : 0 < r) (h : r ≤ S.m) (k b : ℕ) {n : ℕ} (f : var_count S (k + b) ≤ n) {j : ℕ} (l : j < b) {v : ℕ} where
  pub below_in : v ≡ below_var S (k + (j + 1)) S.w → (0 < v) × (v ≤ n)
  below_in e =
      (omega (arith, e, p, h), omega (arith, e, f, below_fits S (k + (j + 1)) S.w (k + b) (omega arith) (omega (arith, l)) (le_refl S.w)))

  pub next_in : v ≡ next_below_var S (k + (j + 1)) S.w → (0 < v) × (v ≤ n)
  next_in e =
      (omega (arith, e, p, h), omega (arith, e, f, next_below_fits S (k + (j + 1)) S.w (k + b) (omega arith) (omega (arith, l)) (le_refl S.w)))

-- ---- the clauses of s(r), as code goes through them

module _ (A : Assignment) (S : Sizes) (k j : ℕ) {v : ℕ} where
  module _ (q : v ≡ below_var S (k + (j + 1)) S.w) where
    at_pair : v ≡ below_var S (k + suc j) S.w
    at_pair = q ∙ ap (λ (n : ℕ). below_var S (k + n) S.w) (add-one j)

    pub below_more : (f : ℕ) (l : Bool) {y x : Bool} → y ≡ (l && all_to j (below_true A S k f)) → x ≡ two_true A (− f) (var v)
        → (y && x) ≡ (l && all_to (j + 1) (below_true A S k f))
    below_more f l e u = and_more (below_true A S k f) j l e (u ∙ ap (λ (v : ℕ). two_true A (− f) (var v)) at_pair)

    pub not_more : (l : Bool) {y x : Bool} → y ≡ (l || any_to j (not_below A S k)) → x ≡ literal_true A (− v) → (y || x) ≡ (l || any_to (j + 1) (not_below A S k))
    not_more l e u = or_more (not_below A S k) j l e (u ∙ ap (λ (v : ℕ). literal_true A (− v)) at_pair)

  pub next_more : v ≡ next_below_var S (k + (j + 1)) S.w → (l : Bool) {y x : Bool} → y ≡ (l || any_to j (not_next A S k)) → x ≡ literal_true A (− v)
      → (y || x) ≡ (l || any_to (j + 1) (not_next A S k))
  next_more q l e u =
      or_more (not_next A S k) j l e (u ∙ ap (λ (v : ℕ). literal_true A (− v)) (q ∙ ap (λ (n : ℕ). next_below_var S (k + n) S.w) (add-one j)))

module _ (A : Assignment) (S : Sizes) (r k b : ℕ) {t : ℕ} (q : t ≡ body_var S r) {j : ℕ} (h : j ≤ b) (n : b ≤ j) where
  pub founds_all : {f : ℕ} → f ≡ founds_var S r → {l y : Bool} → l ≡ two_true A (− f) (var t) → y ≡ (l && all_to j (below_true A S k f))
      → {i m x : Bool} → i ≡ literal_true A (var f) → m ≡ literal_true A (− t) → x ≡ ((i || m) || any_to j (not_below A S k)) → (y && x) ≡ founds_true A S r k b
  unfolding founds_true
  founds_all {f} p u e v w g =
      ap₂ ◌&&◌
      (and_done (below_true A S k f) j e (u ∙ ap₂ (λ (f t : ℕ). two_true A (− f) (var t)) p q) h n
      ∙ ap (λ (f : ℕ). two_true A (− founds_var S r) (var (body_var S r)) && all_to b (below_true A S k f)) p)
      (or_done (not_below A S k) j g (ap₂ ◌||◌ (v ∙ ap (λ (f : ℕ). literal_true A (var f)) p) (w ∙ ap (λ (t : ℕ). literal_true A (− t)) q)) h n)

  pub bound_all : {l y : Bool} → l ≡ literal_true A (− t) → y ≡ (l || any_to j (not_next A S k)) → y ≡ bound_true A S r k b
  unfolding bound_true
  bound_all u e = or_done (not_next A S k) j e (u ∙ ap (λ (t : ℕ). literal_true A (− t)) q) h n

-- ---- the last clauses, without pairs; t is the variable of the body

module _ (A : Assignment) (S : Sizes) (h t j : ℕ) where
  pub fact_more : {v : ℕ} → v ≡ level_var S h (j + 1) → {y x : Bool} → y ≡ all_to j (fact_clause A S h t)
      → x ≡ two_true A (− t) (signed (eqb j 0) v) → (y && x) ≡ all_to (j + 1) (fact_clause A S h t)
  fact_more q e u =
      all_more (fact_clause A S h t) j e
      (u ∙ ap₂ (λ (d : Bool) (v : ℕ). two_true A (− t) (signed d v)) (sym (eqb-suc-suc j 0)) (q ∙ ap (level_var S h) (add-one j)))

  pub fact_all : (r : ℕ) → t ≡ body_var S r → j ≤ S.w → S.w ≤ j → {y : Bool} → y ≡ all_to j (fact_clause A S h t) → y ≡ fact_true A S r h
  unfolding fact_true
  fact_all r p l n e = all_done (fact_clause A S h t) j e l n ∙ ap (λ (t : ℕ). all_to S.w (fact_clause A S h t)) p

-- ---- a rule's clauses, as code goes through them

module _ (A : Assignment) (S : Sizes) (r h k b : ℕ) {x y : Bool} (e : x ≡ founds_true A S r k b) where
  pub rule_fact : b ≡ 0 → y ≡ fact_true A S r h → (x && y) ≡ rule_true A S r h k b
  unfolding rule_true
  rule_fact q u = ap₂ ◌&&◌ e (u ∙ sym (ap (λ (d : Bool). cond d (fact_true A S r h) (bound_true A S r k b)) (eq-eqb b 0 q)))

  pub rule_bound : (b ≡ 0 → ⊥) → y ≡ bound_true A S r k b → (x && y) ≡ rule_true A S r h k b
  unfolding rule_true
  rule_bound q u = ap₂ ◌&&◌ e (u ∙ sym (ap (λ (d : Bool). cond d (fact_true A S r h) (bound_true A S r k b)) (ne_eqb b 0 q)))

-- ---- all clauses, by their slots

two_less : (j : ℕ) → suc (suc (suc j)) - 2 ≡ suc j
two_less j = omega arith

module _ (A : Assignment) (S : Sizes) (r h k b : ℕ) where
  abbrev clause : ℕ → Bool
  clause y = any_to (slots6 b y) (λ l. literal_true A (slot6 S r h k b y l))

  -- by the tests for the clause
  abbrev literal_by : Bool → Bool → Bool → Bool → ℕ → ℕ → Literal
  literal_by p q s z y l =
      cond p (two (− founds_var S r) (var (body_var S r)) l)
      (cond q (two (− founds_var S r) (var (below_var S (k + pred y) S.w)) l)
      (cond s (three (var (founds_var S r)) (− body_var S r) (− below_var S (k + (l - 2)) S.w) l)
      (cond z (two (− body_var S r) (signed (eqb y 3) (level_var S h (y - 2))) l) (two (− body_var S r) (− next_below_var S (k + pred l) S.w) l))))

  abbrev clause_by : Bool → Bool → Bool → Bool → ℕ → Bool
  clause_by p q s z y = any_to (cond q 2 (cond s (suc (suc b)) (cond z 2 (suc b)))) (λ l. literal_true A (literal_by p q s z y l))

  by_tests : (y : ℕ) (p q s z : Bool) → eqb y 1 ≡ p → leb y (suc b) ≡ q → eqb y (suc (suc b)) ≡ s → eqb b 0 ≡ z → clause y ≡ clause_by p q s z y
  by_tests y p q s z e f g i =
      ap₂ (λ (p q : Bool). clause_by p q (eqb y (suc (suc b))) (eqb b 0) y) e f ∙ ap₂ (λ (s z : Bool). clause_by p q s z y) g i

  first_clause : clause 1 ≡ two_true A (− founds_var S r) (var (body_var S r))
  first_clause = by_tests 1 true true _ _ refl (le-leb 1 (suc b) (omega arith)) refl refl

  -- the clause of pair j
  pair_clause : (j : ℕ) → j < b → clause (suc (suc j)) ≡ below_true A S k (founds_var S r) (suc j)
  pair_clause j l =
      by_tests (suc (suc j)) false true _ _ (ne_eqb (suc (suc j)) 1 (λ e. omega (arith, e))) (le-leb (suc (suc j)) (suc b) (omega (arith, l))) refl refl

  -- the long clause
  abbrev long_slot : ℕ → Bool
  long_slot l = literal_true A (three (var (founds_var S r)) (− body_var S r) (− below_var S (k + (l - 2)) S.w) l)

  below_slot : (j : ℕ) → long_slot (suc (suc (suc j))) ≡ not_below A S k (suc j)
  below_slot j =
      ap₂ (λ (p q : Bool). literal_true A (cond p (var (founds_var S r)) (cond q (− body_var S r) (− below_var S (k + (suc (suc (suc j)) - 2)) S.w))))
      (ne_eqb (suc (suc (suc j))) 1 (λ e. omega (arith, e))) (ne_eqb (suc (suc (suc j))) 2 (λ e. omega (arith, e)))
      ∙ ap (λ (m : ℕ). literal_true A (− below_var S (k + m) S.w)) (two_less j)

  long_clause : clause (suc (suc b)) ≡ (two_true A (var (founds_var S r)) (− body_var S r) || any_to b (not_below A S k))
  long_clause =
      by_tests (suc (suc b)) false false true _ (ne_eqb (suc (suc b)) 1 (λ e. omega (arith, e))) (lt-leb (suc (suc b)) (suc b) (omega arith)) (eq-eqb (suc (suc b)) (suc (suc b)) refl) refl
      ∙ any_after (λ i. suc (suc i)) (λ i. refl) long_slot (not_below A S k) b (λ j l. below_slot j)

  founds_is : all_to (suc (suc b)) clause ≡ founds_true A S r k b
  unfolding founds_true
  founds_is =
      ap₂ ◌&&◌
      (all_after suc (λ i. refl) clause (below_true A S k (founds_var S r)) b pair_clause ∙ ap (λ (d : Bool). d && all_to b (below_true A S k (founds_var S r))) first_clause)
      long_clause

  -- the last clause, with pairs
  abbrev bound_slot : ℕ → Bool
  bound_slot l = literal_true A (two (− body_var S r) (− next_below_var S (k + pred l) S.w) l)

  next_slot : (j : ℕ) → bound_slot (suc (suc j)) ≡ not_next A S k (suc j)
  next_slot j =
      ap (λ (p : Bool). literal_true A (cond p (− body_var S r) (− next_below_var S (k + suc j) S.w))) (ne_eqb (suc (suc j)) 1 (λ e. omega (arith, e)))

  bound_clause : (b ≡ 0 → ⊥) → clause (suc (suc (suc b))) ≡ bound_true A S r k b
  unfolding bound_true
  bound_clause f =
      by_tests (suc (suc (suc b))) false false false false (ne_eqb (suc (suc (suc b))) 1 (λ e. omega (arith, e))) (lt-leb (suc (suc (suc b))) (suc b) (omega arith))
      (ne_eqb (suc (suc (suc b))) (suc (suc b)) (λ e. omega (arith, e))) (ne_eqb b 0 f)
      ∙ any_after suc (λ i. refl) bound_slot (not_next A S k) b (λ j l. next_slot j)

  -- a last clause, without pairs
  fact_clause_lem : b ≡ 0 → (j : ℕ) → clause (suc (suc (suc j))) ≡ fact_clause A S h (body_var S r) (suc j)
  fact_clause_lem e j =
      by_tests (suc (suc (suc j))) false false false true (ne_eqb (suc (suc (suc j))) 1 (λ q. omega (arith, q))) (lt-leb (suc (suc (suc j))) (suc b) (omega (arith, e)))
      (ne_eqb (suc (suc (suc j))) (suc (suc b)) (λ q. omega (arith, q, e))) (eq-eqb b 0 e)
      ∙ ap₂ (λ (d : Bool) (n : ℕ). two_true A (− body_var S r) (signed d (level_var S h n))) (eqb-suc-suc (suc (suc j)) 2 ∙ eqb-suc-suc (suc j) 1) (two_less j)

  facts_are : b ≡ 0 → all_to (suc (suc S.w)) clause ≡ (founds_true A S r k b && fact_true A S r h)
  unfolding fact_true
  facts_are q =
      all_after (λ i. suc (suc i)) (λ i. refl) clause (fact_clause A S h (body_var S r)) S.w (λ j l. fact_clause_lem q j)
      ∙ ap (λ (d : Bool). d && all_to S.w (fact_clause A S h (body_var S r))) (ap (λ (n : ℕ). all_to (suc (suc n)) clause) (sym q) ∙ founds_is)

  pub rule_is : rule_true A S r h k b ≡ all_to (size6 S.w b) clause
  unfolding rule_true
  rule_is = go (eqb b 0) refl
    where
      go : (z : Bool) → eqb b 0 ≡ z
          → (founds_true A S r k b && cond (eqb b 0) (fact_true A S r h) (bound_true A S r k b)) ≡ all_to (cond (eqb b 0) (suc (suc S.w)) (suc (suc (suc b)))) clause
      go true e =
          ap (λ (z : Bool). founds_true A S r k b && cond z (fact_true A S r h) (bound_true A S r k b)) e ∙ sym (ap (λ (z : Bool). all_to (cond z (suc (suc S.w)) (suc (suc (suc b)))) clause) e ∙ facts_are (eqb-true b 0 e))
      go false e =
          ap (λ (z : Bool). founds_true A S r k b && cond z (fact_true A S r h) (bound_true A S r k b)) e
          ∙ sym (ap (λ (z : Bool). all_to (cond z (suc (suc S.w)) (suc (suc (suc b)))) clause) e ∙ ap₂ ◌&&◌ founds_is (bound_clause (eqb-false b 0 e)))
