-- What the rules of an atom say, groups 2 and 7, as code goes from rule to rule.
--   Visited A S hs a founds r e s    e and s are what the rules before r say, all rules where r is 0; r has the head a
--   Visiting A S hs a founds rule e s    the same of the rule that is met next, if there is one; place rule is its number, else 0
--   place_is, numbered_so, met, none_met, fewer, at_rule    the rule that is met, by its number
--   heads_length                                as many heads as rules
--   visited_first, visited_next, visited_all    at the first rule, from one rule to the next, and after the last one
--   visited_less                                the loop ends
--   head_all, founded_all                       every clause of an item
-- Of a table (TableOf G tb):
--   atom_fits, rule_fits_lem                    the bounds of its numbers
--   atom_in, rule_in_lem                        the variables of an atom and of a rule have bytes
--   rule_named                                  the variable of a rule, by the code's sizes
--   from_none, from_rule                        the first rule and the next one follow
-- Assumes nothing.
use Prim.Native.Nat.{ℕ, zero, suc, ◌-◌, ◌≤◌, ◌<◌}
use Rattle.std.specs.Prelude.{Option, Some, None}
use native.Mathlib.Nat.{le_of_eq, le_trans}
use native.Mathlib.Omega.{arith}
use mathlib.Core.Path.{◌≡◌, refl, sym, ◌∙◌, ap, ap₂, subst}
use mathlib.Core.Bool.{Bool, true, false, ◌&&◌, ◌||◌, cond, and-true, or-false}
use mathlib.Core.List.{List}
use lib.Dec.{eqb}
use lib.ListN.{length, get_or, length-map}
use borrow.Author.Tests.{eq-eqb}
use Rattle.lists.specs.Lists.{all_to, any_to}
use Rattle.encoding.specs.Code.{Code, code_sizes, pair_total}
use Rattle.encoding.specs.Literal.{Assignment, var, −◌, literal_true}
use Rattle.encoding.specs.Variables.{Sizes, var_count}
use Rattle.clause_walk.specs.Walk.{heads_of, head_at}
use Rattle.clause_slots.specs.SlotNumber.{rule_var}
use Rattle.clause_tables.specs.declared.Totals.{Totals}
use Rattle.clause_tables.specs.Tables.{TableOf, Tabled, totals_in, atoms_in, vars_in, heads_in, starts_in, bodies_in, before_in, partners_in, owners_in, links_in, firsts_in}
use Rattle.clause_table_laws.proofs.Cells.{told, arrays}
use Rattle.clause_table_laws.proofs.Elements as elements
use Rattle.clause_table_laws.proofs.Links.{rules_before, before_none, before_some, before_within, Follows, before_grows, unchanged, first_read_lem, next_read}
use Rattle.clause_layout.proofs.Groups.{sizes_are, bounded}
use Rattle.numbers.specs.Nonzero.{nonzero}
use Rattle.numbers.specs.declared.Rule.{Rule}
use Rattle.clause_cells.specs.Rules.{rule_number}
use Rattle.truth_literals.specs.Clauses.{two_true}
use Rattle.truth_literals.proofs.Variables.{atom_in as atom-has, body_in, founds_in}
use Rattle.truth_heads.specs.declared.Support.{Support}
use Rattle.truth_heads.specs.Heads.{implied_true, supports, support_of, head_true, founded_true}

pub heads_length : (G : Code) → length (heads_of G) ≡ length G.rules
heads_length G = length-map {B = ℕ} G.rules (λ R. R.head)

-- ---- over plain lists

pub record Visited (A : Assignment) (S : Sizes) (hs : List ℕ) (a : ℕ) (founds : Bool) (r : ℕ) (e s : Bool) : Type 0 where
  pub within : r ≤ length hs
  pub head_is : 0 < r → head_at hs r ≡ a
  pub each_are : e ≡ all_to (rules_before (length hs) r) (implied_true A S hs a founds)
  pub some_are : s ≡ any_to (rules_before (length hs) r) (supports A S hs a founds)

-- the number of a rule, 0 if there is none
abbrev pub place : Option Rule → ℕ
place None = 0
place (Some r) = r.0

-- where rule is the next one that is met
pub record Visiting (A : Assignment) (S : Sizes) (hs : List ℕ) (a : ℕ) (founds : Bool) (rule : Option Rule) (e s : Bool) : Type 0 where
  pub numbered : rule_number rule ≡ nonzero (place rule)
  pub visited : Visited A S hs a founds (place rule) e s

pub place_is : (rule : Option Rule) (k : ℕ) → rule_number rule ≡ nonzero k → place rule ≡ k
place_is None zero e = refl
place_is None (suc k) e = absurd (cc)
place_is (Some r) zero e = absurd (cc)
place_is (Some r) (suc k) e = cc

pub numbered_so : (rule : Option Rule) (k : ℕ) → rule_number rule ≡ nonzero k → rule_number rule ≡ nonzero (place rule)
numbered_so rule k e = e ∙ ap nonzero (sym (place_is rule k e))

-- a rule that is there has a number above 0
some_pos : (k : ℕ) → ◌≡◌ {A = Option ℕ} (Some k) (nonzero k) → 0 < k
some_pos zero e = absurd (cc)
some_pos (suc k) e = omega arith

pub met : {rule : Option Rule} {r : Rule} → rule ≡ Some r → rule_number rule ≡ nonzero (place rule) → 0 < r.0
met {rule} {r} e n = some_pos r.0 (subst (λ (x : Option Rule). rule_number x ≡ nonzero (place x)) e n)

pub none_met : {rule : Option Rule} → rule ≡ None → place rule ≤ 0
none_met e = le_of_eq (ap place e)

-- what is left for the loop, at the rule that is met
pub fewer : (hs : List ℕ) {rule : Option Rule} {r : Rule} {n : ℕ} → rule ≡ Some r → n < length hs - rules_before (length hs) r.0
    → n < length hs - rules_before (length hs) (place rule)
fewer hs {n = n} e h = subst (λ (x : Option Rule). n < length hs - rules_before (length hs) (place x)) (sym e) h

module _ (A : Assignment) (S : Sizes) (hs : List ℕ) (a : ℕ) (founds : Bool) where
  -- the rule that is met next
  pub at_rule : {rule : Option Rule} {r : Rule} {e s : Bool} → rule ≡ Some r → Visited A S hs a founds (place rule) e s → Visited A S hs a founds r.0 e s
  at_rule {e = e} {s = s} p v = subst (λ (x : Option Rule). Visited A S hs a founds (place x) e s) p v

  abbrev implied_by : ℕ → Bool → Bool
  implied_by r d = cond d (two_true A (var a) (− rule_var S founds r)) true

  abbrev supports_by : ℕ → Bool → Bool
  supports_by r d = cond d (literal_true A (var (rule_var S founds r))) false

  -- a rule with another head changes nothing
  module _ {k r : ℕ} (h : k ≤ length hs) (f : Follows hs a k r) where
    same_each : all_to (rules_before (length hs) r) (implied_true A S hs a founds) ≡ all_to k (implied_true A S hs a founds)
    same_each =
        unchanged hs a (λ i. all_to i (implied_true A S hs a founds))
        (λ i l e. ap (λ (d : Bool). all_to i (implied_true A S hs a founds) && implied_by (suc i) d) e ∙ and-true (all_to i (implied_true A S hs a founds))) k r h f

    same_some : any_to (rules_before (length hs) r) (supports A S hs a founds) ≡ any_to k (supports A S hs a founds)
    same_some =
        unchanged hs a (λ i. any_to i (supports A S hs a founds))
        (λ i l e. ap (λ (d : Bool). any_to i (supports A S hs a founds) || supports_by (suc i) d) e ∙ or-false (any_to i (supports A S hs a founds))) k r h f

  pub visited_first : {r : ℕ} → Follows hs a 0 r → Visited A S hs a founds r true false
  visited_first f =
      record { within = f.within; head_is = f.head_is; each_are = sym (same_each (omega arith) f); some_are = sym (same_some (omega arith) f) }

  module _ {r x : ℕ} {e s : Bool} (U : Visited A S hs a founds r e s) (p : 0 < r) (f : Follows hs a r x) where
    -- a is the head of r
    its_head : eqb (head_at hs r) a ≡ true
    its_head = eq-eqb (head_at hs r) a (U.head_is p)

    here : suc (rules_before (length hs) r) ≡ r
    here = before_some (length hs) r p

    pub visited_next : {v y : ℕ} {c d g : Bool} → v ≡ a → y ≡ rule_var S founds r → c ≡ literal_true A (var v) → d ≡ literal_true A (− y)
        → g ≡ literal_true A (var y)
        → Visited A S hs a founds x (e && (c || d)) (s || g)
    visited_next {v} {y} q u i j k =
        record {
          within = f.within;
          head_is = f.head_is;
          each_are =
              ap₂ ◌&&◌ U.each_are
              (ap₂ ◌||◌ (i ∙ ap (λ (n : ℕ). literal_true A (var n)) q) (j ∙ ap (λ (n : ℕ). literal_true A (− n)) u)
              ∙ sym (ap (implied_by r) its_head) ∙ ap (implied_true A S hs a founds) (sym here))
              ∙ ap (λ (n : ℕ). all_to n (implied_true A S hs a founds)) here
              ∙ sym (same_each U.within f);
          some_are =
              ap₂ ◌||◌ U.some_are
              (k ∙ ap (λ (n : ℕ). literal_true A (var n)) u ∙ sym (ap (supports_by r) its_head) ∙ ap (supports A S hs a founds) (sym here))
              ∙ ap (λ (n : ℕ). any_to n (supports A S hs a founds)) here
              ∙ sym (same_some U.within f);
        }

    -- the loop ends
    pub visited_less : length hs - rules_before (length hs) x < length hs - rules_before (length hs) r
    visited_less = omega (arith, before_grows hs a r x p U.within f, before_within (length hs) x f.within)

  pub visited_all : {r : ℕ} {e s : Bool} → Visited A S hs a founds r e s → r ≤ 0 → record { each = e; some = s } ≡ support_of A S hs a founds
  unfolding support_of
  visited_all {r} {e} {s} U h = λ i. record { each = all_each i; some = all_some i }
    where
      last : rules_before (length hs) r ≡ length hs
      last = before_none (length hs) r (omega (arith, h))

      all_each : e ≡ all_to (length hs) (implied_true A S hs a founds)
      all_each = U.each_are ∙ ap (λ (n : ℕ). all_to n (implied_true A S hs a founds)) last

      all_some : s ≡ any_to (length hs) (supports A S hs a founds)
      all_some = U.some_are ∙ ap (λ (n : ℕ). any_to n (supports A S hs a founds)) last

-- ---- every clause of an item, where v is the atom's variable and x what its rules say

module _ (G : Code) (A : Assignment) (a : ℕ) {v : ℕ} (q : v ≡ a) {c : Bool} (e : c ≡ literal_true A (− v)) where
  is_out : c ≡ literal_true A (− a)
  is_out = e ∙ ap (λ (n : ℕ). literal_true A (− n)) q

  pub head_all : {x : Support} → x ≡ support_of A (code_sizes G) (heads_of G) a false → (x.each && (c || x.some)) ≡ head_true G A a
  unfolding support_of head_true
  head_all u = ap₂ ◌&&◌ (ap (λ (z : Support). z.each) u) (ap₂ ◌||◌ is_out (ap (λ (z : Support). z.some) u))

  pub founded_all : {x : Support} → x ≡ support_of A (code_sizes G) (heads_of G) a true → (c || x.some) ≡ founded_true G A a
  unfolding support_of founded_true
  founded_all u = ap₂ ◌||◌ is_out (ap (λ (z : Support). z.some) u)

-- ---- of a table

module _ {G : Code} {tb : List ℕ} (T : TableOf G tb) where
  abbrev D : Tabled G (totals_in tb) (heads_in tb) (starts_in tb) (bodies_in tb) (before_in tb) (partners_in tb) (owners_in tb)
  D = arrays T

  atoms_are : atoms_in tb ≡ G.n
  atoms_are = elements.atoms_are G (totals_in tb) _ _ _ _ _ _ D

  bytes : {n : ℕ} → vars_in tb ≤ n → var_count (code_sizes G) (pair_total G) ≤ n
  bytes {n} f = subst (λ (k : ℕ). k ≤ n) (elements.vars_are G (totals_in tb) _ _ _ _ _ _ D) f

  pub atom_fits : {a : ℕ} → a ≤ atoms_in tb → a ≤ 126
  atom_fits h = le_trans h (bounded D).atoms

  pub atom_in : {a v n : ℕ} → v ≡ a → 0 < a → a ≤ atoms_in tb → vars_in tb ≤ n → (0 < v) × (v ≤ n)
  atom_in {a} q p h f = atom-has (code_sizes G) (pair_total G) (bytes f) a p (omega (arith, h, atoms_are)) q

  pub from_none : (a : ℕ) → 0 < a → a ≤ atoms_in tb → {r : ℕ} → r ≡ get_or (firsts_in tb) (a - 1) 0 → Follows (heads_of G) a 0 r
  from_none a p h {r} e = first_read_lem T a r p (omega (arith, h, atoms_are)) e

  module _ (r : ℕ) (h : r ≤ length (heads_of G)) where
    in_rules : r ≤ length G.rules
    in_rules = subst (λ (n : ℕ). r ≤ n) (heads_length G) h

    pub rule_fits_lem : r ≤ 500
    rule_fits_lem = le_trans in_rules (elements.rules_fit G (totals_in tb) _ _ _ _ _ _ D)

    pub from_rule : (a : ℕ) → 0 < r → head_at (heads_of G) r ≡ a → {x : ℕ} → x ≡ get_or (links_in tb) (r - 1) 0 → Follows (heads_of G) a r x
    from_rule a p q {x} e = next_read T a r x p in_rules q e

  -- counts that were taken from the table
  module _ {t : Totals} (e : t ≡ totals_in tb) where
    module _ (founds : Bool) (r : ℕ) {y : ℕ} (q : y ≡ rule_var (t.sizes) founds r) where
      pub rule_named : y ≡ rule_var (code_sizes G) founds r
      rule_named = q ∙ ap (λ (S : Sizes). rule_var S founds r) (sizes_are (told T e))

      pub rule_in_lem : 0 < r → r ≤ length (heads_of G) → {n : ℕ} → vars_in tb ≤ n → (0 < y) × (y ≤ n)
      rule_in_lem p h {n} f = go founds rule_named
        where
          go : (founds : Bool) → y ≡ rule_var (code_sizes G) founds r → (0 < y) × (y ≤ n)
          go true u = founds_in (code_sizes G) (pair_total G) (bytes f) r p (in_rules r h) u
          go false u = body_in (code_sizes G) (pair_total G) (bytes f) r p (in_rules r h) u
