-- The two lists of a rule as parts of the array of body atoms, and what code asks of them.
--   set_is, none_is, all_is          of atoms alone, a set is its bytes
--   Part bs x y l                    from x to y the array holds the list l
-- Of rule r of a code in its tables (Tabled G ..):
--   rule_fits_lem                    it is one of 500
--   list_part                        its two lists
--   rule_atoms                       its atoms are atoms
--   list_asked, head_fits            and have bytes where n bytes are there
--   its_head_is                      its head
-- Of a rule alone:
--   enters_not_kept, enters_is       its tests in a round, one after the other
-- Assumes nothing.
use Prim.Native.Nat.{ℕ, zero, suc, pred, ◌+◌, ◌-◌, ◌*◌, ◌≤◌, ◌<◌}
use native.Mathlib.Nat.{le_trans, add-zero, not-suc-le-zero}
use native.Mathlib.Omega.{arith}
use mathlib.Core.Path.{◌≡◌, refl, sym, ◌∙◌, ap, subst}
use mathlib.Core.Bool.{Bool, true, false, not, ◌&&◌, So, false≢true}
use mathlib.Core.List.{List, ◌++◌}
use lib.ListN.{length, get_or, take, drop}
use lib.Seq.{take-take, take-add, drop-drop, take_at, drop_at}
use Rattle.encoding.specs.Code.{Code}
use Rattle.lists.specs.Lists.{all}
use Rattle.lists.proofs.Tests.{all_at, all_in, all_ext}
use Rattle.meaning.specs.Program.{Rule, rule_at, is_atom, none_in}
use Rattle.theory.proofs.Atoms.{RuleIn, rule_in_lem, atom_pos, atom_le, is_atom_lem}
use Rattle.truth_literals.specs.Values.{value_in}
use Rattle.clause_tables.specs.declared.Totals.{Totals}
use Rattle.clause_tables.specs.Tables.{Tabled}
use Rattle.clause_walk.proofs.Tabs.{head_is as its_head}
use Rattle.clause_table_laws.proofs.Elements.{Listed, start_first, rules_are, rules_fit, atoms_are, head_is, all_fit_lem}
use Rattle.level_lists.specs.Bytes.{set_in, is_within, list_of, is_below, enters}
use Rattle.level_lists.proofs.Lists.{is_below_within}

-- ---- parts of a list

pub record Part (bs : List ℕ) (x y : ℕ) (l : List ℕ) : Type 0 where
  pub up : x ≤ y
  pub short : y ≤ 500
  pub list_is : take (y - x) (drop x bs) ≡ l

part_at : {bs l : List ℕ} {u v : ℕ} → Part bs u v l → {x y : ℕ} → x ≡ u → y ≡ v → Part bs x y l
part_at {bs} {l} {u} {v} q {x} {y} e f = subst (λ (a : ℕ). Part bs a y l) (sym e) (subst (λ (b : ℕ). Part bs u b l) (sym f) q)

front_is : (l p q : List ℕ) (i j : ℕ) → i ≤ j → take j l ≡ p ++ q → i ≡ length p → take i l ≡ p
front_is l p q i j h e f = sym (take-take i j l h) ∙ ap (take i) e ∙ take_at p q i (sym f)

back_is : (l p q : List ℕ) (i j : ℕ) → take (i + j) l ≡ p ++ q → take i l ≡ p → i ≡ length p → take j (drop i l) ≡ q
back_is l p q i j e f g =
    sym (drop_at p (take j (drop i l)) i (sym g))
    ∙ ap (drop i) (ap (λ (x : List ℕ). x ++ take j (drop i l)) (sym f) ∙ sym (take-add i j l) ∙ e)
    ∙ drop_at p q i (sym g)

-- of three places in a row
module _ (bs p q : List ℕ) (x y z : ℕ) (up : x ≤ y) (upper : y ≤ z) (short : z ≤ 500)
    (count : y - x ≡ length p) (whole : take (z - x) (drop x bs) ≡ p ++ q) where
  first_part : Part bs x y p
  first_part =
      record {
        up = up;
        short = le_trans upper short;
        list_is = front_is (drop x bs) p q (y - x) (z - x) (omega (arith, upper)) whole count;
      }

  second_part : Part bs y z q
  second_part =
      record {
        up = upper;
        short = short;
        list_is =
            ap (take (z - y)) (ap (λ (k : ℕ). drop k bs) (there x y up) ∙ sym (drop-drop (y - x) x bs))
            ∙ back_is (drop x bs) p q (y - x) (z - y) (ap (λ (k : ℕ). take k (drop x bs)) (steps x y z up upper) ∙ whole) first_part.list_is count;
      }
    where
      there : (x y : ℕ) → x ≤ y → y ≡ x + (y - x)
      there x y h = omega arith

      steps : (x y z : ℕ) → x ≤ y → y ≤ z → (y - x) + (z - y) ≡ z - x
      steps x y z h k = omega arith

all_wider : (n m : ℕ) (xs : List ℕ) → n ≤ m → So (all (is_atom n) xs) → So (all (is_atom m) xs)
all_wider n m xs h t =
    all_in (is_atom m) xs 0
    (λ j k. let u = all_at (is_atom n) xs 0 t j k in is_atom_lem m (get_or xs j 0) (atom_pos n (get_or xs j 0) u) (le_trans (atom_le n (get_or xs j 0) u) h))

-- ---- sets of atoms

and_true : (a b : Bool) → So a → b ≡ (a && b)
and_true true b t = refl
and_true false b t = absurd (false≢true t)

pub set_is : (n : ℕ) (s : List ℕ) (a : ℕ) → So (is_atom n a) → value_in s a ≡ set_in n s a
set_is n s a t = and_true (is_atom n a) (value_in s a) t

pub none_is : (n : ℕ) (s xs : List ℕ) → So (all (is_atom n) xs) → none_in (value_in s) xs ≡ none_in (set_in n s) xs
none_is n s xs t = all_ext (λ c. not (value_in s c)) (λ c. not (set_in n s c)) xs 0 (λ j h. ap not (set_is n s (get_or xs j 0) (all_at (is_atom n) xs 0 t j h)))

pub all_is : (n : ℕ) (s xs : List ℕ) → So (all (is_atom n) xs) → all (value_in s) xs ≡ all (set_in n s) xs
all_is n s xs t = all_ext (value_in s) (set_in n s) xs 0 (λ j h. set_is n s (get_or xs j 0) (all_at (is_atom n) xs 0 t j h))

-- ---- of the tables

module _ {G : Code} {t : Totals} {hs ss bs ks xs ys : List ℕ} (T : Tabled G t hs ss bs ks xs ys) (r : ℕ) (p : 0 < r) (h : r ≤ t.sizes.m) where
  inside : r ≤ length G.rules
  inside = subst (λ (m : ℕ). r ≤ m) (rules_are G t hs ss bs ks xs ys T) h

  listed : Listed G ss bs r (r - 1)
  listed = start_first G t hs ss bs ks xs ys T r p inside

  pub rule_fits_lem : r ≤ 500
  rule_fits_lem = le_trans inside (rules_fit G t hs ss bs ks xs ys T)

  positive_part : {x y : ℕ} → x ≡ get_or ss (2 * (r - 1) + 0) 0 → y ≡ get_or ss (2 * (r - 1) + 1) 0 → Part bs x y (rule_at G.rules r).positive
  positive_part e f =
      part_at
      (first_part bs (rule_at G.rules r).positive (rule_at G.rules r).negative _ _ _ listed.first_up listed.second_up listed.end_fits
      listed.positives_are listed.body_are)
      (e ∙ ap (λ (k : ℕ). get_or ss k 0) (add-zero (2 * (r - 1)))) f

  negative_part : {x y : ℕ} → x ≡ get_or ss (2 * (r - 1) + 1) 0 → y ≡ get_or ss (2 * (r - 1) + 2) 0 → Part bs x y (rule_at G.rules r).negative
  negative_part =
      part_at
      (second_part bs (rule_at G.rules r).positive (rule_at G.rules r).negative _ _ _ listed.first_up listed.second_up listed.end_fits
      listed.positives_are listed.body_are)

  pub rule_atoms : RuleIn t.sizes.n (rule_at G.rules r)
  rule_atoms =
      subst (λ (n : ℕ). RuleIn n (rule_at G.rules r)) (sym (atoms_are G t hs ss bs ks xs ys T))
      (rule_in_lem G.n G.rules (all_fit_lem G T.limits) (pred r) (before_it r p inside))
    where
      before_it : (r : ℕ) {m : ℕ} → 0 < r → r ≤ m → pred r < m
      before_it zero l k = absurd (not-suc-le-zero l)
      before_it (suc r) l k = k

  -- list k of the rule, and its atoms have bytes
  pub list_part : (k : ℕ) → k ≤ 1 → {x y : ℕ} → x ≡ get_or ss (2 * (r - 1) + k) 0 → y ≡ get_or ss (2 * (r - 1) + (k + 1)) 0
      → Part bs x y (list_of (rule_at G.rules r) k)
  list_part zero l e f = positive_part e f
  list_part (suc zero) l e f = negative_part e f
  list_part (suc (suc k)) l e f = absurd (omega (arith, l))

  pub list_asked : (k : ℕ) → k ≤ 1 → (b : List ℕ) {l : List ℕ} → t.sizes.n ≤ length b → l ≡ list_of (rule_at G.rules r) k → So (all (is_atom (length b)) l)
  list_asked k h b {l} m e =
      subst (λ (l : List ℕ). So (all (is_atom (length b)) l)) (sym e) (all_wider t.sizes.n (length b) (list_of (rule_at G.rules r) k) m (go k h))
    where
      go : (k : ℕ) → k ≤ 1 → So (all (is_atom t.sizes.n) (list_of (rule_at G.rules r) k))
      go zero h = rule_atoms.positive_in
      go (suc zero) h = rule_atoms.negative_in
      go (suc (suc k)) h = absurd (omega (arith, h))

  pub its_head_is : {a : ℕ} → a ≡ get_or hs (r - 1) 0 → a ≡ (rule_at G.rules r).head
  its_head_is e = e ∙ head_is G t hs ss bs ks xs ys T r p inside ∙ its_head G.rules r

  pub head_fits : (b : List ℕ) {a : ℕ} → t.sizes.n ≤ length b → a ≡ get_or hs (r - 1) 0 → (0 < a) × (a ≤ length b)
  head_fits b {a} k e =
      let u = subst (λ (x : ℕ). So (is_atom t.sizes.n x)) (sym (its_head_is e)) rule_atoms.head_in in
      (atom_pos t.sizes.n a u, le_trans (atom_le t.sizes.n a u) k)

-- ---- the tests of a rule, one after the other: set bytes s, level bytes ls

module _ {n : ℕ} {R : Rule} (I : RuleIn n R) (s ls : List ℕ) (i : ℕ) {u : Bool}
    (e : u ≡ none_in (value_in s) R.negative) where
  kept : {b : Bool} → u ≡ b → none_in (set_in n s) R.negative ≡ b
  kept z = sym (none_is n s R.negative I.negative_in) ∙ sym e ∙ z

  pub enters_not_kept : u ≡ false → false ≡ enters (set_in n s) ls i R
  enters_not_kept z = sym (ap (λ (b : Bool). b && all (is_below ls i) R.positive) (kept z))

  pub enters_is : {x : Bool} → u ≡ true → x ≡ all (is_within ls 1 i) R.positive → x ≡ enters (set_in n s) ls i R
  enters_is z g = g ∙ is_below_within ls R.positive i ∙ sym (ap (λ (b : Bool). b && all (is_below ls i) R.positive) (kept z))
