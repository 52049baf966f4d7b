-- The rules of an atom, from one to the next: a loop that begins with the first rule of an atom and goes on to the next one, to 0, meets each of its rules in order.
--   rules_before m r     how many of m rules stand before rule r, all of them where r is 0
--   before_none, before_some, before_within    for 0, for a rule, and its bound
--   Follows hs a k r     r is the first rule after rule k with the head a, 0 if there is none
--   first_follows, next_follows    the first rule of a, after none; and the next rule, after one with the head a
--   before_grows         the loop ends
--   unchanged            what changes at no rule with another head is the same before r as after rule k
-- Of a table (TableOf G tb, so also Ready tb):
--   first_rule_is, next_rule_is    what its two regions hold
--   first_read_lem, next_read      what is read there follows
-- Assumes nothing.
use Prim.Native.Nat.{ℕ, zero, suc, ◌+◌, ◌-◌, ◌≤◌, ◌<◌}
use native.Mathlib.Nat.{add-zero, add-suc, eq-or-lt_of_le}
use native.Mathlib.Omega.{arith}
use mathlib.Core.Path.{◌≡◌, refl, sym, ◌∙◌, ap, ap₂, subst}
use mathlib.Core.Bool.{Bool, true, false, cond}
use mathlib.Core.List.{List}
use mathlib.Core.Logic.{⊎_elim}
use lib.Dec.{eqb}
use lib.ListN.{length, get_or, drop, length-map}
use borrow.Author.Tests.{eqb-true}
use Rattle.lists.specs.Lists.{tab}
use Rattle.lists.proofs.Tables.{get_or_tab}
use Rattle.encoding.specs.Code.{Code, m}
use Rattle.clause_literals.proofs.Products.{one_before}
use Rattle.clause_walk.specs.Walk.{heads_of, head_at}
use Rattle.clause_tables.specs.Links.{rule_from, first_rule, next_rule}
use Rattle.clause_tables.specs.Tables.{TableOf, firsts_in, links_in}
use Rattle.clause_tables.proofs.Links.{from_nil, from_cons}
use Rattle.clause_table_laws.proofs.Elements.{get_or_pad}
use Rattle.clause_table_laws.proofs.Cells.{firsts_are, links_are}

-- ---- how many rules stand before one

abbrev pub rules_before : ℕ → ℕ → ℕ
rules_before m zero = m
rules_before m (suc r) = r

pub before_none : (m r : ℕ) → r ≡ 0 → rules_before m r ≡ m
before_none m r e = ap (rules_before m) e

pub before_some : (m r : ℕ) → 0 < r → suc (rules_before m r) ≡ r
before_some m zero h = absurd (omega (arith, h))
before_some m (suc r) h = refl

pub before_within : (m r : ℕ) → r ≤ m → rules_before m r ≤ m
before_within m zero h = omega arith
before_within m (suc r) h = omega (arith, h)

-- ---- from one rule to the next

pub record Follows (hs : List ℕ) (a k r : ℕ) : Type 0 where
  pub within : r ≤ length hs
  pub is_after : 0 < r → k < r
  pub head_is : 0 < r → head_at hs r ≡ a
  pub none_between : (i : ℕ) → k ≤ i → i < rules_before (length hs) r → eqb (head_at hs (suc i)) a ≡ false

module _ (hs : List ℕ) (a : ℕ) where
  follows_none : (k : ℕ) → length hs ≤ k → Follows hs a k 0
  follows_none k h =
      record {
        within = omega arith;
        is_after = λ p. absurd (omega (arith, p));
        head_is = λ p. absurd (omega (arith, p));
        none_between = λ i l u. absurd (omega (arith, h, l, u));
      }

  follows_here : (k : ℕ) → k < length hs → eqb (get_or hs k 0) a ≡ true → Follows hs a k (suc k)
  follows_here k h e =
      record {
        within = h;
        is_after = λ p. omega arith;
        head_is = λ p. eqb-true (get_or hs k 0) a e;
        none_between = λ i l u. absurd (omega (arith, l, u));
      }

  follows_on : (k r : ℕ) → eqb (get_or hs k 0) a ≡ false → Follows hs a (suc k) r → Follows hs a k r
  follows_on k r e f =
      record {
        within = f.within;
        is_after = λ p. omega (arith, f.is_after p);
        head_is = f.head_is;
        none_between = λ i l u.
            ⊎_elim (λ (q : k ≡ i). ap (λ (j : ℕ). eqb (get_or hs j 0) a) (sym q) ∙ e) (λ (q : k < i). f.none_between i q u) (eq-or-lt_of_le l);
      }

  from_follows : (d k : ℕ) → k + d ≡ length hs → Follows hs a k (rule_from (suc k) (drop k hs) a)
  from_follows zero k e =
      subst (λ (r : ℕ). Follows hs a k r) (sym (from_nil hs k a (omega (arith, e)))) (follows_none k (omega (arith, e)))
  from_follows (suc d) k e =
      subst (λ (r : ℕ). Follows hs a k r) (sym (from_cons hs k a (omega (arith, e)))) (go (eqb (get_or hs k 0) a) refl (from_follows d (suc k) (omega (arith, e))))
    where
      go : (b : Bool) → eqb (get_or hs k 0) a ≡ b → Follows hs a (suc k) (rule_from (suc (suc k)) (drop (suc k) hs) a)
          → Follows hs a k (cond b (suc k) (rule_from (suc (suc k)) (drop (suc k) hs) a))
      go true q f = follows_here k (omega (arith, e)) q
      go false q f = follows_on k (rule_from (suc (suc k)) (drop (suc k) hs) a) q f

  pub first_follows : Follows hs a 0 (first_rule hs a)
  first_follows = from_follows (length hs) 0 (omega arith)

  pub next_follows : (r : ℕ) → r ≤ length hs → head_at hs r ≡ a → Follows hs a r (next_rule hs r)
  next_follows r h e =
      subst (λ (b : ℕ). Follows hs a r (rule_from (suc r) (drop r hs) b)) (sym e) (from_follows (length hs - r) r (omega (arith, h)))

  pub before_grows : (r x : ℕ) → 0 < r → r ≤ length hs → Follows hs a r x → rules_before (length hs) r < rules_before (length hs) x
  before_grows zero x p h f = absurd (omega (arith, p))
  before_grows (suc r) zero p h f = h
  before_grows (suc r) (suc x) p h f = omega (arith, f.is_after (omega arith))

  module _ {A : Type 0} (F : ℕ → A) (same : (i : ℕ) → i < length hs → eqb (head_at hs (suc i)) a ≡ false → F (suc i) ≡ F i) where
    pub unchanged : (k r : ℕ) → k ≤ length hs → Follows hs a k r → F (rules_before (length hs) r) ≡ F k
    unchanged k r h f = ap F (sym (up r f)) ∙ go (rules_before (length hs) r - k) (omega (arith, up r f))
      where
        up : (r : ℕ) → Follows hs a k r → k + (rules_before (length hs) r - k) ≡ rules_before (length hs) r
        up zero f = omega (arith, h)
        up (suc r) f = omega (arith, f.is_after (omega arith))

        go : (d : ℕ) → k + d ≤ rules_before (length hs) r → F (k + d) ≡ F k
        go zero l = ap F (add-zero k)
        go (suc d) l =
            ap F (add-suc k d)
            ∙ same (k + d) (omega (arith, l, before_within (length hs) r f.within)) (f.none_between (k + d) (omega arith) (omega (arith, l)))
            ∙ go d (omega (arith, l))

-- ---- what a table holds

module _ {G : Code} {tb : List ℕ} (T : TableOf G tb) where
  pub first_rule_is : (a : ℕ) → 0 < a → a ≤ G.n → get_or (firsts_in tb) (a - 1) 0 ≡ first_rule (heads_of G) a
  first_rule_is zero p h = absurd (omega (arith, p))
  first_rule_is (suc i) p h =
      ap₂ (λ (l : List ℕ) (k : ℕ). get_or l k 0) (firsts_are T) (one_before (suc i)) ∙ get_or_pad 126 (tab G.n (first_rule (heads_of G))) i
      ∙ get_or_tab G.n (first_rule (heads_of G)) 0 i h

  pub next_rule_is : (r : ℕ) → 0 < r → r ≤ length G.rules → get_or (links_in tb) (r - 1) 0 ≡ next_rule (heads_of G) r
  next_rule_is zero p h = absurd (omega (arith, p))
  next_rule_is (suc i) p h =
      ap₂ (λ (l : List ℕ) (k : ℕ). get_or l k 0) (links_are T) (one_before (suc i)) ∙ get_or_pad 500 (tab (m G) (next_rule (heads_of G))) i
      ∙ get_or_tab (m G) (next_rule (heads_of G)) 0 i h

  pub first_read_lem : (a r : ℕ) → 0 < a → a ≤ G.n → r ≡ get_or (firsts_in tb) (a - 1) 0 → Follows (heads_of G) a 0 r
  first_read_lem a r p h e = subst (λ (x : ℕ). Follows (heads_of G) a 0 x) (sym (e ∙ first_rule_is a p h)) (first_follows (heads_of G) a)

  pub next_read : (a r x : ℕ) → 0 < r → r ≤ length G.rules → head_at (heads_of G) r ≡ a → x ≡ get_or (links_in tb) (r - 1) 0 → Follows (heads_of G) a r x
  next_read a r x p h q e =
      subst (λ (x : ℕ). Follows (heads_of G) a r x) (sym (e ∙ next_rule_is r p h))
      (next_follows (heads_of G) a r (omega (arith, h, length-map {B = ℕ} G.rules (λ R. R.head))) q)
