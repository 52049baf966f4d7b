-- The events of a text stand in it one after the other, so the first breach in text order is the one with the smallest spot and, at one
-- spot, the smallest row. The computed rows are the breaches.
-- Assumes nothing.
use Prim.Native.Nat.{ℕ, zero, suc, ◌+◌, ◌≤◌, ◌<◌, zero-le, suc-le-suc}
use native.Mathlib.Nat.{not-suc-le-zero, le_of_suc-le-suc, le_trans, le_refl, le_of_lt, le_of_eq, add-zero, suc-ne-zero}
use native.Mathlib.Omega.{arith}
use mathlib.Core.Path.{◌≡◌, refl, sym, ◌∙◌, ap, subst}
use mathlib.Core.Logic.{◌⊎◌, inl, inr, ⊎_elim}
use mathlib.Core.Bool.{Bool, true, false, ◌&&◌, So, false≢true, or-false}
use mathlib.Core.List.{List, [], ◌∷◌, ◌++◌, map}
use lib.Dec.{ltb, leb, eqb}
use lib.ListN.{length, length-append, get_or}
use borrow.Author.Tests.{ltb-true, lt-ltb, eqb-true, eq-eqb, leb-true, le-leb}
use Rattle.lists.specs.Lists.{all, any}
use Rattle.lists.proofs.Bools.{and_left, or_left, or_right, or_cases}
use Rattle.lists.proofs.Tests.{any_append, any_at, all_at}
use Rattle.lists.proofs.Cons.{cons_head}
use Rattle.meaning.specs.Program.{Rule, Program}
use Rattle.text.specs.Decimal.{decimal}
use Rattle.text.specs.Text.{more_text, list_text}
use Rattle.reader_laws.specs.Judge.{positive_spot, negative_spot, rule_end}
use Rattle.reader_laws.specs.Breach.{Event, atoms_read, rule_opened, head_read, body_read, spot_of, more_events, list_events, rule_events, rules_events, events, Breached, too_many_atoms, unknown_head, unknown_atom, unordered, too_many_rules, bodies_full, no_event, unknown, not_above, when_met, rows_of, Hit, hits_in}
use Rattle.reader_laws.proofs.Unique.{decimal_some}

-- ---- spots ascend

-- the spots of the events ascend strictly from lo on and lie below hi
pub data Span : ℕ → List Event → ℕ → Type 0 where
  none : {lo hi : ℕ} → lo ≤ hi → Span lo [] hi
  next : {lo hi : ℕ} {e : Event} {es : List Event} → lo ≤ spot_of e → Span (suc (spot_of e)) es hi → Span lo (e ∷ es) hi

span_lower : {lo l hi : ℕ} {es : List Event} → l ≤ lo → Span lo es hi → Span l es hi
span_lower h (none k) = none (le_trans h k)
span_lower h (next k s) = next (le_trans h k) s

span_append : {a b c : ℕ} {xs ys : List Event} → Span a xs b → Span b ys c → Span a (xs ++ ys) c
span_append (none k) t = span_lower k t
span_append (next k s) t = next k (span_append s t)

span_raise : {lo hi top : ℕ} {es : List Event} → hi ≤ top → Span lo es hi → Span lo es top
span_raise h (none k) = none (le_trans k h)
span_raise h (next k s) = next k (span_raise h s)

span_more : (xs : List ℕ) (y g j : ℕ) → Span (g + 1) (more_events xs y g j) (g + length (more_text xs) + 1)
span_more [] y g j = none (le_of_eq (ap (λ (x : ℕ). x + 1) (sym (add-zero g))))
span_more (x ∷ xs) y g j =
    let a : suc (g + 1) ≤ g + 1 + length (decimal x) + 1 = omega (arith, decimal_some x) in
    let b : g + 1 + length (decimal x) + length (more_text xs) + 1 ≤ g + length (more_text (x ∷ xs)) + 1 = omega (arith, length-append (decimal x) (more_text xs)) in
    next {e = body_read x (g + 1) (y ∷ []) j} (le_refl (g + 1)) (span_lower a (span_raise b (span_more xs x (g + 1 + length (decimal x)) (j + 1))))

span_list : (xs : List ℕ) (g j : ℕ) → Span g (list_events xs g j) (g + length (list_text xs) + 1)
span_list [] g j = let a : g ≤ g + 0 + 1 = omega arith in none a
span_list (x ∷ xs) g j =
    let a : suc g ≤ g + length (decimal x) + 1 = omega (arith, decimal_some x) in
    let b : g + length (decimal x) + length (more_text xs) + 1 ≤ g + length (list_text (x ∷ xs)) + 1 = omega (arith, length-append (decimal x) (more_text xs)) in
    next {e = body_read x g [] j} (le_refl g) (span_lower a (span_raise b (span_more xs x (g + length (decimal x)) (j + 1))))

span_rule : (R : Rule) (i g j : ℕ) → Span g (rule_events R i g j) (rule_end R g)
span_rule R i g j =
    let a : suc g ≤ g + 6 = omega arith in
    let b : suc (g + 6) ≤ positive_spot R g = omega arith in
    let c : positive_spot R g + length (list_text R.positive) + 1 ≤ negative_spot R g = omega arith in
    let d : negative_spot R g + length (list_text R.negative) + 1 ≤ rule_end R g = omega arith in
    next {e = rule_opened i g} (le_refl g) (next {e = head_read R.head (g + 6)} a
    (span_lower b (span_append (span_raise c (span_list R.positive (positive_spot R g) j)) (span_raise d (span_list R.negative (negative_spot R g) (j + length R.positive))))))

span_rules : (rs : List Rule) (i g j : ℕ) → (hi : ℕ) × Span g (rules_events rs i g j) hi
span_rules [] i g j = (g, none (le_refl g))
span_rules (R ∷ rs) i g j = let q = span_rules rs (i + 1) (rule_end R g) (j + length R.positive + length R.negative) in (q.0, span_append (span_rule R i g j) q.1)

pub span_events : (P : Program) → (hi : ℕ) × Span 7 (events P) hi
unfolding events
span_events P =
    let q = span_rules P.rules 0 (7 + length (decimal P.atoms) + 2) 0 in
    let a : 8 ≤ 7 + length (decimal P.atoms) + 2 = omega arith in
    (q.0, next {e = atoms_read P.atoms 7} (le_refl 7) (span_lower a q.1))

-- ---- the first hit

-- a row is no later than another at the same spot, or at a smaller spot
pub data Before : Hit → ℕ → ℕ → Type 0 where
  nearer : {h : Hit} {k s : ℕ} → h.spot < s → Before h k s
  same : {h : Hit} {k s : ℕ} → h.spot ≡ s → h.row ≤ k → Before h k s

-- k is a row of e
abbrev pub Meets : ℕ → Event → ℕ → Type 0
Meets N e k = So (any (eqb k) (rows_of N e))

-- the rows of an event ascend
abbrev sorted : List ℕ → Bool
sorted [] = true
sorted (x ∷ xs) = all (leb x) xs && sorted xs

rows_sorted : (N : ℕ) (e : Event) → So (sorted (rows_of N e))
rows_sorted N (atoms_read x s) = go (ltb 126 x)
  where
    go : (b : Bool) → So (sorted (when_met b 3))
    go true = refl
    go false = refl
rows_sorted N (rule_opened i s) = go (eqb i 500)
  where
    go : (b : Bool) → So (sorted (when_met b 6))
    go true = refl
    go false = refl
rows_sorted N (head_read x s) = go (unknown N x)
  where
    go : (b : Bool) → So (sorted (when_met b 4))
    go true = refl
    go false = refl
rows_sorted N (body_read x s ys j) = go (unknown N x) (not_above x ys) (eqb j 500)
  where
    go : (a b c : Bool) → So (sorted (when_met a 4 ++ (when_met b 5 ++ when_met c 7)))
    go true true true = refl
    go true true false = refl
    go true false true = refl
    go true false false = refl
    go false true true = refl
    go false true false = refl
    go false false true = refl
    go false false false = refl

-- what holds of every element of a list holds of each that is in it
member_all : (p : ℕ → Bool) (xs : List ℕ) (k : ℕ) → So (all p xs) → So (any (eqb k) xs) → So (p k)
member_all p xs k a m =
    let q = any_at (eqb k) xs 0 m in
    subst (λ (x : ℕ). So (p x)) (sym (eqb-true k (get_or xs q.0 0) q.2)) (all_at p xs 0 a q.0 q.1)

rows_first : (xs : List ℕ) (a : ℕ) (rest : List ℕ) → So (sorted xs) → xs ≡ a ∷ rest → (k : ℕ) → So (any (eqb k) xs) → a ≤ k
rows_first xs a rest t p k m = go (or_cases (eqb k a) (any (eqb k) rest) (subst (λ (ys : List ℕ). So (any (eqb k) ys)) p m))
  where
    go : So (eqb k a) ⊎ So (any (eqb k) rest) → a ≤ k
    go (inl e) = le_of_eq (sym (eqb-true k a e))
    go (inr e) = leb-true a k (member_all (leb a) rest k (and_left (all (leb a) rest) (sorted rest) (subst (λ (ys : List ℕ). So (sorted ys)) p t)) e)

span_above : {lo hi : ℕ} {es : List Event} → Span lo es hi → (j : ℕ) → j < length es → lo ≤ spot_of (get_or es j no_event)
span_above (none k) j h = absurd (not-suc-le-zero h)
span_above (next k s) zero h = k
span_above (next {e = e} k s) (suc j) h = le_trans k (le_trans (le_of_lt (le_refl (suc (spot_of e)))) (span_above s j (le_of_suc-le-suc h)))

pub first_hit : (N : ℕ) (es : List Event) {lo hi : ℕ} → Span lo es hi → (h : Hit) (rest : List Hit) → hits_in N es ≡ h ∷ rest
    → (j : ℕ) → j < length es → (k : ℕ) → Meets N (get_or es j no_event) k → Before h k (spot_of (get_or es j no_event))
first_hit N [] s h rest e j l k m = absurd (not-suc-le-zero l)
first_hit N (x ∷ es) (next q s) h rest e j l k m = go (rows_of N x) refl e j l m (first_hit N es s h rest)
  where
    go : (rs : List ℕ) → rows_of N x ≡ rs → map (λ k. record { row = k; spot = spot_of x }) rs ++ hits_in N es ≡ h ∷ rest
        → (j : ℕ) → j < suc (length es) → Meets N (get_or (x ∷ es) j no_event) k
        → (hits_in N es ≡ h ∷ rest → (j : ℕ) → j < length es → (k : ℕ) → Meets N (get_or es j no_event) k → Before h k (spot_of (get_or es j no_event)))
        → Before h k (spot_of (get_or (x ∷ es) j no_event))
    go [] p e zero l m ih = absurd (false≢true (subst (λ (ys : List ℕ). So (any (eqb k) ys)) p m))
    go [] p e (suc j) l m ih = ih e j (le_of_suc-le-suc l) k m
    go (a ∷ rs) p e zero l m ih =
        same (ap (λ (z : Hit). z.spot) (sym (cons_head e))) (subst (λ (y : ℕ). y ≤ k) (ap (λ (z : Hit). z.row) (cons_head e)) (rows_first (rows_of N x) a rs (rows_sorted N x) p k m))
    go (a ∷ rs) p e (suc j) l m ih =
        nearer (subst (λ (y : ℕ). y < spot_of (get_or es j no_event)) (ap (λ (z : Hit). z.spot) (cons_head e)) (span_above s j (le_of_suc-le-suc l)))

-- the first hit is that of some event
pub hit_event : (N : ℕ) (es : List Event) (h : Hit) (rest : List Hit) → hits_in N es ≡ h ∷ rest
    → (j : ℕ) × (j < length es) × Meets N (get_or es j no_event) h.row × (spot_of (get_or es j no_event) ≡ h.spot)
hit_event N [] h rest e = absurd (suc-ne-zero (length rest) (sym (ap length e)))
hit_event N (x ∷ es) h rest e = go (rows_of N x) refl e (hit_event N es h rest)
  where
    go : (rs : List ℕ) → rows_of N x ≡ rs → map (λ k. record { row = k; spot = spot_of x }) rs ++ hits_in N es ≡ h ∷ rest
        → (hits_in N es ≡ h ∷ rest → (j : ℕ) × (j < length es) × Meets N (get_or es j no_event) h.row × (spot_of (get_or es j no_event) ≡ h.spot))
        → (j : ℕ) × (j < suc (length es)) × Meets N (get_or (x ∷ es) j no_event) h.row × (spot_of (get_or (x ∷ es) j no_event) ≡ h.spot)
    go [] p e ih = let q = ih e in (suc q.0, suc-le-suc q.1, q.2, q.3)
    go (a ∷ rs) p e ih = (
      0,
      suc-le-suc zero-le,
      subst (λ (ys : List ℕ). So (any (eqb h.row) ys)) (sym p) (or_left (eqb h.row a) (any (eqb h.row) rs) (eq-eqb h.row a (sym (ap (λ (z : Hit). z.row) (cons_head e))))),
      ap (λ (z : Hit). z.spot) (cons_head e),
    )

-- where there is no hit, no event meets a row
pub no_hit : (N : ℕ) (es : List Event) → hits_in N es ≡ [] → (j : ℕ) → j < length es → (k : ℕ) → Meets N (get_or es j no_event) k → ⊥
no_hit N [] e j l k m = not-suc-le-zero l
no_hit N (x ∷ es) e j l k m = go (rows_of N x) refl e j l m (no_hit N es)
  where
    go : (rs : List ℕ) → rows_of N x ≡ rs → map {B = Hit} (λ k. record { row = k; spot = spot_of x }) rs ++ hits_in N es ≡ [] → (j : ℕ) → j < suc (length es)
        → Meets N (get_or (x ∷ es) j no_event) k → (hits_in N es ≡ [] → (j : ℕ) → j < length es → (k : ℕ) → Meets N (get_or es j no_event) k → ⊥) → ⊥
    go [] p e zero l m ih = false≢true (subst (λ (ys : List ℕ). So (any (eqb k) ys)) p m)
    go [] p e (suc j) l m ih = ih e j (le_of_suc-le-suc l) k m
    go (a ∷ rs) p e j l m ih = suc-ne-zero _ (ap length e)

-- ---- the computed rows are the breaches

unknown_true : (N x : ℕ) → (x ≡ 0) ⊎ (N < x) → unknown N x ≡ true
unknown_true N x (inl e) = or_left (eqb x 0) (ltb N x) (eq-eqb x 0 e)
unknown_true N x (inr h) = or_right (eqb x 0) (ltb N x) (lt-ltb N x h)

unknown_cases : (N x : ℕ) → So (unknown N x) → (x ≡ 0) ⊎ (N < x)
unknown_cases N x t = ⊎_elim (λ e. inl (eqb-true x 0 e)) (λ e. inr (ltb-true N x e)) (or_cases (eqb x 0) (ltb N x) t)

pub breached_meets : (N : ℕ) (e : Event) (k : ℕ) → Breached N e k → Meets N e k
breached_meets N e k (too_many_atoms {x = x} h) = rw (lt-ltb 126 x h)
breached_meets N e k (unknown_head {x = x} h) = rw (unknown_true N x h)
breached_meets N e k (unknown_atom {x = x} {ys = ys} {j = j} h) = rw (unknown_true N x h)
breached_meets N e k (unordered {x = x} {y = y} {j = j} h) = rw (le-leb x y h) (go (unknown N x) (eqb j 500))
  where
    go : (a d : Bool) → So (any (eqb 5) (when_met a 4 ++ (5 ∷ when_met d 7)))
    go true d = refl
    go false d = refl
breached_meets N e k (too_many_rules {s = s}) = refl
breached_meets N e k (bodies_full {x = x} {ys = ys}) = go (unknown N x) (not_above x ys)
  where
    go : (a b : Bool) → So (any (eqb 7) (when_met a 4 ++ (when_met b 5 ++ (7 ∷ []))))
    go true true = refl
    go true false = refl
    go false true = refl
    go false false = refl

one_row : (b : Bool) (r k : ℕ) → So (any (eqb k) (when_met b r)) → So b × (k ≡ r)
one_row true r k m = (refl, eqb-true k r (sym (or-false (eqb k r)) ∙ m))
one_row false r k m = absurd (false≢true m)

pub meets_breached : (N : ℕ) (e : Event) (k : ℕ) → Meets N e k → Breached N e k
meets_breached N (atoms_read x s) k m = let q = one_row (ltb 126 x) 3 k m in subst (Breached N (atoms_read x s)) (sym q.1) (too_many_atoms (ltb-true 126 x q.0))
meets_breached N (rule_opened i s) k m =
    let q = one_row (eqb i 500) 6 k m in
    subst (Breached N (rule_opened i s)) (sym q.1) (subst (λ (z : ℕ). Breached N (rule_opened z s) 6) (sym (eqb-true i 500 q.0)) too_many_rules)
meets_breached N (head_read x s) k m = let q = one_row (unknown N x) 4 k m in subst (Breached N (head_read x s)) (sym q.1) (unknown_head (unknown_cases N x q.0))
meets_breached N (body_read x s ys j) k m =
    go (or_cases (any (eqb k) (when_met (unknown N x) 4)) _ (sym (any_append (eqb k) (when_met (unknown N x) 4) (when_met (not_above x ys) 5 ++ when_met (eqb j 500) 7)) ∙ m))
  where
    order : (ys : List ℕ) → So (not_above x ys) → Breached N (body_read x s ys j) 5
    order [] t = absurd (false≢true t)
    order (y ∷ ys) t = unordered (leb-true x y t)

    last : So (any (eqb k) (when_met (not_above x ys) 5)) ⊎ So (any (eqb k) (when_met (eqb j 500) 7)) → Breached N (body_read x s ys j) k
    last (inl t) = let q = one_row (not_above x ys) 5 k t in subst (Breached N (body_read x s ys j)) (sym q.1) (order ys q.0)
    last (inr t) =
        let q = one_row (eqb j 500) 7 k t in
        subst (Breached N (body_read x s ys j)) (sym q.1) (subst (λ (z : ℕ). Breached N (body_read x s ys z) 7) (sym (eqb-true j 500 q.0)) bodies_full)

    go : So (any (eqb k) (when_met (unknown N x) 4)) ⊎ So (any (eqb k) (when_met (not_above x ys) 5 ++ when_met (eqb j 500) 7)) → Breached N (body_read x s ys j) k
    go (inl t) = let q = one_row (unknown N x) 4 k t in subst (Breached N (body_read x s ys j)) (sym q.1) (unknown_atom (unknown_cases N x q.0))
    go (inr t) = last (or_cases (any (eqb k) (when_met (not_above x ys) 5)) _ (sym (any_append (eqb k) (when_met (not_above x ys) 5) (when_met (eqb j 500) 7)) ∙ t))
