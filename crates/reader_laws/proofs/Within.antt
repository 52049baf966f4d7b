-- A program has no breach exactly if it is within the limits. Lemmas `..-in` say what follows from no hit, `..-out` the other way.
-- Assumes nothing.
use Prim.Native.Nat.{ℕ, ◌+◌, ◌≤◌, ◌<◌}
use native.Mathlib.Nat.{suc-ne-zero}
use native.Mathlib.Omega.{arith}
use mathlib.Core.Path.{◌≡◌, refl, sym, ◌∙◌, ap, ap₂}
use mathlib.Core.Logic.{◌⊎◌, inl, inr, ⊎_elim}
use mathlib.Core.Bool.{Bool, true, false, not, So}
use mathlib.Core.List.{List, [], ◌∷◌, ◌++◌, map}
use lib.Dec.{ltb, leb, eqb}
use lib.ListN.{length, length-append}
use borrow.Author.Tests.{not-false, ltb-true, ltb-false, lt-ltb, le-ltb, eqb-false, eq-eqb, ne_eqb, leb-false, le-leb, lt-leb}
use Rattle.lists.specs.Lists.{all}
use Rattle.lists.proofs.Bools.{and_in, and_left, and_right}
use Rattle.lists.proofs.Tests.{le_or_lt}
use Rattle.meaning.specs.Program.{Rule, Program, is_atom, rule_fits, well_formed}
use Rattle.text.specs.Decimal.{decimal}
use Rattle.reader_laws.specs.Judge.{positive_spot}
use Rattle.reader_laws.specs.Breach.{Event, atoms_read, rule_opened, head_read, body_read, more_events, list_events, rule_events, rules_events, events, unknown, not_above, when_met, Hit, hits_of, hits_in, hits}
use Rattle.text.specs.Limits.{bodies_of}
use Rattle.text.specs.Limits.{ascends, rule_ascends, Limits}
use Rattle.reader_laws.proofs.Outcomes.{below, nil_left, nil_right, hits_append}

-- ---- one event

not_known : (N x : ℕ) → unknown N x ≡ not (is_atom N x)
not_known N x =
    ⊎_elim (λ (l : x ≤ 0). rw (eq-eqb x 0 (omega arith), le-ltb 0 x l))
    (λ (l : 0 < x). rw (ne_eqb x 0 (λ e. omega arith), lt-ltb 0 x l) (above (le_or_lt x N))) (le_or_lt x 0)
  where
    above : (x ≤ N) ⊎ (N < x) → ltb N x ≡ not (leb x N)
    above (inl l) = rw (le-ltb N x l, le-leb x N l)
    above (inr l) = rw (lt-ltb N x l, lt-leb x N l)

-- where there is no hit the tests fail: one test, and the three of a body atom
one_in : (b : Bool) (k s : ℕ) → map {B = Hit} (λ k. record { row = k; spot = s }) (when_met b k) ≡ [] → b ≡ false
one_in true k s e = absurd (suc-ne-zero _ (ap length e))
one_in false k s e = refl

three_in : (a b c : Bool) (s : ℕ) → map {B = Hit} (λ k. record { row = k; spot = s }) (when_met a 4 ++ (when_met b 5 ++ when_met c 7)) ≡ [] → (a ≡ false) × (b ≡ false) × (c ≡ false)
three_in true b c s e = absurd (suc-ne-zero _ (ap length e))
three_in false true c s e = absurd (suc-ne-zero _ (ap length e))
three_in false false c s e = (refl, refl, one_in c 7 s e)

module _ (N : ℕ) where
  known_in : (x : ℕ) → unknown N x ≡ false → So (is_atom N x)
  known_in x e = not-false (is_atom N x) (sym (not_known N x) ∙ e)

  known_out : (x : ℕ) → So (is_atom N x) → unknown N x ≡ false
  known_out x t = not_known N x ∙ ap not t

  -- a body atom has no hit exactly if it is an atom, above its neighbour, and there is room
  body_in : (x s : ℕ) (ys : List ℕ) (j : ℕ) → j ≤ 500 → hits_of N (body_read x s ys j) ≡ [] → So (is_atom N x) × (not_above x ys ≡ false) × (j < 500)
  body_in x s ys j h e = let q = three_in (unknown N x) (not_above x ys) (eqb j 500) s e in (known_in x q.0, q.1, below h (eqb-false j 500 q.2))

  body_out : (x s : ℕ) (ys : List ℕ) (j : ℕ) → So (is_atom N x) → not_above x ys ≡ false → j < 500 → hits_of N (body_read x s ys j) ≡ []
  body_out x s ys j t n h = rw (known_out x t, n, ne_eqb j 500 (λ e. omega arith))

  -- ---- lists

  -- the limits of a list with j body atoms before it
  record Fit (j : ℕ) (xs : List ℕ) : Type 0 where
    known : So (all (is_atom N) xs)
    rises : So (ascends xs)
    room : j + length xs ≤ 500

  -- x, after its neighbour if it has one, and the numbers xs after x
  chain_in : (xs : List ℕ) (x s : ℕ) (ys : List ℕ) (j : ℕ) → j ≤ 500
      → hits_of N (body_read x s ys j) ++ hits_in N (more_events xs x (s + length (decimal x)) (j + 1)) ≡ [] → Fit j (x ∷ xs) × (not_above x ys ≡ false)
  chain_in [] x s ys j h e =
      let b = body_in x s ys j h (nil_left _ _ e) in
      (record { known = and_in b.0 refl; rises = refl; room = omega (arith, b.2) }, b.1)
  chain_in (z ∷ zs) x s ys j h e =
      let b = body_in x s ys j h (nil_left _ _ e) in
      let q = chain_in zs z _ (x ∷ []) (j + 1) (omega (arith, b.2)) (nil_right (hits_of N (body_read x s ys j)) _ e) in
      (record { known = and_in b.0 q.0.known; rises = and_in (lt-ltb x z (leb-false z x q.1)) q.0.rises; room = omega (arith, q.0.room) }, b.1)

  chain_out : (xs : List ℕ) (x s : ℕ) (ys : List ℕ) (j : ℕ) → Fit j (x ∷ xs) → not_above x ys ≡ false
      → hits_of N (body_read x s ys j) ++ hits_in N (more_events xs x (s + length (decimal x)) (j + 1)) ≡ []
  chain_out [] x s ys j f n = rw (body_out x s ys j (and_left _ _ f.known) n (omega (arith, f.room)))
  chain_out (z ∷ zs) x s ys j f n =
      rw (body_out x s ys j (and_left _ _ f.known) n (omega (arith, f.room)))
      (chain_out zs z _ (x ∷ []) (j + 1)
      (record { known = and_right (is_atom N x) _ f.known; rises = and_right (ltb x z) _ f.rises; room = omega (arith, f.room) })
      (lt-leb z x (ltb-true x z (and_left _ _ f.rises))))

  list_in_lem : (xs : List ℕ) (g j : ℕ) → j ≤ 500 → hits_in N (list_events xs g j) ≡ [] → Fit j xs
  list_in_lem [] g j h e = record { known = refl; rises = refl; room = omega arith }
  list_in_lem (x ∷ xs) g j h e = (chain_in xs x g [] j h e).0

  list_out : (xs : List ℕ) (g j : ℕ) → Fit j xs → hits_in N (list_events xs g j) ≡ []
  list_out [] g j f = refl
  list_out (x ∷ xs) g j f = chain_out xs x g [] j f refl

  -- ---- rules

  -- the limits of rules with i rules and j body atoms before them
  record Fits (i j : ℕ) (rs : List Rule) : Type 0 where
    rules_room : i + length rs ≤ 500
    bodies_room : j + length (bodies_of rs) ≤ 500
    fit : So (all (rule_fits N) rs)
    ascend : So (all rule_ascends rs)

  -- no hit in events one after the other
  parts : (xs ys : List Event) → hits_in N (xs ++ ys) ≡ [] → (hits_in N xs ≡ []) × (hits_in N ys ≡ [])
  parts xs ys e = let q = sym (hits_append N xs ys) ∙ e in (nil_left _ _ q, nil_right (hits_in N xs) _ q)

  whole : (xs ys : List Event) → hits_in N xs ≡ [] → hits_in N ys ≡ [] → hits_in N (xs ++ ys) ≡ []
  whole xs ys e f = hits_append N xs ys ∙ ap₂ (λ (hs is : List Hit). hs ++ is) e f

  bodies_length : (r : Rule) (rs : List Rule) → length (bodies_of (r ∷ rs)) ≡ length r.positive + length r.negative + length (bodies_of rs)
  bodies_length r rs = omega (arith, length-append r.positive (r.negative ++ bodies_of rs), length-append r.negative (bodies_of rs))

  rules_in_lem : (rs : List Rule) (i g j : ℕ) → i ≤ 500 → j ≤ 500 → hits_in N (rules_events rs i g j) ≡ [] → Fits i j rs
  rules_in_lem [] i g j h k e = record { rules_room = omega arith; bodies_room = omega arith; fit = refl; ascend = refl }
  rules_in_lem (r ∷ rs) i g j h k e =
      let c = parts (rule_events r i g j) _ e in
      let l : i < 500 = below h (eqb-false i 500 (one_in (eqb i 500) 6 g (nil_left _ _ c.0))) in
      let d = nil_right (hits_of N (rule_opened i g)) _ c.0 in
      let a = known_in r.head (one_in (unknown N r.head) 4 (g + 6) (nil_left _ _ d)) in
      let b = parts (list_events r.positive (positive_spot r g) j) _ (nil_right (hits_of N (head_read r.head (g + 6))) _ d) in
      let p = list_in_lem r.positive _ j k b.0 in
      let n = list_in_lem r.negative _ (j + length r.positive) p.room b.1 in
      let q = rules_in_lem rs (i + 1) _ _ (omega (arith, l)) n.room c.1 in
      record {
        rules_room = omega (arith, q.rules_room);
        bodies_room = omega (arith, q.bodies_room, bodies_length r rs);
        fit = and_in (and_in a (and_in p.known n.known)) q.fit;
        ascend = and_in (and_in p.rises n.rises) q.ascend;
      }

  rules_out : (rs : List Rule) (i g j : ℕ) → Fits i j rs → hits_in N (rules_events rs i g j) ≡ []
  rules_out [] i g j f = refl
  rules_out (r ∷ rs) i g j f =
      let m = bodies_length r rs in
      let t = and_left (rule_fits N r) _ f.fit in
      let b = and_right (is_atom N r.head) _ t in
      let u = and_left (rule_ascends r) _ f.ascend in
      let p : Fit j r.positive = record { known = and_left _ _ b; rises = and_left _ _ u; room = omega (arith, m, f.bodies_room) } in
      let n : Fit (j + length r.positive) r.negative =
      record { known = and_right (all (is_atom N) r.positive) _ b; rises = and_right (ascends r.positive) _ u; room = omega (arith, m, f.bodies_room) } in
      whole (rule_events r i g j) _
      (rw (ne_eqb i 500 (λ e. omega (arith, f.rules_room)), known_out r.head (and_left _ _ t))
      (whole (list_events r.positive (positive_spot r g) j) _ (list_out r.positive _ j p) (list_out r.negative _ _ n)))
      (rules_out rs (i + 1) _ _
      (record {
        rules_room = omega (arith, f.rules_room);
        bodies_room = omega (arith, m, f.bodies_room);
        fit = and_right (rule_fits N r) _ f.fit;
        ascend = and_right (rule_ascends r) _ f.ascend;
      }))

-- ---- programs

pub within : (P : Program) → hits P ≡ [] → Limits P
unfolding events well_formed
within P e =
    let N = P.atoms in
    let q = rules_in_lem N P.rules 0 _ 0 (omega arith) (omega arith) (nil_right (hits_of N (atoms_read N 7)) _ e) in
    record {
      few_atoms = ltb-false 126 N (one_in (ltb 126 N) 3 7 (nil_left _ _ e));
      few_rules = omega (arith, q.rules_room);
      few_bodies = omega (arith, q.bodies_room);
      all_atoms = q.fit;
      ascending = q.ascend;
    }

pub limits_no_hit : (P : Program) → Limits P → hits P ≡ []
unfolding events well_formed
limits_no_hit P l =
    rw (le-ltb 126 P.atoms l.few_atoms)
    (rules_out P.atoms P.rules 0 _ 0
    (record { rules_room = omega (arith, l.few_rules); bodies_room = omega (arith, l.few_bodies); fit = l.all_atoms; ascend = l.ascending }))
