-- Each step of a program's work passes, or is stopped by the first breach of its events.
-- Assumes nothing.
use Prim.Native.Nat.{ℕ, suc, ◌+◌, ◌*◌, ◌-◌, ◌≤◌, ◌<◌}
use native.Mathlib.Omega.{arith}
use native.Mathlib.Nat.{suc-ne-zero, le_of_eq, eq-or-lt_of_le}
use mathlib.Core.Path.{◌≡◌, refl, sym, ◌∙◌, ap, subst}
use mathlib.Core.Logic.{⊎_elim}
use mathlib.Core.Bool.{Bool, true, false}
use mathlib.Core.List.{List, [], ◌∷◌, ◌++◌, map, append_assoc, append-nil}
use lib.Dec.{ltb, leb, eqb}
use lib.ListN.{length, set, replicate, length-append}
use lib.Seq.{set_at}
use borrow.Author.Tests.{ltb-false, lt-ltb, le-ltb, eqb-true, ne_eqb, eqb-false, lt-leb}
use Rattle.lists.proofs.Tests.{le_or_lt}
use Rattle.meaning.specs.Program.{Rule}
use Rattle.text.specs.Decimal.{decimal}
use Rattle.text.specs.Text.{list_text}
use Rattle.reader_work.specs.Work.{work_of, work_heads, work_starts, work_bodies, ended_of, ended_heads, ended_bodies, head_ended, head_stored, body_ended, body_stored, opened_of, start_stored, rule_shut, bracket_of, bracket_starts}
use Rattle.reader_laws.specs.Judge.{Work, acts, cap, number_read, more_read, list_read, positive_spot, negative_spot, rule_read}
use Rattle.reader_laws.specs.Breach.{Event, rule_opened, head_read, body_read, more_events, list_events, rule_events, unknown, not_above, when_met, Hit, hits_of, hits_in}
use Rattle.program.specs.Arrays.{pad}
use Rattle.reader_laws.proofs.Values.{cap_small, cap_large, ListAt, positive, negative}
use Rattle.reader_laws.proofs.Frozen.{Refused, acts_frozen, more_frozen, list_frozen}

-- the work is stopped with the row and spot of h
pub record Stopped (W : Work) (h : Hit) : Type 0 where
  pub row_is : W.counts.number ≡ h.row
  pub spot_is : W.counts.spot ≡ h.spot
  pub a_row : h.row ≡ 0 → ⊥

pub data Out (hs : List Hit) (W good : Work) : Type 0 where
  passed : hs ≡ [] → W ≡ good → Out hs W good
  stopped : (h : Hit) (rest : List Hit) → hs ≡ h ∷ rest → Stopped W h → Out hs W good

refused_of_lem : {W : Work} {h : Hit} → Stopped W h → Refused W
refused_of_lem s e = s.a_row (sym s.row_is ∙ e)

-- one step after another
pub then : (xs ys : List Hit) (W U V' : Work) (f : Work → Work) → ((W : Work) → Refused W → f W ≡ W) → Out xs W U → (xs ≡ [] → Out ys (f U) V') → Out (xs ++ ys) (f W) V'
then xs ys W U V' f z (passed e p) o =
    subst (λ (hs : List Hit). Out hs (f W) V') (ap (λ (hs : List Hit). hs ++ ys) (sym e)) (subst (λ (X : Work). Out ys (f X) V') (sym p) (o e))
then xs ys W U V' f z (stopped h rest e s) o =
    stopped h (rest ++ ys) (ap (λ (hs : List Hit). hs ++ ys) e) (subst (λ (X : Work). Stopped X h) (sym (z W (refused_of_lem s))) s)

-- a step with no event
step : (hs : List Hit) (W U V' : Work) (f : Work → Work) → ((W : Work) → Refused W → f W ≡ W) → Out hs W U → f U ≡ V' → Out hs (f W) V'
step hs W U V' f z (passed e p) o = passed e (ap f p ∙ o)
step hs W U V' f z (stopped h rest e s) o = stopped h rest e (subst (λ (X : Work). Stopped X h) (sym (z W (refused_of_lem s))) s)

pub below : {j : ℕ} → j ≤ 500 → (j ≡ 500 → ⊥) → j < 500
below {j} l f = ⊎_elim (λ (e : j ≡ 500). absurd (f e)) (λ (k : j < 500). k) (eq-or-lt_of_le l)

pub nil_left : (xs ys : List Hit) → xs ++ ys ≡ [] → xs ≡ []
nil_left [] ys e = refl
nil_left (x ∷ xs) ys e = absurd (suc-ne-zero (length (xs ++ ys)) (ap length e))

pub nil_right : (xs ys : List Hit) → xs ++ ys ≡ [] → ys ≡ []
nil_right [] ys e = e
nil_right (x ∷ xs) ys e = absurd (suc-ne-zero (length (xs ++ ys)) (ap length e))

-- ---- arrays that fill up

pad_set : (k : ℕ) (xs : List ℕ) (i v : ℕ) → length xs ≡ i → i < k → set (pad k xs) i v ≡ pad k (xs ++ (v ∷ []))
pad_set k xs i v e h =
    let q : k - length xs ≡ suc (k - suc i) = omega (arith, e) in
    let r : k - suc i ≡ k - length (xs ++ (v ∷ [])) = omega (arith, e, length-append xs (v ∷ [])) in
    ap (λ (n : ℕ). set (xs ++ replicate n 0) i v) q ∙ set_at xs 0 (replicate (k - suc i) 0) v i e
    ∙ sym (append_assoc xs (v ∷ []) (replicate (k - suc i) 0)) ∙ ap (λ (n : ℕ). (xs ++ (v ∷ [])) ++ replicate n 0) r

-- a work with no refusal: N atoms, r rules, the heads hs, list ends st and body atoms bs so far, and the list's last number p
abbrev pub good : ℕ → ℕ → List ℕ → List ℕ → List ℕ → ℕ → Work
good N r hs st bs p =
    record {
      counts = record { atoms = N; rules = r; held = length bs; prev = p; number = 0; spot = 0 };
      heads = pad 500 hs;
      starts = pad 1001 st;
      bodies = pad 500 bs;
    }

-- ---- the number as it is kept, where N is at most 126

cap_zero : (x : ℕ) → eqb (cap x) 0 ≡ eqb x 0
cap_zero x = ⊎_elim (λ (l : x ≤ 999). ap (λ (v : ℕ). eqb v 0) (cap_small x l)) (λ (l : 999 < x). ap (λ (v : ℕ). eqb v 0) (cap_large x l) ∙ sym (ne_eqb x 0 (λ e. omega arith))) (le_or_lt x 999)

pub cap_above : (N x : ℕ) → N ≤ 126 → ltb N (cap x) ≡ ltb N x
cap_above N x h =
    ⊎_elim (λ (l : x ≤ 999). ap (ltb N) (cap_small x l)) (λ (l : 999 < x). ap (ltb N) (cap_large x l) ∙ lt-ltb N 1000 (omega arith) ∙ sym (lt-ltb N x (omega arith))) (le_or_lt x 999)

pub cap_known : (N x : ℕ) → N ≤ 126 → ltb N x ≡ false → cap x ≡ x
cap_known N x h e = cap_small x (omega (arith, ltb-false N x e))

-- ---- heads

head_out : (N r : ℕ) (hs st bs : List ℕ) (p x g : ℕ) → N ≤ 126 → length hs ≡ r → r < 500
    → Out (hits_of N (head_read x g)) (number_read 16 x g (good N r hs st bs p)) (good N r (hs ++ (x ∷ [])) st bs 0)
unfolding acts work_of work_heads work_starts work_bodies ended_of ended_heads ended_bodies head_ended head_stored
head_out N r hs st bs p x g n l h = go (eqb x 0) refl (ltb N x) refl
  where
    go : (a : Bool) → eqb x 0 ≡ a → (b : Bool) → ltb N x ≡ b → Out (hits_of N (head_read x g)) (number_read 16 x g (good N r hs st bs p)) (good N r (hs ++ (x ∷ [])) st bs 0)
    go true e b f =
        stopped (record { row = 4; spot = g }) [] (rw e) (record { row_is = rw (cap_zero x ∙ e); spot_is = rw (cap_zero x ∙ e); a_row = suc-ne-zero 3 })
    go false e true f =
        stopped (record { row = 4; spot = g }) [] (rw (e, f))
        (record { row_is = rw (cap_zero x ∙ e, cap_above N x n ∙ f); spot_is = rw (cap_zero x ∙ e, cap_above N x n ∙ f); a_row = suc-ne-zero 3 })
    go false e false f = passed (rw (e, f)) (rw (cap_zero x ∙ e, cap_above N x n ∙ f, lt-ltb r 500 h, cap_known N x n f, pad_set 500 hs r x l h))

-- ---- body atoms

-- the list neighbour before, and the number kept for it
pub data Neighbour : List ℕ → ℕ → Type 0 where
  none : Neighbour [] 0
  some : {y : ℕ} → Neighbour (y ∷ []) y

-- after the first row, the other rows of a body atom
abbrev later : ℕ → List ℕ → ℕ → ℕ → List Hit
later x ys j g = map (λ k. record { row = k; spot = g }) (when_met (not_above x ys) 5 ++ when_met (eqb j 500) 7)

length_snoc : (bs : List ℕ) (x : ℕ) → length bs + 1 ≡ length (bs ++ (x ∷ []))
length_snoc bs x = sym (length-append bs (x ∷ []))

-- what a body atom does, whichever of the two lists it is in
abbrev body_work : ℕ → ℕ → Work → Work
body_work v g W =
    record { counts = body_ended v g W.counts; heads = W.heads; starts = W.starts; bodies = body_stored v W.counts W.bodies }

body_work_lem : (k N r : ℕ) (hs st bs : List ℕ) (p x g : ℕ) → ListAt k → number_read k x g (good N r hs st bs p) ≡ body_work (cap x) g (good N r hs st bs p)
unfolding acts work_of work_heads work_starts work_bodies ended_of ended_heads ended_bodies
body_work_lem k N r hs st bs p x g positive = refl
body_work_lem k N r hs st bs p x g negative = refl

module _ (N r : ℕ) (hs st bs ys : List ℕ) (p x g : ℕ) (nb : Neighbour ys p) (n : N ≤ 126) (h : length bs ≤ 500) where
  ordered : (ys : List ℕ) (p : ℕ) → Neighbour ys p → eqb x 0 ≡ false → not_above x ys ≡ leb x p
  ordered ys p none e = sym (lt-leb x 0 (pos (eqb-false x 0 e)))
    where
      pos : (x ≡ 0 → ⊥) → 0 < x
      pos f = ⊎_elim (λ (l : x ≤ 0). absurd (f (omega arith))) (λ (l : 0 < x). l) (le_or_lt x 0)
  ordered ys p some e = refl

  -- an atom of the program: rows 5 and 7 are left
  known : eqb x 0 ≡ false → ltb N x ≡ false → (c : Bool) → leb x p ≡ c → (d : Bool) → eqb (length bs) 500 ≡ d
      → Out (hits_of N (body_read x g ys (length bs))) (body_work (cap x) g (good N r hs st bs p)) (good N r hs st (bs ++ (x ∷ [])) x)
  unfolding body_ended body_stored
  known e f true q d z =
      stopped (record { row = 5; spot = g }) (map (λ k. record { row = k; spot = g }) (when_met (eqb (length bs) 500) 7)) (rw (e, f, ordered ys p nb e ∙ q))
      (record { row_is = rw (cap_known N x n f, e, f, q); spot_is = rw (cap_known N x n f, e, f, q); a_row = suc-ne-zero 4 })
  known e f false q true z =
      let w = le-ltb (length bs) 500 (le_of_eq (sym (eqb-true (length bs) 500 z))) in
      stopped (record { row = 7; spot = g }) [] (rw (e, f, ordered ys p nb e ∙ q, z))
      (record { row_is = rw (cap_known N x n f, e, f, q, w); spot_is = rw (cap_known N x n f, e, f, q, w); a_row = suc-ne-zero 6 })
  known e f false q false z =
      passed (rw (e, f, ordered ys p nb e ∙ q, z))
      (rw (cap_known N x n f, e, f, q, lt-ltb (length bs) 500 (below h (eqb-false (length bs) 500 z)), length_snoc bs x, pad_set 500 bs (length bs) x refl (below h (eqb-false (length bs) 500 z))))

  any_body : (a : Bool) → eqb x 0 ≡ a → (b : Bool) → ltb N x ≡ b
      → Out (hits_of N (body_read x g ys (length bs))) (body_work (cap x) g (good N r hs st bs p)) (good N r hs st (bs ++ (x ∷ [])) x)
  unfolding body_ended
  any_body true e b f =
      stopped (record { row = 4; spot = g }) (later x ys (length bs) g) (rw e) (record { row_is = rw (cap_zero x ∙ e); spot_is = rw (cap_zero x ∙ e); a_row = suc-ne-zero 3 })
  any_body false e true f =
      stopped (record { row = 4; spot = g }) (later x ys (length bs) g) (rw (e, f))
      (record { row_is = rw (cap_zero x ∙ e, cap_above N x n ∙ f); spot_is = rw (cap_zero x ∙ e, cap_above N x n ∙ f); a_row = suc-ne-zero 3 })
  any_body false e false f = known e f (leb x p) refl (eqb (length bs) 500) refl

  body_out : (k : ℕ) → ListAt k → Out (hits_of N (body_read x g ys (length bs))) (number_read k x g (good N r hs st bs p)) (good N r hs st (bs ++ (x ∷ [])) x)
  body_out k l =
      subst (λ (W : Work). Out (hits_of N (body_read x g ys (length bs))) W (good N r hs st (bs ++ (x ∷ [])) x)) (sym (body_work_lem k N r hs st bs p x g l))
      (any_body (eqb x 0) refl (ltb N x) refl)

-- a body atom with no breach leaves room
room : (N x g : ℕ) (ys : List ℕ) (j : ℕ) → j ≤ 500 → hits_of N (body_read x g ys j) ≡ [] → j + 1 ≤ 500
room N x g ys j h e = go (eqb j 500) refl (unknown N x) (not_above x ys) e
  where
    go : (d : Bool) → eqb j 500 ≡ d → (a b : Bool) → map {B = Hit} (λ k. record { row = k; spot = g }) (when_met a 4 ++ (when_met b 5 ++ when_met d 7)) ≡ [] → j + 1 ≤ 500
    go false z a b e = omega (arith, below h (eqb-false j 500 z))
    go true z true b e = absurd (suc-ne-zero _ (ap length e))
    go true z false true e = absurd (suc-ne-zero _ (ap length e))
    go true z false false e = absurd (suc-ne-zero _ (ap length e))

-- ---- lists

-- the last of the numbers xs after y
abbrev pub last_of : ℕ → List ℕ → ℕ
last_of y [] = y
last_of y (x ∷ xs) = last_of x xs

module _ (k N r : ℕ) (hs st : List ℕ) (l : ListAt k) (n : N ≤ 126) where
  -- what the further numbers xs of a list do after x
  abbrev More : List ℕ → Type 0
  More xs = (bs : List ℕ) (x g : ℕ) → length bs ≤ 500
      → Out (hits_in N (more_events xs x g (length bs))) (more_read k xs g (good N r hs st bs x)) (good N r hs st (bs ++ xs) (last_of x xs))

  -- a number of a list and the numbers after it
  chained : (xs : List ℕ) → More xs → (bs ys : List ℕ) (p x s : ℕ) → Neighbour ys p → length bs ≤ 500
      → Out (hits_of N (body_read x s ys (length bs)) ++ hits_in N (more_events xs x (s + length (decimal x)) (length bs + 1)))
      (more_read k xs (s + length (decimal x)) (number_read k x s (good N r hs st bs p))) (good N r hs st (bs ++ (x ∷ xs)) (last_of x xs))
  chained xs m bs ys p x s nb h =
      let g = s + length (decimal x) in
      then (hits_of N (body_read x s ys (length bs))) (hits_in N (more_events xs x g (length bs + 1)))
      (number_read k x s (good N r hs st bs p)) (good N r hs st (bs ++ (x ∷ [])) x) (good N r hs st (bs ++ (x ∷ xs)) (last_of x xs))
      (more_read k xs g) (λ W f. more_frozen W f k xs g) (body_out N r hs st bs ys p x s nb n h k l)
      (λ e. placed_at (m (bs ++ (x ∷ [])) x g (subst (λ (j : ℕ). j ≤ 500) (length_snoc bs x) (room N x s ys (length bs) h e))))
    where
      placed_at : Out (hits_in N (more_events xs x (s + length (decimal x)) (length (bs ++ (x ∷ []))))) (more_read k xs (s + length (decimal x)) (good N r hs st (bs ++ (x ∷ [])) x)) (good N r hs st ((bs ++ (x ∷ [])) ++ xs) (last_of x xs))
          → Out (hits_in N (more_events xs x (s + length (decimal x)) (length bs + 1))) (more_read k xs (s + length (decimal x)) (good N r hs st (bs ++ (x ∷ [])) x)) (good N r hs st (bs ++ (x ∷ xs)) (last_of x xs))
      placed_at o =
          subst (λ (zs : List ℕ). Out (hits_in N (more_events xs x (s + length (decimal x)) (length bs + 1))) (more_read k xs (s + length (decimal x)) (good N r hs st (bs ++ (x ∷ [])) x)) (good N r hs st zs (last_of x xs)))
          (append_assoc bs (x ∷ []) xs)
          (subst (λ (j : ℕ). Out (hits_in N (more_events xs x (s + length (decimal x)) j)) (more_read k xs (s + length (decimal x)) (good N r hs st (bs ++ (x ∷ [])) x)) (good N r hs st ((bs ++ (x ∷ [])) ++ xs) (last_of x xs)))
          (sym (length_snoc bs x)) o)

  more_out : (xs : List ℕ) → More xs
  more_out [] bs x g h = passed refl (ap (λ (zs : List ℕ). good N r hs st zs x) (sym (append-nil bs)))
  more_out (y ∷ ys) bs x g h = chained ys (more_out ys) bs (x ∷ []) x y (g + 1) some h

  list_out : (xs bs : List ℕ) (g : ℕ) → length bs ≤ 500
      → Out (hits_in N (list_events xs g (length bs))) (list_read k xs g (good N r hs st bs 0)) (good N r hs st (bs ++ xs) (last_of 0 xs))
  list_out [] bs g h = passed refl (ap (λ (zs : List ℕ). good N r hs st zs 0) (sym (append-nil bs)))
  list_out (x ∷ xs) bs g h = chained xs (more_out xs) bs [] 0 x g none h

-- a list with no breach leaves room: as many body atoms as it holds
room_more : (N : ℕ) (xs : List ℕ) (j y g : ℕ) → j ≤ 500 → hits_in N (more_events xs y g j) ≡ [] → j + length xs ≤ 500
room_more N [] j y g h e = omega arith
room_more N (x ∷ xs) j y g h e =
    omega (arith, room_more N xs (j + 1) x (g + 1 + length (decimal x)) (room N x (g + 1) (y ∷ []) j h (nil_left _ _ e)) (nil_right (hits_of N (body_read x (g + 1) (y ∷ []) j)) _ e))

pub room_list : (N : ℕ) (xs : List ℕ) (j g : ℕ) → j ≤ 500 → hits_in N (list_events xs g j) ≡ [] → j + length xs ≤ 500
room_list N [] j g h e = omega arith
room_list N (x ∷ xs) j g h e =
    omega (arith, room_more N xs (j + 1) x (g + length (decimal x)) (room N x g [] j h (nil_left _ _ e)) (nil_right (hits_of N (body_read x g [] j)) _ e))

-- ---- rules

pub hits_append : (N : ℕ) (xs ys : List Event) → hits_in N (xs ++ ys) ≡ hits_in N xs ++ hits_in N ys
hits_append N [] ys = refl
hits_append N (x ∷ xs) ys = ap (λ (hs : List Hit). hits_of N x ++ hs) (hits_append N xs ys) ∙ sym (append_assoc (hits_of N x) (hits_in N xs) (hits_in N ys))

open_out : (N r : ℕ) (hs st bs : List ℕ) (p g : ℕ) → r ≤ 500 → Out (hits_of N (rule_opened r g)) (acts 4 10 0 0 g (good N r hs st bs p)) (good N r hs st bs p)
unfolding acts work_of work_heads work_starts work_bodies bracket_of bracket_starts opened_of
open_out N r hs st bs p g h = go (eqb r 500) refl
  where
    go : (d : Bool) → eqb r 500 ≡ d → Out (hits_of N (rule_opened r g)) (acts 4 10 0 0 g (good N r hs st bs p)) (good N r hs st bs p)
    go true e =
        let w = le-ltb r 500 (le_of_eq (sym (eqb-true r 500 e))) in
        stopped (record { row = 6; spot = g }) [] (rw e) (record { row_is = rw w; spot_is = rw w; a_row = suc-ne-zero 5 })
    go false e = passed (rw e) (rw (lt-ltb r 500 (below h (eqb-false r 500 e))))

shut_positive : (N r : ℕ) (hs st bs : List ℕ) (p i : ℕ) → r < 500 → length st ≡ 2 * r + 1
    → acts 5 21 0 0 i (good N r hs st bs p) ≡ good N r hs (st ++ (length bs ∷ [])) bs 0
unfolding acts work_of work_heads work_starts work_bodies bracket_of bracket_starts start_stored
shut_positive N r hs st bs p i h e = rw (le-ltb 499 r (omega arith), pad_set 1001 st (2 * r + 1) (length bs) e (omega arith))

shut_rule : (N r : ℕ) (hs st bs : List ℕ) (p i : ℕ) → r < 500 → length st ≡ 2 * r + 2
    → acts 6 26 0 0 i (good N r hs st bs p) ≡ good N (r + 1) hs (st ++ (length bs ∷ [])) bs 0
unfolding acts work_of work_heads work_starts work_bodies bracket_of bracket_starts start_stored rule_shut
shut_rule N r hs st bs p i h e = rw (le-ltb 499 r (omega arith), lt-ltb r 500 h, pad_set 1001 st (2 * r + 2) (length bs) e (omega arith))

-- the rule R, the rule of number r from 0, whose bracket is at g
module _ (N : ℕ) (n : N ≤ 126) (R : Rule) (r g : ℕ) (hs st bs : List ℕ) (eh : length hs ≡ r) (es : length st ≡ 2 * r + 1) where
  abbrev pub H' : List ℕ
  H' = hs ++ (R.head ∷ [])

  abbrev pub B' : List ℕ
  B' = bs ++ R.positive

  abbrev pub C' : List ℕ
  C' = B' ++ R.negative

  abbrev pub S' : List ℕ
  S' = st ++ (length B' ∷ [])

  -- the steps of `rule_read`, from the last one backwards
  abbrev step6 : Work → Work
  step6 W = acts 6 26 0 0 (negative_spot R g + length (list_text R.negative) + 2) W

  abbrev step5 : Work → Work
  step5 W = list_read 23 R.negative (negative_spot R g) W

  abbrev step4 : Work → Work
  step4 W = acts 5 21 0 0 (positive_spot R g + length (list_text R.positive) + 1) W

  abbrev step3 : Work → Work
  step3 W = list_read 19 R.positive (positive_spot R g) W

  abbrev step2 : Work → Work
  step2 W = number_read 16 R.head (g + 6) W

  abbrev hits3 : List Hit
  hits3 = hits_in N (list_events R.positive (positive_spot R g) (length bs))

  abbrev hits5 : List Hit
  hits5 = hits_in N (list_events R.negative (negative_spot R g) (length bs + length R.positive))

  abbrev pub done : Work
  done = good N (r + 1) H' (S' ++ (length C' ∷ [])) C' 0

  out5 : r < 500 → length B' ≤ 500 → Out hits5 (step6 (step5 (good N r H' S' B' 0))) done
  out5 h k =
      step hits5 (step5 (good N r H' S' B' 0)) (good N r H' S' C' (last_of 0 R.negative)) done step6 (λ W f. acts_frozen W f 6 26 0 0 _)
      (subst (λ (j : ℕ). Out (hits_in N (list_events R.negative (negative_spot R g) j)) (step5 (good N r H' S' B' 0)) (good N r H' S' C' (last_of 0 R.negative)))
      (length-append bs R.positive) (list_out 23 N r H' S' negative n R.negative B' (negative_spot R g) k))
      (shut_rule N r H' S' C' (last_of 0 R.negative) _ h (omega (arith, es, length-append st (length B' ∷ []))))

  out3 : r < 500 → length bs ≤ 500 → Out (hits3 ++ hits5) (step6 (step5 (step4 (step3 (good N r H' st bs 0))))) done
  out3 h k =
      then hits3 hits5 (step4 (step3 (good N r H' st bs 0))) (good N r H' S' B' 0) done (λ W. step6 (step5 W)) (λ W f. ap step6 (list_frozen W f 23 R.negative _) ∙ acts_frozen W f 6 26 0 0 _)
      (step hits3 (step3 (good N r H' st bs 0)) (good N r H' st B' (last_of 0 R.positive)) (good N r H' S' B' 0) step4 (λ W f. acts_frozen W f 5 21 0 0 _)
      (list_out 19 N r H' st positive n R.positive bs (positive_spot R g) k) (shut_positive N r H' st B' (last_of 0 R.positive) _ h es))
      (λ e. out5 h (omega (arith, room_list N R.positive (length bs) (positive_spot R g) k e, length-append bs R.positive)))

  out2 : r < 500 → length bs ≤ 500 → Out (hits_of N (head_read R.head (g + 6)) ++ (hits3 ++ hits5)) (step6 (step5 (step4 (step3 (step2 (good N r hs st bs 0)))))) done
  out2 h k =
      then (hits_of N (head_read R.head (g + 6))) (hits3 ++ hits5) (step2 (good N r hs st bs 0)) (good N r H' st bs 0) done (λ W. step6 (step5 (step4 (step3 W))))
      (λ W f. simp (acts_frozen W f, list_frozen W f)) (head_out N r hs st bs 0 R.head (g + 6) n eh h) (λ e. out3 h k)

  pub rule_out : r ≤ 500 → length bs ≤ 500 → Out (hits_in N (rule_events R r g (length bs))) (rule_read R g (good N r hs st bs 0)) done
  rule_out h k =
      subst (λ (xs : List Hit). Out (hits_of N (rule_opened r g) ++ (hits_of N (head_read R.head (g + 6)) ++ xs)) (rule_read R g (good N r hs st bs 0)) done)
      (sym (hits_append N (list_events R.positive (positive_spot R g) (length bs)) (list_events R.negative (negative_spot R g) (length bs + length R.positive))))
      (then (hits_of N (rule_opened r g)) (hits_of N (head_read R.head (g + 6)) ++ (hits3 ++ hits5)) (acts 4 10 0 0 g (good N r hs st bs 0)) (good N r hs st bs 0) done
      (λ W. step6 (step5 (step4 (step3 (step2 W))))) (λ W f. simp (acts_frozen W f, list_frozen W f)) (open_out N r hs st bs 0 g h) (λ e. out2 (opened_room e) k))
    where
      opened_room : hits_of N (rule_opened r g) ≡ [] → r < 500
      opened_room e = go (eqb r 500) refl e
        where
          go : (d : Bool) → eqb r 500 ≡ d → map {B = Hit} (λ k. record { row = k; spot = g }) (when_met d 6) ≡ [] → r < 500
          go false z e = below h (eqb-false r 500 z)
          go true z e = absurd (suc-ne-zero _ (ap length e))
