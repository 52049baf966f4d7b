-- From every place that a text can reach some ending of bytes is accepted; a text that is not accepted has a longest part from which one is,
-- and that part is what `text_leaves` counts.
--   Ended k m t      some bytes after t are accepted
--   ends             so it is after nothing, from every live place
--   ended            and after t, where any numbers after t are accepted
--   LeftAt k m t n   n bytes of t are read before no ending is accepted
--   left             a text that is not accepted is left where `text_leaves` says
-- Assumes nothing.
use Prim.Native.Nat.{ℕ, suc, pred, ◌+◌, ◌≤◌, ◌<◌, suc-le-suc}
use native.Mathlib.Nat.{not-suc-le-zero, eq-or-lt_of_le, le_of_suc-le-suc, suc-add}
use native.Mathlib.Omega.{arith}
use mathlib.Core.Path.{◌≡◌, refl, sym, ◌∙◌, ap}
use mathlib.Core.Logic.{⊎_elim}
use mathlib.Core.Bool.{Bool, true, false, not, ◌&&◌, ◌||◌, So, cond, true≢false, false≢true}
use mathlib.Core.List.{List, [], ◌∷◌, ◌++◌}
use lib.Dec.{ltb, eqb}
use lib.ListN.{length, take}
use borrow.Author.Tests.{ltb-true, lt-ltb, eqb-true}
use Rattle.lists.specs.Lists.{all_to}
use Rattle.lists.proofs.Bools.{and_in, and_left, and_right, or_left, or_right}
use Rattle.lists.proofs.Tests.{all_to_at}
use Rattle.text.specs.Bytes.{are_bytes}
use Rattle.reader_form.specs.Automaton.{Step}
use Rattle.reader_form.specs.Automaton.{placed, form_at, digit_test, literal_of, leave_of, digit_of, act_at, item_of, form_step}
use Rattle.reader_laws.specs.Scan.{text_accepts, text_leaves, takes_numbers, live, text_end}

-- the place after a byte: past the form, or live
data Alive (p : Step) : Type 0 where
  died : eqb p.mode 4 ≡ true → Alive p
  lives : live p.k p.mode ≡ true → Alive p

-- the last place of the form has byte 10
below : (k : ℕ) → k < 27 → eqb (form_at k) 10 ≡ false → k + 1 < 27
unfolding form_at
below k h e =
    ⊎_elim (λ (q : k ≡ 26). absurd (true≢false (sym (ap (λ (x : ℕ). eqb (form_at x) 10) q) ∙ e))) (λ (l : k < 26). omega arith)
    (eq-or-lt_of_le (le_of_suc-le-suc h))

literal_alive : (k b act : ℕ) → Alive (literal_of k b act)
unfolding literal_of live
literal_alive k b act = go (eqb b (form_at k)) (eqb (form_at k) 10) refl (ltb k 27) refl
  where
    go : (x y : Bool) → eqb (form_at k) 10 ≡ y → (z : Bool) → ltb k 27 ≡ z → Alive (cond x (cond y (placed 10 0 act) (cond z (placed (k + 1) 0 act) (placed k 4 0))) (placed k 4 0))
    go true true e z f = lives refl
    go true false e true f = lives (and_in (lt-ltb (k + 1) 27 (below k (ltb-true k 27 f) e)) refl)
    go true false e false f = died refl
    go false y e z f = died refl

module _ (k : ℕ) (h : ltb k 27 ≡ true) (n : takes_numbers (form_at k) ≡ true) where
  in_item : (m : ℕ) → ltb m 4 ≡ true → eqb m 0 ≡ false → live k m ≡ true
  unfolding live
  in_item m l z = and_in h (rw z (and_in l n))

  digit_alive : (m b : ℕ) → Alive (digit_of k m b)
  unfolding digit_of
  digit_alive m b = go (eqb m 1) (eqb m 2) (eqb b 48)
    where
      go : (x y z : Bool) → Alive (cond x (placed k 4 0) (cond y (placed k 2 2) (cond z (placed k 1 1) (placed k 2 1))))
      go true y z = died refl
      go false true z = lives (in_item 2 refl refl)
      go false false true = lives (in_item 1 refl refl)
      go false false false = lives (in_item 2 refl refl)

  leave_alive : (c m b : ℕ) → Alive (leave_of k c m b)
  unfolding leave_of
  leave_alive c m b = go (eqb m 0) (eqb c 42) (eqb m 3) (eqb b 32)
    where
      go : (x y z v : Bool)
          → Alive (cond x (cond y (literal_of (k + 1) b 0) (placed k 4 0)) (cond z (placed k 4 0) (cond y (cond v (placed k 3 3) (literal_of (k + 1) b 3)) (literal_of (k + 1) b 3))))
      go true true z v = literal_alive (k + 1) b 0
      go true false z v = died refl
      go false y true v = died refl
      go false true false true = lives (in_item 3 refl refl)
      go false true false false = literal_alive (k + 1) b 3
      go false false false v = literal_alive (k + 1) b 3

  item_alive : (c m b : ℕ) → Alive (item_of k c m b)
  unfolding item_of
  item_alive c m b = go (digit_test b)
    where
      go : (x : Bool) → Alive (cond x (digit_of k m b) (leave_of k c m b))
      go true = digit_alive m b
      go false = leave_alive c m b

step_alive : (k m b : ℕ) → live k m ≡ true → Alive (form_step k m b)
unfolding form_step live
step_alive k m b l = go (eqb (form_at k) 35) refl (eqb (form_at k) 42) refl
  where
    go : (x : Bool) → eqb (form_at k) 35 ≡ x → (y : Bool) → eqb (form_at k) 42 ≡ y → Alive (cond x (item_of k (form_at k) m b) (cond y (item_of k (form_at k) m b) (literal_of k b (act_at k))))
    go true e y f = item_alive k (and_left (ltb k 27) _ l) (or_left (eqb (form_at k) 35) (eqb (form_at k) 42) e) (form_at k) m b
    go false e true f = item_alive k (and_left (ltb k 27) _ l) (or_right (eqb (form_at k) 35) (eqb (form_at k) 42) f) (form_at k) m b
    go false e false f = literal_alive k b (act_at k)

live_place : (k m : ℕ) → live k m ≡ true → k < 27
unfolding live
live_place k m l = ltb-true k 27 (and_left (ltb k 27) _ l)

live_mode : (k m : ℕ) → live k m ≡ true → m < 4
unfolding live
live_mode k m l = go (eqb m 0) refl (and_right (ltb k 27) _ l)
  where
    go : (z : Bool) → eqb m 0 ≡ z → So (cond z true (ltb m 4 && takes_numbers (form_at k))) → m < 4
    go true e t = omega (arith, eqb-true m 0 e)
    go false e t = ltb-true m 4 (and_left (ltb m 4) (takes_numbers (form_at k)) t)

-- from place k in mode m, if it is live, `text_end` is accepted and made of bytes
abbrev ends_well : ℕ → ℕ → Bool
ends_well k m = not (live k m) || (text_accepts k m (text_end k m) && are_bytes (text_end k m))

-- computed once for all of them
endings : all_to 27 (λ k. all_to 4 (λ m. ends_well (pred k) (pred m))) ≡ true
unfolding live text_accepts text_end form_step form_at item_of digit_test leave_of digit_of literal_of act_at
endings = refl

-- some bytes after t are accepted
pub record Ended (k m : ℕ) (t : List ℕ) : Type 0 where
  pub ending : List ℕ
  pub bytes : So (are_bytes ending)
  pub gives : text_accepts k m (t ++ ending) ≡ true

pub ends : (k m : ℕ) → live k m ≡ true → Ended k m []
ends k m l =
    let t = implied (live k m) _ l
    (all_to_at 4 (λ m. ends_well k (pred m)) (all_to_at 27 (λ k. all_to 4 (λ m. ends_well (pred k) (pred m))) endings k (live_place k m l)) m (live_mode k m l)) in
    let e = text_end k m in
    record { ending = e; bytes = and_right (text_accepts k m e) (are_bytes e) t; gives = and_left (text_accepts k m e) (are_bytes e) t }
  where
    implied : (a b : Bool) → a ≡ true → So (not a || b) → b ≡ true
    implied true b e t = t
    implied false b e t = absurd (false≢true e)

-- a byte that does not lead past the form leads from a live place to a live one
lively : (k m b : ℕ) → live k m ≡ true → eqb (form_step k m b).mode 4 ≡ false → live (form_step k m b).k (form_step k m b).mode ≡ true
lively k m b l e = go (step_alive k m b l)
  where
    go : Alive (form_step k m b) → live (form_step k m b).k (form_step k m b).mode ≡ true
    go (died d) = absurd (true≢false (sym d ∙ e))
    go (lives d) = d

-- an ending from the place after byte b, after b
ended_more : (k m b : ℕ) (t : List ℕ) → eqb (form_step k m b).mode 4 ≡ false → Ended (form_step k m b).k (form_step k m b).mode t → Ended k m (b ∷ t)
unfolding text_accepts
ended_more k m b t e r = record { ending = r.ending; bytes = r.bytes; gives = rw e r.gives }

-- where any numbers after t are accepted, some bytes are
pub ended : (t u : List ℕ) (k m : ℕ) → live k m ≡ true → text_accepts k m (t ++ u) ≡ true → Ended k m t
unfolding text_accepts
ended [] u k m l a = ends k m l
ended (b ∷ t) u k m l a = go (eqb (form_step k m b).mode 4) refl a (ended t u (form_step k m b).k (form_step k m b).mode)
  where
    go : (d : Bool) → eqb (form_step k m b).mode 4 ≡ d → cond d false (text_accepts (form_step k m b).k (form_step k m b).mode (t ++ u)) ≡ true
        → (live (form_step k m b).k (form_step k m b).mode ≡ true → text_accepts (form_step k m b).k (form_step k m b).mode (t ++ u) ≡ true
        → Ended (form_step k m b).k (form_step k m b).mode t)
        → Ended k m (b ∷ t)
    go true e a ih = absurd (false≢true a)
    go false e a ih = ended_more k m b t e (ih (lively k m b l e) a)

-- n bytes of t are read before no ending is accepted
pub record LeftAt (k m : ℕ) (t : List ℕ) (n : ℕ) : Type 0 where
  pub within : n ≤ length t
  pub before : Ended k m (take n t)
  pub dead : n < length t → (e : List ℕ) → text_accepts k m (take (n + 1) t ++ e) ≡ false

pub left : (t : List ℕ) (k m : ℕ) → live k m ≡ true → text_accepts k m t ≡ false → LeftAt k m t (text_leaves k m t)
unfolding text_accepts text_leaves
left [] k m l e = record { within = omega arith; before = ends k m l; dead = λ h. absurd (not-suc-le-zero h) }
left (b ∷ t) k m l e = go (eqb p.mode 4) refl e (left t p.k p.mode)
  where
    p : Step
    p = form_step k m b

    go : (d : Bool) → eqb p.mode 4 ≡ d → cond d false (text_accepts p.k p.mode t) ≡ false
        → (live p.k p.mode ≡ true → text_accepts p.k p.mode t ≡ false → LeftAt p.k p.mode t (text_leaves p.k p.mode t))
        → LeftAt k m (b ∷ t) (cond d 0 (suc (text_leaves p.k p.mode t)))
    go true q e ih = record { within = omega arith; before = ends k m l; dead = λ h e. rw q }
    go false q e ih =
        let r = ih (lively k m b l q) e in
        record {
          within = suc-le-suc r.within;
          before = ended_more k m b (take (text_leaves p.k p.mode t) t) q r.before;
          dead = λ h e. ap (λ (n : ℕ). text_accepts k m (take n (b ∷ t) ++ e)) (suc-add (text_leaves p.k p.mode t) 1) ∙ rw q (r.dead (le_of_suc-le-suc h) e);
        }
