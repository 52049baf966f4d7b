-- The next rule whose head is an atom, by its index in the heads.
--   next_here, next_on, next_end_lem, next_none  index by index, as code goes on
--   next_eights                     several indexes at once
--   next_from, next_fits            where it lies
--   next_at_lem, next_between       a stands there, and nowhere between
--   next_in                         a bound of it among the first m heads
--   others_empty                    the slots of rules between hold no literal
--   front_fits, front_slots, front_next  the first m of 500 heads, as code has them
-- Assumes nothing.
use Prim.Native.Nat.{ℕ, zero, suc, pred, max, ◌+◌, ◌-◌, ◌^◌, ◌≤◌, ◌<◌}
use native.Mathlib.Nat.{le_of_eq, not-suc-le-zero, le_of_suc-le-suc, add-zero}
use native.Mathlib.Numerals.{add-one}
use native.Mathlib.Omega.{arith}
use mathlib.Core.Path.{◌≡◌, refl, sym, ◌∙◌, ap}
use mathlib.Core.Bool.{Bool, true, false, ◌||◌, cond}
use mathlib.Core.List.{List, [], ◌∷◌}
use mathlib.Core.Logic.{⊎_elim}
use lib.Dec.{eqb}
use lib.ListN.{length, get_or, take, drop, length-drop, drop_of_length-le}
use lib.Seq.{drop-cons, get_or-take, get_or-drop, length-take-le}
use borrow.Author.Tests.{eq-eqb, ne_eqb, eqb-true, eqb-false}
use Rattle.std.specs.Prelude.{fold}
use Rattle.lists.proofs.Bools.{or_neither}
use Rattle.lists.proofs.Tests.{le_or_lt}
use Rattle.clause_walk.specs.Walk.{of_head}
use Rattle.clause_heads.specs.NextHead.{others, among, next_head, past_others}

-- ---- the first a of a list

module _ (a : ℕ) where
  others_fit : (xs : List ℕ) → others a xs ≤ length xs
  others_fit [] = omega arith
  others_fit (x ∷ xs) = go (eqb x a) (others_fit xs)
    where
      go : (b : Bool) → others a xs ≤ length xs → cond b 0 (suc (others a xs)) ≤ suc (length xs)
      go true h = omega arith
      go false h = omega (arith, h)

  others_differ : (xs : List ℕ) (q : ℕ) → q < others a xs → get_or xs q 0 ≡ a → ⊥
  others_differ [] q h e = not-suc-le-zero h
  others_differ (x ∷ xs) q h e = go (eqb x a) refl (others_differ xs) q h e
    where
      go : (b : Bool) → eqb x a ≡ b → ((q : ℕ) → q < others a xs → get_or xs q 0 ≡ a → ⊥) → (q : ℕ) → q < cond b 0 (suc (others a xs)) → get_or (x ∷ xs) q 0 ≡ a → ⊥
      go true u f q h e = not-suc-le-zero h
      go false u f zero h e = eqb-false x a u e
      go false u f (suc q) h e = f q (le_of_suc-le-suc h) e

  others_end : (xs : List ℕ) → others a xs < length xs → get_or xs (others a xs) 0 ≡ a
  others_end [] h = absurd (not-suc-le-zero h)
  others_end (x ∷ xs) h = go (eqb x a) refl (others_end xs) h
    where
      go : (b : Bool) → eqb x a ≡ b → (others a xs < length xs → get_or xs (others a xs) 0 ≡ a) → cond b 0 (suc (others a xs)) < suc (length xs)
          → get_or (x ∷ xs) (cond b 0 (suc (others a xs))) 0 ≡ a
      go true u f h = eqb-true x a u
      go false u f h = f (le_of_suc-le-suc h)

-- ---- the next head from index i on

module _ (hs : List ℕ) (a i : ℕ) where
  others_cons : i < length hs → others a (drop i hs) ≡ cond (eqb (get_or hs i 0) a) 0 (suc (others a (drop (suc i) hs)))
  others_cons h = ap (others a) (drop-cons hs i 0 h)

  pub next_here : i < length hs → get_or hs i 0 ≡ a → i ≡ next_head hs a i
  unfolding next_head
  next_here h e =
      sym (ap (λ (k : ℕ). i + k) (others_cons h ∙ ap (λ (b : Bool). cond b 0 (suc (others a (drop (suc i) hs)))) (eq-eqb (get_or hs i 0) a e)) ∙ add-zero i)

  pub next_on : i < length hs → (get_or hs i 0 ≡ a → ⊥) → next_head hs a (i + 1) ≡ next_head hs a i
  unfolding next_head
  next_on h f =
      ap (λ (k : ℕ). k + others a (drop k hs)) (add-one i)
      ∙ omega (arith, others_cons h ∙ ap (λ (b : Bool). cond b 0 (suc (others a (drop (suc i) hs)))) (ne_eqb (get_or hs i 0) a f))

  pub next_end_lem : length hs ≤ i → i ≡ next_head hs a i
  unfolding next_head
  next_end_lem h = sym (ap (λ (xs : List ℕ). i + others a xs) (drop_of_length-le hs h) ∙ add-zero i)

  pub next_from : i ≤ next_head hs a i
  unfolding next_head
  next_from = omega arith

  pub next_fits : (k : ℕ) → i ≤ k → length hs ≤ k → next_head hs a i ≤ k
  unfolding next_head
  next_fits k h n = omega (arith, others_fit a (drop i hs), length-drop i hs, h, n)

  pub next_between : (q : ℕ) → i ≤ q → q < next_head hs a i → get_or hs q 0 ≡ a → ⊥
  unfolding next_head
  next_between q h n e =
      others_differ a (drop i hs) (q - i) (omega (arith, h, n)) (get_or-drop i hs (q - i) 0 ∙ ap (λ (k : ℕ). get_or hs k 0) (back q h) ∙ e)
    where
      back : (q : ℕ) → i ≤ q → i + (q - i) ≡ q
      back q h = omega (arith, h)

  pub next_at_lem : next_head hs a i < length hs → get_or hs (next_head hs a i) 0 ≡ a
  unfolding next_head
  next_at_lem h = sym (get_or-drop i hs (others a (drop i hs)) 0) ∙ others_end a (drop i hs) (omega (arith, length-drop i hs, h))

-- after a loop from `first` on that found none: i is the length, or `first` where that is more
pub next_none : (hs : List ℕ) (a i first k : ℕ) → length hs ≤ i → (first ≤ length hs → i ≤ length hs) → k ≡ max first (length hs)
    → {x : ℕ} → next_head hs a first ≡ x → next_head hs a i ≡ x → k ≡ x
next_none hs a i first k h f e {x} p q =
    ⊎_elim (λ (l : length hs ≤ first). past l ∙ next_end_lem hs a first l ∙ p)
    (λ (l : first < length hs). (let g : i ≤ length hs = f (omega (arith, l)) in at l g) ∙ next_end_lem hs a i h ∙ q) (le_or_lt (length hs) first)
  where
    past : length hs ≤ first → k ≡ first
    past l = omega (arith, e, l)

    at : first < length hs → i ≤ length hs → k ≡ i
    at l g = omega (arith, e, l, g, h)

-- ---- among the first m heads

module _ (hs : List ℕ) (m a i : ℕ) (h : m ≤ length hs) where
  pub next_in : i ≤ m → next_head (take m hs) a i ≤ m
  next_in k = next_fits (take m hs) a i m k (le_of_eq (length-take-le m hs h))

-- slots of rules with another head
pub others_empty : (hs : List ℕ) (a : ℕ) (v : ℕ → ℕ) (l q : ℕ) → 0 < l → l < q → q ≤ past_others hs a l → of_head hs a v q ≡ []
others_empty hs a v l q p h n =
    rw (ne_eqb q 1 (λ e. omega (arith, p, h, e)), ne_eqb (get_or hs (pred (pred q)) 0) a (next_between hs a (l - 1) (pred (pred q)) (omega (arith, p, h)) (omega (arith, p, h, n))))

-- the first m of 500 heads
module _ (xs : List ℕ) {ys : List ℕ} (s : length xs ≡ 500) (m : ℕ) (p : ys ≡ take m xs) (h : m ≤ 500) where
  front_length : length ys ≡ m
  front_length = ap length p ∙ length-take-le m xs (omega (arith, s, h))

  pub front_fits : length ys ≤ 500
  front_fits = omega (arith, front_length, h)

  pub front_slots : (l : ℕ) → l ≤ m + 1 → l ≤ length ys + 1
  front_slots l q = omega (arith, front_length, q)

  pub front_next : (a l : ℕ) {r : ℕ} → 0 < l → l < 2 ^ 16 → r ≡ next_head ys a (l - 1) → (r + 1 < 2 ^ 16) × (r + 1 ≡ past_others (take m xs) a l)
  front_next a l {r} f n e = (omega (arith, e, next_fits ys a (l - 1) (2 ^ 16 - 2) (omega (arith, f, n)) (omega (arith, front_fits))), ap (λ (k : ℕ). k + 1) (e ∙ ap (λ (hs : List ℕ). next_head hs a (l - 1)) p))

-- ---- several indexes at once

module _ (a : ℕ) where
  -- none of xs is a, and none was found before
  among_none : (xs : List ℕ) (b : Bool) → fold (λ (found : Bool) (x : ℕ). found || eqb x a) b xs ≡ false
      → (b ≡ false) × ((q : ℕ) → q < length xs → get_or xs q 0 ≡ a → ⊥)
  among_none [] b e = (e, λ q h. absurd (not-suc-le-zero h))
  among_none (x ∷ xs) b e =
      let r = among_none xs (b || eqb x a) e in
      let p = or_neither b (eqb x a) r.0 in
      (p.0, go p.1 r.1)
    where
      go : eqb x a ≡ false → ((q : ℕ) → q < length xs → get_or xs q 0 ≡ a → ⊥) → (q : ℕ) → q < suc (length xs) → get_or (x ∷ xs) q 0 ≡ a → ⊥
      go u f zero h = eqb-false x a u
      go u f (suc q) h = f q (le_of_suc-le-suc h)

  module _ (hs : List ℕ) (i : ℕ) where
    next_passed : (n : ℕ) → i + n ≤ length hs → ((q : ℕ) → q < n → get_or hs (i + q) 0 ≡ a → ⊥) → next_head hs a (i + n) ≡ next_head hs a i
    next_passed zero h f = ap (next_head hs a) (add-zero i)
    next_passed (suc n) h f =
        ap (next_head hs a) (shift i n) ∙ next_on hs a (i + n) (omega (arith, h)) (f n (omega arith)) ∙ next_passed n (omega (arith, h)) (λ q l. f q (omega (arith, l)))
      where
        shift : (i n : ℕ) → i + suc n ≡ i + n + 1
        shift i n = omega arith

    -- the test of the n heads from i on, as code has them
    pub next_eights : (n : ℕ) {k : ℕ} → k ≡ n → i + n ≤ length hs → among (take k (drop i hs)) a ≡ false → next_head hs a (i + n) ≡ next_head hs a i
    next_eights n {k} e h t =
        next_passed n h (λ q l p. (among_none (take n (drop i hs)) false (sym (ap (λ (j : ℕ). among (take j (drop i hs)) a) e) ∙ t)).1 q
        (omega (arith, l, length-take-le n (drop i hs) (omega (arith, h, length-drop i hs))))
        (get_or-take n (drop i hs) q 0 l ∙ get_or-drop i hs q 0 ∙ p))
