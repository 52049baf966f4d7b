-- Any automaton of which each live state has an ending, and whose dead state has none: where a text leaves it.
--   Ended q t           some bytes after t are accepted
--   ended               so it is where any numbers after t are accepted
--   LeftAt q t n        n bytes of t are read before no ending is accepted
--   left                a text that is not accepted is left where `read_by` says
-- Assumes nothing.
use Prim.Native.Nat.{ℕ, suc, ◌+◌, ◌≤◌, ◌<◌, suc-le-suc}
use native.Mathlib.Nat.{not-suc-le-zero, le_of_suc-le-suc, suc-add}
use native.Mathlib.Omega.{arith}
use mathlib.Core.Path.{◌≡◌, refl, sym, ◌∙◌, ap}
use mathlib.Core.Bool.{Bool, true, false, So, cond, true≢false}
use mathlib.Core.List.{List, [], ◌∷◌, ◌++◌}
use lib.Dec.{eqb}
use lib.ListN.{length, take}
use borrow.Author.Tests.{eqb-true}
use Rattle.text.specs.Bytes.{are_bytes}
use Rattle.answer_form.specs.Machine.{accepted_by, read_by}

module _ (step : ℕ → ℕ → ℕ) (final : ℕ → Bool) where
  -- some bytes after t are accepted
  pub record Ended (q : ℕ) (t : List ℕ) : Type 0 where
    pub ending : List ℕ
    pub bytes : So (are_bytes ending)
    pub gives : accepted_by step final q (t ++ ending) ≡ true

  ended_more : (q b : ℕ) (t : List ℕ) → Ended (step q b) t → Ended q (b ∷ t)
  unfolding accepted_by
  ended_more q b t e = record { ending = e.ending; bytes = e.bytes; gives = e.gives }

  pub record LeftAt (q : ℕ) (t : List ℕ) (n : ℕ) : Type 0 where
    pub within : n ≤ length t
    pub before : Ended q (take n t)
    pub gone : n < length t → (e : List ℕ) → accepted_by step final q (take (n + 1) t ++ e) ≡ false

  module _ (dead : ℕ) (stays : (b : ℕ) → step dead b ≡ dead) (fails : final dead ≡ false) where
    pub dead_rejects : (t : List ℕ) → accepted_by step final dead t ≡ false
    unfolding accepted_by
    dead_rejects [] = fails
    dead_rejects (b ∷ t) = ap (λ (q : ℕ). accepted_by step final q t) (stays b) ∙ dead_rejects t

    -- live states lead to live ones or to the dead one, and have endings
    module _ (live : ℕ → Type 0) (lively : (q b : ℕ) → live q → eqb (step q b) dead ≡ false → live (step q b))
        (ends : (q : ℕ) → live q → Ended q []) where
      pub ended : (t u : List ℕ) (q : ℕ) → live q → accepted_by step final q (t ++ u) ≡ true → Ended q t
      unfolding accepted_by
      ended [] u q l a = ends q l
      ended (b ∷ t) u q l a = go (eqb (step q b) dead) refl (ended t u (step q b))
        where
          go : (d : Bool) → eqb (step q b) dead ≡ d
              → (live (step q b) → accepted_by step final (step q b) (t ++ u) ≡ true → Ended (step q b) t) → Ended q (b ∷ t)
          go true f ih =
              absurd (true≢false (sym a ∙ ap (λ (p : ℕ). accepted_by step final p (t ++ u)) (eqb-true (step q b) dead f) ∙ dead_rejects (t ++ u)))
          go false f ih = ended_more q b t (ih (lively q b l f) a)

      pub left : (t : List ℕ) (q : ℕ) → live q → accepted_by step final q t ≡ false → LeftAt q t (read_by step dead q t)
      unfolding accepted_by read_by
      left [] q l e = record { within = omega arith; before = ends q l; gone = λ h. absurd (not-suc-le-zero h) }
      left (b ∷ t) q l e = go (eqb (step q b) dead) refl (left t (step q b))
        where
          go : (d : Bool) → eqb (step q b) dead ≡ d
              → (live (step q b) → accepted_by step final (step q b) t ≡ false → LeftAt (step q b) t (read_by step dead (step q b) t))
              → LeftAt q (b ∷ t) (cond d 0 (suc (read_by step dead (step q b) t)))
          go true f ih =
              record {
                within = omega arith;
                before = ends q l;
                gone = λ h u. ap (λ (p : ℕ). accepted_by step final p u) (eqb-true (step q b) dead f) ∙ dead_rejects u;
              }
          go false f ih =
              let r = ih (lively q b l f) e in
              record {
                within = suc-le-suc r.within;
                before = ended_more q b (take (read_by step dead (step q b) t) t) r.before;
                gone = λ h u.
                    ap (λ (n : ℕ). accepted_by step final q (take n (b ∷ t) ++ u)) (suc-add (read_by step dead (step q b) t) 1)
                    ∙ r.gone (le_of_suc-le-suc h) u;
              }
