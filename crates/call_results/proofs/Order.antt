-- A call that refuses with the first row met, and accepts where none is met, does so exactly then.
--   first_one       one row is the first, with one spot
--   Told            a call refuses with the first row, or accepts where none is met
--   answers_first, first_answers, accepts_none, none_accepts   so it is exactly
-- Assumes nothing.
use Prim.Native.Nat.{ℕ}
use native.Mathlib.Nat.{le_antisymm}
use native.Mathlib.Omega.{arith}
use mathlib.Core.Path.{◌≡◌, subst}
use Rattle.call_results.specs.Order.{NotAfter, First}

not_after_both : (k r s l q u : ℕ) → NotAfter k r s l q u → NotAfter l q u k r s → (r ≡ q) × (s ≡ u)
not_after_both k r s l q u (NotAfter.earlier a) (NotAfter.earlier b) = absurd (omega (arith, a, b))
not_after_both k r s l q u (NotAfter.earlier a) (NotAfter.nearer e b) = absurd (omega (arith, a, e))
not_after_both k r s l q u (NotAfter.earlier a) (NotAfter.smaller e f b) = absurd (omega (arith, a, e))
not_after_both k r s l q u (NotAfter.nearer e a) (NotAfter.earlier b) = absurd (omega (arith, e, b))
not_after_both k r s l q u (NotAfter.nearer e a) (NotAfter.nearer f b) = absurd (omega (arith, a, b))
not_after_both k r s l q u (NotAfter.nearer e a) (NotAfter.smaller f g b) = absurd (omega (arith, a, g))
not_after_both k r s l q u (NotAfter.smaller e f a) (NotAfter.earlier b) = absurd (omega (arith, e, b))
not_after_both k r s l q u (NotAfter.smaller e f a) (NotAfter.nearer g b) = absurd (omega (arith, f, b))
not_after_both k r s l q u (NotAfter.smaller e f a) (NotAfter.smaller g h b) = (le_antisymm a b, f)

module _ (Met : ℕ → ℕ → ℕ → Type 0) where
  pub first_one : (r s q u : ℕ) → First Met r s → First Met q u → (r ≡ q) × (s ≡ u)
  first_one r s q u a b =
      not_after_both a.place r s b.place q u (a.first b.place q u b.met) (b.first a.place r s a.met)

  module _ (Answers : ℕ → ℕ → Type 0) (Accepts : Type 0) where
    pub data Told : Type 0 where
      at_row : (r s : ℕ) → First Met r s → Answers r s → Told
      met_none : Accepts → ((k r s : ℕ) → Met k r s → ⊥) → Told

    module _ (told : Told) where
      pub first_answers : (r s : ℕ) → First Met r s → Answers r s
      first_answers r s f = go told
        where
          go : Told → Answers r s
          go (at_row q u g a) = let e = first_one q u r s g f in subst (Answers r) e.1 (subst (λ (x : ℕ). Answers x u) e.0 a)
          go (met_none a none) = absurd (none f.place r s f.met)

      pub none_accepts : ((k r s : ℕ) → Met k r s → ⊥) → Accepts
      none_accepts none = go told
        where
          go : Told → Accepts
          go (at_row q u g a) = absurd (none g.place q u g.met)
          go (met_none a n) = a

      module _ (one_answer : (r s q u : ℕ) → Answers r s → Answers q u → (r ≡ q) × (s ≡ u)) (not_both : (r s : ℕ) → Answers r s → Accepts → ⊥) where
        pub answers_first : (r s : ℕ) → Answers r s → First Met r s
        answers_first r s a = go told
          where
            go : Told → First Met r s
            go (at_row q u g b) = let e = one_answer q u r s b a in subst (First Met r) e.1 (subst (λ (x : ℕ). First Met x u) e.0 g)
            go (met_none b none) = absurd (not_both r s a b)

        pub accepts_none : Accepts → (k r s : ℕ) → Met k r s → ⊥
        accepts_none a k r s m = go told
          where
            go : Told → ⊥
            go (at_row q u g b) = not_both q u b a
            go (met_none b none) = none k r s m
