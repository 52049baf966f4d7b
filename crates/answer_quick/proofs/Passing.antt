-- One literal after the other, and the end.
--   ends_short            fewer than nine bytes are left
--   none_ends             no literal in the common form
--   size_few, value_some  the number of its bytes; its variable is above 0
--   stray_ends, old_ends  one of a variable above n; of one that has a value
--   some_goes             one literal more is assigned
-- Assumes nothing.
use Prim.Native.Nat.{ℕ, ◌+◌, ◌-◌, ◌≤◌, ◌<◌}
use mathlib.Core.Path.{◌≡◌, refl, sym, ◌∙◌, ap, subst}
use native.Mathlib.Omega.{arith}
use mathlib.Core.Logic.{◌⊎◌, inl, inr, ⊎_elim}
use mathlib.Core.Bool.{Bool, true, false, not, cond, ◌&&◌}
use mathlib.Core.List.{List}
use lib.Dec.{eqb, leb}
use lib.ListN.{length, get_or, set}
use borrow.Author.Tests.{eq-eqb, ne_eqb, eqb-true, eqb-false, lt-ltb, le-ltb, le-leb, lt-leb}
use Rattle.std.specs.Prelude.{Option, Some, None}
use Rattle.std.specs.Int.{from_bool}
use Rattle.encoding.specs.Literal.{Literal}
use Literal.{var, −◌}
use Rattle.answer_form.specs.Pieces.{Next, next_literal}
use Rattle.answer_quick.specs.declared.Quick.{Quick}
use Rattle.answer_quick.specs.Quick.{Spelt, some_quick, sign_value, quick_at, takes_quick, takes, Gives, Passes}
use Rattle.answer_quick.proofs.Reading.{Taken, quick_taken}

taken : (t : List ℕ) (n q : ℕ) (c : List ℕ) (x : Spelt) → 9 ≤ length t - q → x ≡ quick_at t q → (x.value ≡ 0 → ⊥) → x.value ≤ n → get_or c (x.value - 1) 0 ≡ 2
    → takes n t q c ≡ true
unfolding takes takes_quick
taken t n q c x l i k h e = rw (le-leb 9 (length t - q) l, ← i, ne_eqb x.value 0 k, le-ltb n x.value h, eq-eqb (get_or c (x.value - 1) 0) 2 e)

module _ (t : List ℕ) (n p : ℕ) (b : List ℕ) (q : ℕ) (c : List ℕ) (g : Gives t n p b q c) where
  gives_more : (x : Spelt) → Taken t q x → 9 ≤ length t - q → x ≡ quick_at t q → (x.value ≡ 0 → ⊥) → x.value ≤ n → get_or c (x.value - 1) 0 ≡ 2
      → (y : ℕ) → y ≡ sign_value x.minus → Gives t n p b (q + x.size) (set c (x.value - 1) y)
  unfolding sign_value
  gives_more x w l i k h e y f = ⊎_elim plain negated w.next
    where
      so : takes n t q c ≡ true
      so = taken t n q c x l i k h e

      by : (m v : ℕ) → x.minus ≡ m → sign_value m ≡ v → Gives t n p b (q + x.size) (set c (x.value - 1) v)
          → Gives t n p b (q + x.size) (set c (x.value - 1) y)
      by m v i j = subst (λ (u : ℕ). Gives t n p b (q + x.size) (set c (x.value - 1) u)) (sym (f ∙ ap sign_value i ∙ j))

      plain : (x.minus ≡ 0) × (next_literal t q ≡ Next.literal (var x.value) (q + 1) (q + x.size)) → Gives t n p b (q + x.size) (set c (x.value - 1) y)
      plain z = by 0 1 z.0 refl (Gives.plus x.value (q + 1) (q + x.size) g so z.1 h e)

      negated : (x.minus ≡ 1) × (next_literal t q ≡ Next.literal (− x.value) (q + 1) (q + x.size)) → Gives t n p b (q + x.size) (set c (x.value - 1) y)
      negated z = by 1 0 z.0 refl (Gives.minus x.value (q + 1) (q + x.size) g so z.1 h e)

  pub ends_short : length t - q < 9 → Passes t n p b q c
  unfolding takes
  ends_short h = record { each = g; ends = rw (lt-leb 9 (length t - q) h) }

  module _ (x : Spelt) (e : x ≡ quick_at t q) where
    not_taken : takes_quick n x c ≡ false → Passes t n p b q c
    unfolding takes
    not_taken h = record { each = g; ends = rw (← e, h) (go (leb 9 (length t - q))) }
      where
        go : (d : Bool) → (d && false) ≡ false
        go true = refl
        go false = refl

    ends_none : x.value ≡ 0 → Passes t n p b q c
    unfolding takes_quick
    ends_none h = not_taken (rw (eq-eqb x.value 0 h))

    ends_stray : (x.value ≡ 0 → ⊥) → n < x.value → Passes t n p b q c
    unfolding takes_quick
    ends_stray k h = not_taken (rw (ne_eqb x.value 0 k, lt-ltb n x.value h))

    ends_old : (x.value ≡ 0 → ⊥) → x.value ≤ n → (get_or c (x.value - 1) 0 ≡ 2 → ⊥) → Passes t n p b q c
    unfolding takes_quick
    ends_old k h d = not_taken (rw (ne_eqb x.value 0 k, le-ltb n x.value h, ne_eqb (get_or c (x.value - 1) 0) 2 d))

-- ---- by the code's answer

-- x is the literal of which the code answers q
record Told (x : Spelt) (q : Quick) : Type 0 where
  some : x.value ≡ 0 → ⊥
  value_is : x.value ≡ q.value
  minus_is : eqb x.minus 1 ≡ q.minus
  size_is : x.size ≡ q.size

told : (x : Spelt) (q : Quick) → some_quick x ≡ Some q → Told x q
told x q e = go (eqb x.value 0) refl e
  where
    go : (d : Bool) → eqb x.value 0 ≡ d → cond {A = Option Quick} d None (Some (record { value = x.value; minus = eqb x.minus 1; size = x.size })) ≡ Some q → Told x q
    go true f e = absurd (cc)
    go false f e =
        let same : record { value = x.value; minus = eqb x.minus 1; size = x.size } ≡ q = cc in
        record {
          some = eqb-false x.value 0 f;
          value_is = ap (λ (y : Quick). y.value) same;
          minus_is = ap (λ (y : Quick). y.minus) same;
          size_is = ap (λ (y : Quick). y.size) same;
        }

none_zero : (x : Spelt) → some_quick x ≡ None → x.value ≡ 0
none_zero x e = go (eqb x.value 0) refl e
  where
    go : (d : Bool) → eqb x.value 0 ≡ d → cond {A = Option Quick} d None (Some (record { value = x.value; minus = eqb x.minus 1; size = x.size })) ≡ None → x.value ≡ 0
    go true f e = eqb-true x.value 0 f
    go false f e = cc

module _ (t : List ℕ) (q : ℕ) (r : Option Quick) (e : r ≡ some_quick (quick_at t q)) where
  module _ (x : Quick) (d : r ≡ Some x) where
    is : Told (quick_at t q) x
    is = told (quick_at t q) x (sym e ∙ d)

    pub size_few : q + 9 ≤ length t → (2 ≤ x.size) × (x.size ≤ 6)
    size_few h = let w = quick_taken t q h (quick_at t q) refl is.some in (omega (arith, w.some, is.size_is), omega (arith, w.most, is.size_is))

    pub value_some : 0 < x.value
    value_some = omega (arith, is.some, is.value_is)

  module _ (n p : ℕ) (b c : List ℕ) (g : Gives t n p b q c) where
    pub none_ends : r ≡ None → Passes t n p b q c
    none_ends d = ends_none t n p b q c g (quick_at t q) refl (none_zero (quick_at t q) (sym e ∙ d))

    module _ (x : Quick) (d : r ≡ Some x) where
      w : Told (quick_at t q) x
      w = is x d

      pub stray_ends : n < x.value → Passes t n p b q c
      stray_ends h = ends_stray t n p b q c g (quick_at t q) refl w.some (omega (arith, h, w.value_is))

      pub old_ends : x.value ≤ n → (get_or c (x.value - 1) 0 ≡ 2 → ⊥) → Passes t n p b q c
      old_ends h k = ends_old t n p b q c g (quick_at t q) refl w.some (omega (arith, h, w.value_is)) (rw w.value_is k)

      pub some_goes : q + 9 ≤ length t → x.value ≤ n → get_or c (x.value - 1) 0 ≡ 2 → (y : ℕ) → y ≡ from_bool (not x.minus)
          → Gives t n p b (q + x.size) (set c (x.value - 1) y)
      unfolding sign_value
      some_goes h k l y f =
          let v = quick_taken t q h (quick_at t q) refl w.some in
          rw (← w.value_is, ← w.size_is)
          (gives_more t n p b q c g (quick_at t q) v (omega (arith, h)) refl w.some (omega (arith, k, w.value_is)) (rw w.value_is l) y (f ∙ signs v.next))
        where
          signs : ((quick_at t q).minus ≡ 0 × (next_literal t q ≡ Next.literal (var (quick_at t q).value) (q + 1) (q + (quick_at t q).size)))
              ⊎ ((quick_at t q).minus ≡ 1 × (next_literal t q ≡ Next.literal (− (quick_at t q).value) (q + 1) (q + (quick_at t q).size)))
              → from_bool (not x.minus) ≡ sign_value (quick_at t q).minus
          signs (inl z) = rw (← w.minus_is, z.0)
          signs (inr z) = rw (← w.minus_is, z.0)
