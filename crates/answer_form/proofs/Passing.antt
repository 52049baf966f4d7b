-- The pieces of specs/Reading.antt, beside the automaton.
--   Passes q u r n    n bytes of u lead from state q to state r
--   Fails q u n       u is not accepted from state q and leaves the form after n bytes
--   Heard q i u x     x is what `seek_from`, `literal_from` or `minus_from` may say of u in state q
--   Closed q i u c    the same for `close_from`
--   next_heard, close_heard   `next_literal` and `close_of` say what the automaton does
-- Assumes nothing.
use Prim.Native.Nat.{ℕ, suc, ◌+◌, ◌*◌, ◌-◌, ◌≤◌, ◌<◌, suc-le-suc}
use native.Mathlib.Nat.{zero-add, suc-add, add_assoc}
use native.Mathlib.Omega.{arith}
use mathlib.Core.Path.{◌≡◌, refl, sym, ◌∙◌, ap, subst}
use mathlib.Core.Bool.{Bool, true, false, So, cond, true≢false}
use mathlib.Core.List.{List, [], ◌∷◌}
use lib.Dec.{eqb, ltb}
use lib.ListN.{length, length-drop, drop}
use lib.Seq.{drop-drop}
use borrow.Author.Tests.{eqb-true, eqb-false, lt-ltb, ltb-false}
use Rattle.reader_form.specs.Automaton.{digit_test}
use Rattle.encoding.specs.Literal.{Literal}
use Literal.{var, −◌}
use Rattle.answer_form.specs.Machine.{accepted_by, read_by}
use Rattle.answer_form.specs.Answer.{named}
use Rattle.answer_form.specs.Automaton.{seek_step, literal_step, end_step, answer_step, may_end, answer_accepts, answer_leaves}
use Rattle.answer_form.specs.Pieces.{Next, digits_value, behind_digits, minus_from, literal_from, seek_from, next_literal, Close, close_from, close_of}
use Rattle.answer_form.proofs.Machine.{dead_rejects}
use Rattle.answer_form.proofs.Steps.{step_dead, step_space, step_minus, step_digits, step_behind}
use Rattle.answer_form.proofs.Accepted.{byte}

pub record Passes (q : ℕ) (u : List ℕ) (r n : ℕ) : Type 0 where
  pub within : n ≤ length u
  pub accept : answer_accepts q u ≡ answer_accepts r (drop n u)
  pub leave : answer_leaves q u ≡ n + answer_leaves r (drop n u)

pub record Fails (q : ℕ) (u : List ℕ) (n : ℕ) : Type 0 where
  pub reject : answer_accepts q u ≡ false
  pub leave : answer_leaves q u ≡ n

-- more bytes, of the text that follows
pub pass_then : (q r s n m : ℕ) (u : List ℕ) → Passes q u r n → Passes r (drop n u) s m → Passes q u s (n + m)
pass_then q r s n m u p o =
    record {
      within = omega (arith, p.within, o.within, length-drop n u);
      accept = p.accept ∙ o.accept ∙ ap (answer_accepts s) (drop-drop m n u);
      leave = p.leave ∙ ap (λ (k : ℕ). n + k) o.leave ∙ sym (add_assoc n m (answer_leaves s (drop m (drop n u)))) ∙ ap (λ (z : List ℕ). n + m + answer_leaves s z) (drop-drop m n u);
    }

pub fail_then : (q r n m : ℕ) (u : List ℕ) → Passes q u r n → Fails r (drop n u) m → Fails q u (n + m)
fail_then q r n m u p f = record { reject = p.accept ∙ f.reject; leave = p.leave ∙ ap (λ (k : ℕ). n + k) f.leave }

-- ---- one byte

leaves_on : (q b r : ℕ) (u : List ℕ) → answer_step q b ≡ r → eqb r 43 ≡ false → answer_leaves q (b ∷ u) ≡ suc (answer_leaves r u)
unfolding read_by
leaves_on q b r u e n = ap (λ (p : ℕ). cond (eqb p 43) 0 (suc (answer_leaves p u))) e ∙ rw n

pub pass_none : (q : ℕ) (u : List ℕ) → Passes q u q 0
pass_none q u = record { within = omega arith; accept = refl; leave = sym (zero-add (answer_leaves q u)) }

pub pass_byte : (q b r s n : ℕ) (u : List ℕ) → answer_step q b ≡ r → eqb r 43 ≡ false → Passes r u s n → Passes q (b ∷ u) s (suc n)
pass_byte q b r s n u e l p =
    record {
      within = suc-le-suc p.within;
      accept = byte q b r u e ∙ p.accept;
      leave = leaves_on q b r u e l ∙ ap suc p.leave ∙ sym (suc-add n (answer_leaves s (drop n u)));
    }

pub fail_byte : (q b r n : ℕ) (u : List ℕ) → answer_step q b ≡ r → eqb r 43 ≡ false → Fails r u n → Fails q (b ∷ u) (suc n)
fail_byte q b r n u e l f = record { reject = byte q b r u e ∙ f.reject; leave = leaves_on q b r u e l ∙ ap suc f.leave }

pub fail_here : (q b : ℕ) (u : List ℕ) → answer_step q b ≡ 43 → Fails q (b ∷ u) 0
unfolding read_by may_end
fail_here q b u e =
    record { reject = byte q b 43 u e ∙ dead_rejects answer_step may_end 43 step_dead refl u; leave = ap (λ (p : ℕ). cond (eqb p 43) 0 (suc (answer_leaves p u))) e }

pub fail_end : (q : ℕ) → may_end q ≡ false → Fails q [] 0
unfolding accepted_by read_by
fail_end q e = record { reject = e; leave = refl }

-- ---- what is heard of a text

pub data Heard (q i : ℕ) (u : List ℕ) : Next → Type 0 where
  a_literal : (l : Literal) (first behind n : ℕ) → So (named l) → i ≤ first → first < behind → behind ≡ i + n → Passes q u 35 n → Heard q i u (Next.literal l first behind)
  a_zero : (behind n : ℕ) → behind ≡ i + n → Passes q u 39 n → Heard q i u (Next.last behind)
  is_left : (spot n : ℕ) → spot ≡ i + n → Fails q u n → Heard q i u (Next.left spot)

heard_on : (q i b r : ℕ) (u : List ℕ) (x : Next) → answer_step q b ≡ r → eqb r 43 ≡ false → Heard r (i + 1) u x → Heard q i (b ∷ u) x
heard_on q i b r u x e l (a_literal m f g n p h k j s) = a_literal m f g (suc n) p (omega (arith, h)) k (omega (arith, j)) (pass_byte q b r 35 n u e l s)
heard_on q i b r u x e l (a_zero g n j s) = a_zero g (suc n) (omega (arith, j)) (pass_byte q b r 39 n u e l s)
heard_on q i b r u x e l (is_left g n j s) = is_left g (suc n) (omega (arith, j)) (fail_byte q b r n u e l s)

left_here : (q i b : ℕ) (u : List ℕ) → answer_step q b ≡ 43 → Heard q i (b ∷ u) (Next.left i)
left_here q i b u e = is_left i 0 (omega arith) (fail_here q b u e)

left_end : (q i : ℕ) → may_end q ≡ false → Heard q i [] (Next.left i)
left_end q i e = is_left i 0 (omega arith) (fail_end q e)

-- ---- digits

-- after its digits, a literal is followed as v is
digits_passed : (u : List ℕ) (i : ℕ) → (n : ℕ) × (behind_digits i u ≡ i + n) × Passes 38 u 35 n
unfolding behind_digits may_end accepted_by read_by
digits_passed [] i = (0, omega arith, record { within = omega arith; accept = refl; leave = refl })
digits_passed (b ∷ u) i = go (digit_test b) refl (digits_passed u (i + 1))
  where
    go : (d : Bool) → digit_test b ≡ d → (n : ℕ) × (behind_digits (i + 1) u ≡ i + 1 + n) × Passes 38 u 35 n → (n : ℕ) × (cond d (behind_digits (i + 1) u) i ≡ i + n) × Passes 38 (b ∷ u) 35 n
    go true e r = (suc r.0, r.1 ∙ omega arith, pass_byte 38 b 38 35 r.0 u (step_digits b ∙ rw e) refl r.2)
    go false e r = (
      0,
      omega arith,
      record {
        within = omega arith;
        accept = ap (λ (p : ℕ). answer_accepts p u) (step_behind b e);
        leave = ap (λ (p : ℕ). cond (eqb p 43) 0 (suc (answer_leaves p u))) (step_behind b e) ∙ sym (zero-add (answer_leaves 35 (b ∷ u)));
      },
    )

value_grows : (u : List ℕ) (v : ℕ) → v ≤ digits_value v u
unfolding digits_value
value_grows [] v = omega arith
value_grows (b ∷ u) v = go (digit_test b) (value_grows u (v * 10 + (b - 48)))
  where
    go : (d : Bool) → v * 10 + (b - 48) ≤ digits_value (v * 10 + (b - 48)) u → v ≤ cond d (digits_value (v * 10 + (b - 48)) u) v
    go true h = omega (arith, h)
    go false h = omega arith

-- a number that begins with a digit from 1 to 9
value_positive : (b : ℕ) (u : List ℕ) → eqb b 48 ≡ false → digit_test b ≡ true → 0 < digits_value 0 (b ∷ u)
unfolding digits_value digit_test
value_positive b u n e = rw e (omega (arith, value_grows u (0 * 10 + (b - 48)), above (ltb b 48) refl e))
  where
    above : (x : Bool) → ltb b 48 ≡ x → cond x false (ltb b 58) ≡ true → 48 < b
    above true f g = absurd (true≢false (sym g))
    above false f g = omega (arith, ltb-false b 48 f, eqb-false b 48 n)

behind_first : (b : ℕ) (u : List ℕ) (i : ℕ) → digit_test b ≡ true → behind_digits i (b ∷ u) ≡ behind_digits (i + 1) u
unfolding behind_digits
behind_first b u i e = rw e

-- the digits of a literal, from the state before them
digits_heard : (q i first b : ℕ) (u : List ℕ) → first ≤ i → answer_step q b ≡ 38 → digit_test b ≡ true
    → (n : ℕ) × (behind_digits i (b ∷ u) ≡ i + n) × (first < behind_digits i (b ∷ u)) × Passes q (b ∷ u) 35 n
digits_heard q i first b u k e d =
    let r = digits_passed u (i + 1) in
    let j : behind_digits i (b ∷ u) ≡ i + suc r.0 = behind_first b u i d ∙ r.1 ∙ omega arith in
    (suc r.0, j, omega (arith, j, k), pass_byte q b 38 35 r.0 u e refl r.2)

-- ---- literals

-- the index of the minus is i
minus_heard : (u : List ℕ) (i : ℕ) → Heard 36 i (45 ∷ u) (minus_from (i + 1) u)
unfolding minus_from answer_step literal_step may_end
minus_heard [] i = is_left (i + 1) 1 refl (fail_byte 36 45 37 0 [] refl refl (fail_end 37 refl))
minus_heard (b ∷ u) i = go (eqb b 48) refl (digit_test b) refl
  where
    go : (x : Bool) → eqb b 48 ≡ x → (y : Bool) → digit_test b ≡ y
        → Heard 36 i (45 ∷ b ∷ u) (cond x (Next.left (i + 1)) (cond y (Next.literal (− (digits_value 0 (b ∷ u))) (i + 1 - 1) (behind_digits (i + 1) (b ∷ u))) (Next.left (i + 1))))
    go true e y f = is_left (i + 1) 1 refl (fail_byte 36 45 37 0 (b ∷ u) refl refl (fail_here 37 b u (step_minus b ∙ rw e)))
    go false e true f =
        let p = lt-ltb 0 (digits_value 0 (b ∷ u)) (value_positive b u e f) in
        let r = digits_heard 37 (i + 1) i b u (omega arith) (step_minus b ∙ rw (e, f)) f in
        a_literal (− (digits_value 0 (b ∷ u))) (i + 1 - 1) (behind_digits (i + 1) (b ∷ u)) (suc r.0) p (omega arith) (omega (arith, r.2)) (r.1 ∙ omega arith)
        (pass_byte 36 45 37 35 r.0 (b ∷ u) refl refl r.3)
    go false e false f = is_left (i + 1) 1 refl (fail_byte 36 45 37 0 (b ∷ u) refl refl (fail_here 37 b u (step_minus b ∙ rw (e, f))))

literal_heard : (u : List ℕ) (i : ℕ) → Heard 36 i u (literal_from i u)
unfolding literal_from may_end
literal_heard [] i = left_end 36 i refl
literal_heard (b ∷ u) i = go (eqb b 45) refl (eqb b 48) refl (digit_test b) refl
  where
    go : (x : Bool) → eqb b 45 ≡ x → (y : Bool) → eqb b 48 ≡ y → (z : Bool) → digit_test b ≡ z
        → Heard 36 i (b ∷ u) (cond x (minus_from (i + 1) u) (cond y (Next.last (i + 1)) (cond z (Next.literal (var (digits_value 0 (b ∷ u))) i (behind_digits i (b ∷ u))) (Next.left i))))
    go true e y f z g = subst (λ (c : ℕ). Heard 36 i (c ∷ u) (minus_from (i + 1) u)) (sym (eqb-true b 45 e)) (minus_heard u i)
    go false e true f z g = a_zero (i + 1) 1 refl (pass_byte 36 b 39 39 0 u (step_space b ∙ rw (e, f)) refl (pass_none 39 u))
    go false e false f true g =
        let p = lt-ltb 0 (digits_value 0 (b ∷ u)) (value_positive b u f g) in
        let r = digits_heard 36 i i b u (omega arith) (step_space b ∙ rw (e, f, g)) g in
        a_literal (var (digits_value 0 (b ∷ u))) i (behind_digits i (b ∷ u)) r.0 p (omega arith) r.2 r.1 r.3
    go false e false f false g = left_here 36 i b u (step_space b ∙ rw (e, f, g))

-- ---- between literals

pub data Between : ℕ → Type 0 where
  start : Between 33
  note : Between 34
  line : Between 35

between_step : (q b : ℕ) → Between q → answer_step q b ≡ seek_step q b
unfolding answer_step
between_step q b start = refl
between_step q b note = refl
between_step q b line = refl

between_goes_on : (q : ℕ) → Between q → may_end q ≡ false
unfolding may_end
between_goes_on q start = refl
between_goes_on q note = refl
between_goes_on q line = refl

between_stays : (q b : ℕ) → Between q → eqb (seek_step q b) 36 ≡ false → eqb (seek_step q b) 43 ≡ false → Between (seek_step q b)
unfolding seek_step
between_stays q b start f g = go (eqb b 99) (eqb b 118) f g
  where
    go : (x y : Bool) → eqb (cond x 34 (cond y 35 43)) 36 ≡ false → eqb (cond x 34 (cond y 35 43)) 43 ≡ false → Between (cond x 34 (cond y 35 43))
    go true y f g = note
    go false true f g = line
    go false false f g = absurd (true≢false g)
between_stays q b note f g = go (eqb b 10)
  where
    go : (x : Bool) → Between (cond x 33 34)
    go true = start
    go false = note
between_stays q b line f g = go (eqb b 32) (eqb b 10) f g
  where
    go : (x y : Bool) → eqb (cond x 36 (cond y 33 43)) 36 ≡ false → eqb (cond x 36 (cond y 33 43)) 43 ≡ false → Between (cond x 36 (cond y 33 43))
    go true y f g = absurd (true≢false f)
    go false true f g = start
    go false false f g = absurd (true≢false g)

seek_heard : (u : List ℕ) (q i : ℕ) → Between q → Heard q i u (seek_from q i u)
unfolding seek_from
seek_heard [] q i w = left_end q i (between_goes_on q w)
seek_heard (b ∷ u) q i w = go (eqb (seek_step q b) 36) refl (eqb (seek_step q b) 43) refl (seek_heard u (seek_step q b) (i + 1))
  where
    go : (x : Bool) → eqb (seek_step q b) 36 ≡ x → (y : Bool) → eqb (seek_step q b) 43 ≡ y
        → (Between (seek_step q b) → Heard (seek_step q b) (i + 1) u (seek_from (seek_step q b) (i + 1) u))
        → Heard q i (b ∷ u) (cond x (literal_from (i + 1) u) (cond y (Next.left i) (seek_from (seek_step q b) (i + 1) u)))
    go true e y f ih = heard_on q i b 36 u _ (between_step q b w ∙ eqb-true (seek_step q b) 36 e) refl (literal_heard u (i + 1))
    go false e true f ih = left_here q i b u (between_step q b w ∙ eqb-true (seek_step q b) 43 f)
    go false e false f ih = heard_on q i b (seek_step q b) u _ (between_step q b w) f (ih (between_stays q b w e f))

pub next_heard : (t : List ℕ) (p : ℕ) → Heard 35 p (drop p t) (next_literal t p)
unfolding next_literal
next_heard t p = seek_heard (drop p t) 35 p line

-- ---- after literal 0

pub data Closed (q i : ℕ) (u : List ℕ) : Close → Type 0 where
  is_fine : answer_accepts q u ≡ true → Closed q i u Close.fine
  is_left : (spot n : ℕ) → spot ≡ i + n → Fails q u n → Closed q i u (Close.left spot)

closed_on : (q i b r : ℕ) (u : List ℕ) (c : Close) → answer_step q b ≡ r → eqb r 43 ≡ false → Closed r (i + 1) u c → Closed q i (b ∷ u) c
closed_on q i b r u c e l (is_fine a) = is_fine (byte q b r u e ∙ a)
closed_on q i b r u c e l (Closed.is_left g n j f) = Closed.is_left g (suc n) (omega (arith, j)) (fail_byte q b r n u e l f)

data Ending : ℕ → Type 0 where
  behind : Ending 39
  start : Ending 40
  note : Ending 41

ending_step : (q b : ℕ) → Ending q → answer_step q b ≡ end_step q b
unfolding answer_step
ending_step q b behind = refl
ending_step q b Ending.start = refl
ending_step q b Ending.note = refl

ending_stays : (q b : ℕ) → Ending q → eqb (end_step q b) 43 ≡ false → Ending (end_step q b)
unfolding end_step
ending_stays q b behind f = go (eqb b 10) f
  where
    go : (x : Bool) → eqb (cond x 40 43) 43 ≡ false → Ending (cond x 40 43)
    go true f = Ending.start
    go false f = absurd (true≢false f)
ending_stays q b Ending.start f = go (eqb b 99) f
  where
    go : (x : Bool) → eqb (cond x 41 43) 43 ≡ false → Ending (cond x 41 43)
    go true f = Ending.note
    go false f = absurd (true≢false f)
ending_stays q b Ending.note f = go (eqb b 10)
  where
    go : (x : Bool) → Ending (cond x 40 41)
    go true = Ending.start
    go false = Ending.note

ended_closed : (q i : ℕ) → Ending q → Closed q i [] (cond (eqb q 40) Close.fine (Close.left i))
unfolding accepted_by may_end
ended_closed q i behind = Closed.is_left i 0 (omega arith) (fail_end 39 refl)
ended_closed q i Ending.start = is_fine refl
ended_closed q i Ending.note = Closed.is_left i 0 (omega arith) (fail_end 41 refl)

close_all : (u : List ℕ) (q i : ℕ) → Ending q → Closed q i u (close_from q i u)
unfolding close_from
close_all [] q i w = ended_closed q i w
close_all (b ∷ u) q i w = go (eqb (end_step q b) 43) refl (close_all u (end_step q b) (i + 1))
  where
    go : (x : Bool) → eqb (end_step q b) 43 ≡ x → (Ending (end_step q b) → Closed (end_step q b) (i + 1) u (close_from (end_step q b) (i + 1) u))
        → Closed q i (b ∷ u) (cond x (Close.left i) (close_from (end_step q b) (i + 1) u))
    go true e ih = Closed.is_left i 0 (omega arith) (fail_here q b u (ending_step q b w ∙ eqb-true (end_step q b) 43 e))
    go false e ih = closed_on q i b (end_step q b) u _ (ending_step q b w) e (ih (ending_stays q b w e))

pub close_heard : (t : List ℕ) (i : ℕ) → Closed 39 i (drop i t) (close_of t i)
unfolding close_of
close_heard t i = close_all (drop i t) 39 i behind
