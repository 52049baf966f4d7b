-- What a byte does in each state, and which state a byte can lead to.
--   step_status .. step_dead   each state's step
--   Remark q r        q is within a c line, and r is the line's start after it
--   step_behind       after a literal a byte that is no digit does what it does after v
--   Opens q           in state q a digit from 1 to 9 begins a literal
--   step_within       there are the states 0 to 43
-- Assumes nothing.
use Prim.Native.Nat.{ℕ, ◌+◌, ◌≤◌, ◌<◌}
use native.Mathlib.Omega.{arith}
use mathlib.Core.Path.{◌≡◌, refl, ◌∙◌}
use mathlib.Core.Bool.{Bool, true, false, cond}
use lib.Dec.{ltb, eqb}
use borrow.Author.Tests.{lt-ltb, ne_eqb, ltb-true}
use Rattle.reader_form.specs.Automaton.{digit_test}
use Rattle.reader_form.proofs.Digits.{is_digit}
use Rattle.answer_form.specs.Automaton.{status_at, status_next, status_turn, status_step, seek_step, literal_step, end_step, answer_step}

pub step_status : (q b : ℕ) → q < 32 → answer_step q b ≡ status_step q b
unfolding answer_step
step_status q b h = rw (lt-ltb q 32 h)

-- a c line, from which byte 10 leads to state r
pub record Remark (q r : ℕ) : Type 0 where
  pub steps : (b : ℕ) → answer_step q b ≡ cond (eqb b 10) r q

pub remark_before : Remark 32 0
unfolding answer_step seek_step literal_step end_step
remark_before = record { steps = λ b. refl }

pub remark_between : Remark 34 33
unfolding answer_step seek_step literal_step end_step
remark_between = record { steps = λ b. refl }

pub remark_after : Remark 41 40
unfolding answer_step seek_step literal_step end_step
remark_after = record { steps = λ b. refl }

pub step_line : (b : ℕ) → answer_step 33 b ≡ cond (eqb b 99) 34 (cond (eqb b 118) 35 43)
unfolding answer_step seek_step literal_step end_step
step_line b = refl

pub step_between : (b : ℕ) → answer_step 35 b ≡ cond (eqb b 32) 36 (cond (eqb b 10) 33 43)
unfolding answer_step seek_step literal_step
step_between b = refl

pub step_space : (b : ℕ) → answer_step 36 b ≡ cond (eqb b 45) 37 (cond (eqb b 48) 39 (cond (digit_test b) 38 43))
unfolding answer_step seek_step literal_step end_step
step_space b = refl

pub step_minus : (b : ℕ) → answer_step 37 b ≡ cond (eqb b 48) 43 (cond (digit_test b) 38 43)
unfolding answer_step seek_step literal_step end_step
step_minus b = refl

pub step_digits : (b : ℕ) → answer_step 38 b ≡ cond (digit_test b) 38 (cond (eqb b 32) 36 (cond (eqb b 10) 33 43))
unfolding answer_step seek_step literal_step
step_digits b = refl

pub step_zero : (b : ℕ) → answer_step 39 b ≡ cond (eqb b 10) 40 43
unfolding answer_step seek_step literal_step end_step
step_zero b = refl

pub step_after : (b : ℕ) → answer_step 40 b ≡ cond (eqb b 99) 41 43
unfolding answer_step seek_step literal_step end_step
step_after b = refl

pub step_rest : (b : ℕ) → answer_step 42 b ≡ 42
unfolding answer_step seek_step literal_step end_step
step_rest b = refl

pub step_dead : (b : ℕ) → answer_step 43 b ≡ 43
unfolding answer_step seek_step literal_step end_step
step_dead b = refl

-- after a literal, a byte that is no digit does what it does after v
pub step_behind : (b : ℕ) → digit_test b ≡ false → answer_step 38 b ≡ answer_step 35 b
unfolding answer_step seek_step literal_step end_step
step_behind b n = rw n

-- ---- digits

pub step_digit : (d : ℕ) → d < 10 → answer_step 38 (48 + d) ≡ 38
step_digit d h = step_digits (48 + d) ∙ rw (is_digit d h)

-- the first digit of a literal that is not 0, after a space or a minus
pub record Opens (q : ℕ) : Type 0 where
  pub opens : (d : ℕ) → 0 < d → d < 10 → answer_step q (48 + d) ≡ 38

pub space_opens : Opens 36
space_opens = record { opens = λ d z h. step_space (48 + d) ∙ rw (ne_eqb (48 + d) 45 (λ e. omega (arith, e)), ne_eqb (48 + d) 48 (λ e. omega (arith, e, z)), is_digit d h) }

pub minus_opens : Opens 37
minus_opens = record { opens = λ d z h. step_minus (48 + d) ∙ rw (ne_eqb (48 + d) 48 (λ e. omega (arith, e, z)), is_digit d h) }

-- ---- the states that there are

pick : (c : Bool) {x y : ℕ} → x ≤ 43 → y ≤ 43 → cond c x y ≤ 43
pick true h k = h
pick false h k = k

pub step_within : (q b : ℕ) → answer_step q b ≤ 43
unfolding answer_step status_step status_next status_turn seek_step literal_step end_step
step_within q b = go (ltb q 32) refl
  where
    lit : (x : ℕ) → ltb x 44 ≡ true → x ≤ 43
    lit x e = omega (arith, ltb-true x 44 e)

    status : q < 32 → status_step q b ≤ 43
    status h =
        pick (eqb b (status_at q))
        (pick (eqb q 13) (lit 33 refl) (pick (eqb q 26) (lit 42 refl) (pick (eqb q 31) (lit 42 refl) (omega (arith, h)))))
        (pick (eqb q 0) (pick (eqb b 99) (lit 32 refl) (lit 43 refl))
        (pick (eqb q 2) (pick (eqb b 85) (lit 14 refl) (lit 43 refl))
        (pick (eqb q 15) (pick (eqb b 75) (lit 27 refl) (lit 43 refl)) (lit 43 refl))))

    between : cond (eqb b 32) 36 (cond (eqb b 10) 33 43) ≤ 43
    between = pick (eqb b 32) (lit 36 refl) (pick (eqb b 10) (lit 33 refl) (lit 43 refl))

    seek : seek_step q b ≤ 43
    seek =
        pick (eqb q 33) (pick (eqb b 99) (lit 34 refl) (pick (eqb b 118) (lit 35 refl) (lit 43 refl)))
        (pick (eqb q 34) (pick (eqb b 10) (lit 33 refl) (lit 34 refl)) between)

    literal : literal_step q b ≤ 43
    literal =
        pick (eqb q 36) (pick (eqb b 45) (lit 37 refl) (pick (eqb b 48) (lit 39 refl) (pick (digit_test b) (lit 38 refl) (lit 43 refl))))
        (pick (eqb q 37) (pick (eqb b 48) (lit 43 refl) (pick (digit_test b) (lit 38 refl) (lit 43 refl))) (pick (digit_test b) (lit 38 refl) between))

    end : end_step q b ≤ 43
    end =
        pick (eqb q 39) (pick (eqb b 10) (lit 40 refl) (lit 43 refl))
        (pick (eqb q 40) (pick (eqb b 99) (lit 41 refl) (lit 43 refl)) (pick (eqb b 10) (lit 40 refl) (lit 41 refl)))

    go : (c : Bool) → ltb q 32 ≡ c
        → cond c (status_step q b) (cond (eqb q 32) (cond (eqb b 10) 0 32) (cond (ltb q 36) (seek_step q b) (cond (ltb q 39) (literal_step q b) (cond (ltb q 42) (end_step q b) (cond (eqb q 42) 42 43)))))
        ≤ 43
    go true e = status (ltb-true q 32 e)
    go false e =
        pick (eqb q 32) (pick (eqb b 10) (lit 0 refl) (lit 32 refl))
        (pick (ltb q 36) seek (pick (ltb q 39) literal (pick (ltb q 42) end (pick (eqb q 42) (lit 42 refl) (lit 43 refl)))))
