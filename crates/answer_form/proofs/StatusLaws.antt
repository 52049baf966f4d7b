-- The status line of specs/Reading.antt, beside the automaton and in printed answers.
--   Told i u x         x is what `status_from` may say of u after c lines
--   status_told        `status_of` says what the automaton does
--   status_model, status_none   the status of a printed answer
-- Assumes nothing.
use Prim.Native.Nat.{ℕ, suc, ◌+◌, ◌<◌, max}
use native.Mathlib.Nat.{zero-add}
use native.Mathlib.Omega.{arith}
use mathlib.Core.Path.{◌≡◌, refl, sym, ◌∙◌, ap, ap₂, subst}
use mathlib.Core.Bool.{Bool, true, false, not, So, cond}
use mathlib.Core.List.{List, [], ◌∷◌, ◌++◌, append_assoc}
use lib.Dec.{eqb}
use lib.ListN.{length, length-append, drop}
use lib.Seq.{drop-append_seam}
use borrow.Author.Tests.{eqb-true, eqb-false, ne_eqb, eq-eqb, not-true}
use Rattle.lists.specs.Lists.{all}
use Rattle.lists.specs.Ascii.{ascii}
use Rattle.lists.proofs.Bools.{and_left, and_right}
use Rattle.encoding.specs.Literal.{Literal}
use Rattle.answer_form.specs.Answer.{Comment, Line, Status, Answer, one_line, comment_text, comments_text, satisfiable_text, status_text, answer_text}
use Rattle.answer_form.specs.Machine.{accepted_by, read_by}
use Rattle.answer_form.specs.Automaton.{status_bytes, status_at, status_next, status_turn, status_step, seek_step, answer_step, may_end, answer_accepts}
use Rattle.answer_form.specs.Pieces.{Found, common, first_line, status_from, status_of, status_end}
use Rattle.answer_form.proofs.Steps.{remark_before}
use Rattle.answer_form.proofs.Accepted.{comment_then, rest_read}
use Rattle.answer_form.proofs.Unique.{Bare, satisfiable_bare, status_bare}
use Rattle.answer_form.proofs.Passing.{Passes, Fails, pass_then, fail_then, pass_none, pass_byte, fail_byte, fail_here, fail_end}

-- ---- a fixed string

-- from state q the bytes w, and no others, lead to state r
data Spells : ℕ → List ℕ → ℕ → Type 0 where
  done : {q : ℕ} → Spells q [] q
  then : {q c r s : ℕ} {w : List ℕ} → ((b : ℕ) → answer_step q b ≡ cond (eqb b c) r 43) → eqb r 43 ≡ false → may_end q ≡ false → Spells r w s → Spells q (c ∷ w) s

data Match (q : ℕ) (u w : List ℕ) (r : ℕ) : Type 0 where
  whole : common u w ≡ length w → Passes q u r (length w) → Match q u w r
  part : common u w < length w → Fails q u (common u w) → Match q u w r

spelled : (q r : ℕ) (w : List ℕ) → Spells q w r → (u : List ℕ) → Match q u w r
unfolding common
spelled q r w done u = whole refl (pass_none q u)
spelled q r w (then {r = p} {w = v} e l n s) [] = part (omega arith) (fail_end q n)
spelled q r w (then {c = c} {r = p} {w = v} e l n s) (b ∷ u) = go (eqb b c) refl (spelled p r v s u)
  where
    go : (x : Bool) → eqb b c ≡ x → Match p u v r → Match q (b ∷ u) (c ∷ v) r
    go true f (whole m g) = whole (rw f (ap suc m)) (pass_byte q b p r (length v) u (e b ∙ rw f) l g)
    go true f (part m g) = part (rw f (omega (arith, m))) (rw f (fail_byte q b p (common u v) u (e b ∙ rw f) l g))
    go false f m = part (rw f (omega arith)) (rw f (fail_here q b u (e b ∙ rw f)))

satisfiable_tail : Spells 3 (ascii "ATISFIABLE\n") 33
unfolding ascii answer_step status_step status_at status_bytes status_next status_turn may_end
satisfiable_tail =
    then (λ b. refl) refl refl (then (λ b. refl) refl refl (then (λ b. refl) refl refl (then (λ b. refl) refl refl (then (λ b. refl) refl refl (then (λ b. refl) refl refl
    (then (λ b. refl) refl refl (then (λ b. refl) refl refl (then (λ b. refl) refl refl (then (λ b. refl) refl refl (then (λ b. refl) refl refl done))))))))))

unsatisfiable_tail : Spells 16 (ascii "ATISFIABLE\n") 42
unfolding ascii answer_step status_step status_at status_bytes status_next status_turn may_end
unsatisfiable_tail =
    then (λ b. refl) refl refl (then (λ b. refl) refl refl (then (λ b. refl) refl refl (then (λ b. refl) refl refl (then (λ b. refl) refl refl (then (λ b. refl) refl refl
    (then (λ b. refl) refl refl (then (λ b. refl) refl refl (then (λ b. refl) refl refl (then (λ b. refl) refl refl (then (λ b. refl) refl refl done))))))))))

unknown_tail : Spells 27 (ascii "NOWN\n") 42
unfolding ascii answer_step status_step status_at status_bytes status_next status_turn may_end
unknown_tail = then (λ b. refl) refl refl (then (λ b. refl) refl refl (then (λ b. refl) refl refl (then (λ b. refl) refl refl (then (λ b. refl) refl refl done))))

-- ---- three strings at once

-- what is left of the three status lines has A, B and C bytes, of which u has a, b and c at its front
data Verdict (q : ℕ) (u : List ℕ) (A B C a b c : ℕ) : Type 0 where
  model : a ≡ A → Passes q u 33 A → Verdict q u A B C a b c
  second : a < A → b ≡ B → answer_accepts q u ≡ true → Verdict q u A B C a b c
  third : a < A → b < B → c ≡ C → answer_accepts q u ≡ true → Verdict q u A B C a b c
  none : a < A → b < B → c < C → Fails q u (max a (max b c)) → Verdict q u A B C a b c

accepts_first : (q x r : ℕ) (u : List ℕ) → answer_step q x ≡ r → answer_accepts r u ≡ true → answer_accepts q (x ∷ u) ≡ true
unfolding accepted_by
accepts_first q x r u e a = subst (λ (p : ℕ). answer_accepts p u ≡ true) (sym e) a

fails_at : (q n m : ℕ) (u : List ℕ) → n ≡ m → Fails q u n → Fails q u m
fails_at q n m u e f = subst (λ (k : ℕ). Fails q u k) e f

-- a byte of all three
all_three : (q x r : ℕ) (u : List ℕ) (A B C a b c : ℕ) → answer_step q x ≡ r → eqb r 43 ≡ false → Verdict r u A B C a b c → Verdict q (x ∷ u) (suc A) (suc B) (suc C) (suc a) (suc b) (suc c)
all_three q x r u A B C a b c e l (model f p) = model (ap suc f) (pass_byte q x r 33 A u e l p)
all_three q x r u A B C a b c e l (second f g p) = second (omega (arith, f)) (ap suc g) (accepts_first q x r u e p)
all_three q x r u A B C a b c e l (third f g h p) = third (omega (arith, f)) (omega (arith, g)) (ap suc h) (accepts_first q x r u e p)
all_three q x r u A B C a b c e l (none f g h p) =
    none (omega (arith, f)) (omega (arith, g)) (omega (arith, h)) (fails_at q _ _ (x ∷ u) (omega arith) (fail_byte q x r (max a (max b c)) u e l p))

-- a byte of the second and the third
last_two : (q x r : ℕ) (u : List ℕ) (A B C b c : ℕ) → 0 < A → answer_step q x ≡ r → eqb r 43 ≡ false → Verdict r u A B C 0 b c → Verdict q (x ∷ u) A (suc B) (suc C) 0 (suc b) (suc c)
last_two q x r u A B C b c z e l (model f p) = absurd (omega (arith, z, f))
last_two q x r u A B C b c z e l (second f g p) = second z (ap suc g) (accepts_first q x r u e p)
last_two q x r u A B C b c z e l (third f g h p) = third z (omega (arith, g)) (ap suc h) (accepts_first q x r u e p)
last_two q x r u A B C b c z e l (none f g h p) =
    none z (omega (arith, g)) (omega (arith, h)) (fails_at q _ _ (x ∷ u) (omega arith) (fail_byte q x r (max 0 (max b c)) u e l p))

-- a byte of none, or no byte
none_here : (q b : ℕ) (u : List ℕ) (A B C : ℕ) → 0 < A → 0 < B → 0 < C → answer_step q b ≡ 43 → Verdict q (b ∷ u) A B C 0 0 0
none_here q b u A B C x y z e = none x y z (fail_here q b u e)

none_end : (q A B C : ℕ) → 0 < A → 0 < B → 0 < C → may_end q ≡ false → Verdict q [] A B C 0 0 0
none_end q A B C x y z e = none x y z (fail_end q e)

-- a state past another status accepts
passed_accepts : (q n : ℕ) (u : List ℕ) → Passes q u 42 n → answer_accepts q u ≡ true
passed_accepts q n u p = p.accept ∙ rest_read (drop n u)

-- after "s UN"
abbrev AtFifteen : List ℕ → Type 0
AtFifteen u = Verdict 15 u 12 12 6 0 (common u (ascii "SATISFIABLE\n")) (common u (ascii "KNOWN\n"))

at_fifteen : (u : List ℕ) → AtFifteen u
unfolding common ascii answer_step status_step status_at status_bytes status_next status_turn may_end
at_fifteen [] = none_end 15 12 12 6 (omega arith) (omega arith) (omega arith) refl
at_fifteen (b ∷ u) = go (eqb b 83) refl (eqb b 75) refl
  where
    un : Match 16 u (ascii "ATISFIABLE\n") 42 → AtFifteen (83 ∷ u)
    un (whole m p) = second (omega arith) (ap suc m) (accepts_first 15 83 16 u refl (passed_accepts 16 11 u p))
    un (part m f) = none (omega arith) (omega (arith, m)) (omega arith) (fails_at 15 _ _ (83 ∷ u) (omega arith) (fail_byte 15 83 16 (common u (ascii "ATISFIABLE\n")) u refl refl f))

    known : Match 27 u (ascii "NOWN\n") 42 → AtFifteen (75 ∷ u)
    known (whole m p) = third (omega arith) (omega arith) (ap suc m) (accepts_first 15 75 27 u refl (passed_accepts 27 5 u p))
    known (part m f) = none (omega arith) (omega arith) (omega (arith, m)) (fails_at 15 _ _ (75 ∷ u) (omega arith) (fail_byte 15 75 27 (common u (ascii "NOWN\n")) u refl refl f))

    go : (x : Bool) → eqb b 83 ≡ x → (y : Bool) → eqb b 75 ≡ y → AtFifteen (b ∷ u)
    go true e y f = subst (λ (c : ℕ). AtFifteen (c ∷ u)) (sym (eqb-true b 83 e)) (un (spelled 16 42 _ unsatisfiable_tail u))
    go false e true f = subst (λ (c : ℕ). AtFifteen (c ∷ u)) (sym (eqb-true b 75 f)) (known (spelled 27 42 _ unknown_tail u))
    go false e false f = rw (e, f) (none_here 15 b u 12 12 6 (omega arith) (omega arith) (omega arith) (rw (e, f)))

-- after "s U"
abbrev AtFourteen : List ℕ → Type 0
AtFourteen u = Verdict 14 u 12 13 7 0 (common u (ascii "NSATISFIABLE\n")) (common u (ascii "NKNOWN\n"))

at_fourteen : (u : List ℕ) → AtFourteen u
unfolding common ascii answer_step status_step status_at status_bytes status_next status_turn may_end
at_fourteen [] = none_end 14 12 13 7 (omega arith) (omega arith) (omega arith) refl
at_fourteen (b ∷ u) = go (eqb b 78) refl
  where
    go : (x : Bool) → eqb b 78 ≡ x → AtFourteen (b ∷ u)
    go true e =
        subst (λ (c : ℕ). AtFourteen (c ∷ u)) (sym (eqb-true b 78 e))
        (last_two 14 78 15 u 12 12 6 (common u (ascii "SATISFIABLE\n")) (common u (ascii "KNOWN\n")) (omega arith) refl refl (at_fifteen u))
    go false e = rw e (none_here 14 b u 12 13 7 (omega arith) (omega arith) (omega arith) (rw e))

-- after "s "
abbrev AtTwo : List ℕ → Type 0
AtTwo u = Verdict 2 u 12 14 8 (common u (ascii "SATISFIABLE\n")) (common u (ascii "UNSATISFIABLE\n")) (common u (ascii "UNKNOWN\n"))

at_two : (u : List ℕ) → AtTwo u
unfolding common ascii answer_step status_step status_at status_bytes status_next status_turn may_end
at_two [] = none_end 2 12 14 8 (omega arith) (omega arith) (omega arith) refl
at_two (b ∷ u) = go (eqb b 83) refl (eqb b 85) refl
  where
    sat : Match 3 u (ascii "ATISFIABLE\n") 33 → AtTwo (83 ∷ u)
    sat (whole m p) = model (ap suc m) (pass_byte 2 83 3 33 11 u refl refl p)
    sat (part m f) = none (omega (arith, m)) (omega arith) (omega arith) (fails_at 2 _ _ (83 ∷ u) (omega arith) (fail_byte 2 83 3 (common u (ascii "ATISFIABLE\n")) u refl refl f))

    go : (x : Bool) → eqb b 83 ≡ x → (y : Bool) → eqb b 85 ≡ y → AtTwo (b ∷ u)
    go true e y f = subst (λ (c : ℕ). AtTwo (c ∷ u)) (sym (eqb-true b 83 e)) (sat (spelled 3 33 _ satisfiable_tail u))
    go false e true f =
        subst (λ (c : ℕ). AtTwo (c ∷ u)) (sym (eqb-true b 85 f))
        (last_two 2 85 14 u 12 13 7 (common u (ascii "NSATISFIABLE\n")) (common u (ascii "NKNOWN\n")) (omega arith) refl refl (at_fourteen u))
    go false e false f = rw (e, f) (none_here 2 b u 12 14 8 (omega arith) (omega arith) (omega arith) (rw (e, f)))

-- after "s"
abbrev AtOne : List ℕ → Type 0
AtOne u = Verdict 1 u 13 15 9 (common u (ascii " SATISFIABLE\n")) (common u (ascii " UNSATISFIABLE\n")) (common u (ascii " UNKNOWN\n"))

at_one : (u : List ℕ) → AtOne u
unfolding common ascii answer_step status_step status_at status_bytes status_next status_turn may_end
at_one [] = none_end 1 13 15 9 (omega arith) (omega arith) (omega arith) refl
at_one (b ∷ u) = go (eqb b 32) refl
  where
    go : (x : Bool) → eqb b 32 ≡ x → AtOne (b ∷ u)
    go true e = subst (λ (c : ℕ). AtOne (c ∷ u)) (sym (eqb-true b 32 e)) (all_three 1 32 2 u 12 14 8 _ _ _ refl refl (at_two u))
    go false e = rw e (none_here 1 b u 13 15 9 (omega arith) (omega arith) (omega arith) (rw e))

-- at a line's start
abbrev AtStart : List ℕ → Type 0
AtStart u = Verdict 0 u 14 16 10 (common u satisfiable_text) (common u (status_text Status.unsatisfiable)) (common u (status_text Status.unknown))

at_start : (u : List ℕ) → Bare u → AtStart u
unfolding common ascii answer_step status_step status_at status_bytes status_next status_turn may_end satisfiable_text status_text
at_start u Bare.nothing = none_end 0 14 16 10 (omega arith) (omega arith) (omega arith) refl
at_start v (Bare.byte {b = b} {u = u} n) = go (eqb b 115) refl
  where
    go : (x : Bool) → eqb b 115 ≡ x → AtStart (b ∷ u)
    go true e = subst (λ (c : ℕ). AtStart (c ∷ u)) (sym (eqb-true b 115 e)) (all_three 0 115 1 u 13 15 9 _ _ _ refl refl (at_one u))
    go false e = rw e (none_here 0 b u 14 16 10 (omega arith) (omega arith) (omega arith) (rw (e, ne_eqb b 99 n)))

-- ---- what is told of a text

pub data Told (i : ℕ) (u : List ℕ) : Found → Type 0 where
  a_model : (line_end n : ℕ) → line_end ≡ i + n → Passes 0 u 35 n → Told i u (Found.satisfiable line_end)
  another : (s : Status) → answer_accepts 0 u ≡ true → Told i u (Found.other s)
  is_left : (spot n : ℕ) → spot ≡ i + n → Fails 0 u n → Told i u (Found.left spot)

common_whole : (u w : List ℕ) → common u w ≡ length w → u ≡ w ++ drop (length w) u
unfolding common
common_whole u [] e = refl
common_whole [] (c ∷ w) e = absurd (omega (arith, e))
common_whole (b ∷ u) (c ∷ w) e = go (eqb b c) refl e (common_whole u w)
  where
    go : (x : Bool) → eqb b c ≡ x → cond x (suc (common u w)) 0 ≡ suc (length w) → (common u w ≡ length w → u ≡ w ++ drop (length w) u) → b ∷ u ≡ c ∷ (w ++ drop (length w) u)
    go true f e ih = ap₂ ◌∷◌ (eqb-true b c f) (ih (omega (arith, e)))
    go false f e ih = absurd (omega (arith, e))

-- the line end of "s SATISFIABLE" is read as one of a v line
line_end_lem : (v : List ℕ) → Passes 0 (satisfiable_text ++ v) 33 14 → Passes 0 (satisfiable_text ++ v) 35 13
unfolding satisfiable_text ascii accepted_by read_by answer_step seek_step
line_end_lem v p = record { within = omega (arith, p.within); accept = p.accept; leave = p.leave ∙ omega arith }

whole_model : (u : List ℕ) → common u satisfiable_text ≡ 14 → u ≡ satisfiable_text ++ drop 14 u
unfolding satisfiable_text ascii
whole_model u f = common_whole u satisfiable_text f

comment_start : (b : ℕ) → eqb b 99 ≡ true → answer_step 0 b ≡ 32
unfolding answer_step status_step status_at status_bytes status_turn ascii
comment_start b e = ap (answer_step 0) (eqb-true b 99 e)

pub status_from_lem : (i : ℕ) (u : List ℕ) → Bare u → Told i u (status_from i u)
unfolding status_from
status_from_lem i u n = go (at_start u n)
  where
    -- below a number is not at it
    less : (a b : ℕ) → a < b → eqb a b ≡ false
    less a b h = ne_eqb a b (λ e. omega (arith, h, e))

    go : AtStart u → Told i u (status_from i u)
    go (model f p) =
        rw (eq-eqb (common u satisfiable_text) 14 f)
        (a_model (i + 13) 13 refl (subst (λ (z : List ℕ). Passes 0 z 35 13) (sym (is f)) (line_end_lem (drop 14 u) (subst (λ (z : List ℕ). Passes 0 z 33 14) (is f) p))))
      where
        is : common u satisfiable_text ≡ 14 → u ≡ satisfiable_text ++ drop 14 u
        is f = whole_model u f
    go (second f g p) =
        rw (less (common u satisfiable_text) 14 f, eq-eqb (common u (status_text Status.unsatisfiable)) 16 g) (another Status.unsatisfiable p)
    go (third f g h p) =
        rw (less (common u satisfiable_text) 14 f, less (common u (status_text Status.unsatisfiable)) 16 g, eq-eqb (common u (status_text Status.unknown)) 10 h)
        (another Status.unknown p)
    go (none f g h p) =
        rw (less (common u satisfiable_text) 14 f, less (common u (status_text Status.unsatisfiable)) 16 g, less (common u (status_text Status.unknown)) 10 h)
        (is_left _ (max (common u satisfiable_text) (max (common u (status_text Status.unsatisfiable)) (common u (status_text Status.unknown)))) refl p)

-- ---- c lines before the status

-- a line's start before the status, and a c line there
data Before : ℕ → Type 0 where
  start : Before 0
  note : Before 32

record Reached (q i : ℕ) (u : List ℕ) : Type 0 where
  count : ℕ
  index : first_line q i u ≡ i + count
  passes : Passes q u 0 count
  bare : Bare (drop count u)

reached_on : (q i b r : ℕ) (u : List ℕ) → answer_step q b ≡ r → eqb r 43 ≡ false → first_line q i (b ∷ u) ≡ first_line r (i + 1) u → Reached r (i + 1) u → Reached q i (b ∷ u)
reached_on q i b r u e l f p =
    record { count = suc p.count; index = f ∙ p.index ∙ omega arith; passes = pass_byte q b r 0 p.count u e l p.passes; bare = p.bare }

first_reached : (u : List ℕ) (q i : ℕ) → Before q → Reached q i u
unfolding first_line may_end accepted_by read_by
first_reached [] q i start = record { count = 0; index = omega arith; passes = pass_none 0 []; bare = Bare.nothing }
first_reached [] q i note = record { count = 0; index = omega arith; passes = record { within = omega arith; accept = refl; leave = refl }; bare = Bare.nothing }
first_reached (b ∷ u) q i start = go (eqb b 99) refl (first_reached u 32 (i + 1) note)
  where
    go : (x : Bool) → eqb b 99 ≡ x → Reached 32 (i + 1) u → Reached 0 i (b ∷ u)
    go true e r = reached_on 0 i b 32 u (comment_start b e) refl (rw e) r
    go false e r = record { count = 0; index = rw e (omega arith); passes = pass_none 0 (b ∷ u); bare = Bare.byte (eqb-false b 99 e) }
first_reached (b ∷ u) q i note = go (eqb b 10) refl (first_reached u 0 (i + 1) start) (first_reached u 32 (i + 1) note)
  where
    go : (x : Bool) → eqb b 10 ≡ x → Reached 0 (i + 1) u → Reached 32 (i + 1) u → Reached 32 i (b ∷ u)
    go true e r s = reached_on 32 i b 0 u (remark_before.steps b ∙ rw e) refl (rw e) r
    go false e r s = reached_on 32 i b 32 u (remark_before.steps b ∙ rw e) refl (rw e) s

-- ---- the whole text

-- bytes that lead back to state 0 change nothing
told_behind : (i n : ℕ) (u : List ℕ) (x : Found) → Passes 0 u 0 n → Told (i + n) (drop n u) x → Told i u x
told_behind i n u x p (a_model e m j q) = a_model e (n + m) (omega (arith, j)) (pass_then 0 0 35 n m u p q)
told_behind i n u x p (another s a) = another s (p.accept ∙ a)
told_behind i n u x p (is_left s m j f) = is_left s (n + m) (omega (arith, j)) (fail_then 0 0 n m u p f)

pub status_told : (t : List ℕ) → Told 0 t (status_of t)
unfolding status_of
status_told t =
    let r = first_reached t 0 0 start in
    let e : first_line 0 0 t ≡ r.count = r.index ∙ zero-add r.count in
    subst (λ (k : ℕ). Told 0 t (status_from k (drop k t))) (sym e)
    (told_behind 0 r.count t _ r.passes
    (subst (λ (k : ℕ). Told k (drop r.count t) (status_from r.count (drop r.count t))) (sym (zero-add r.count)) (status_from_lem r.count (drop r.count t) r.bare)))

-- ---- printed answers

first_remark : (bs : Comment) → So (one_line bs) → (u : List ℕ) (i : ℕ) → first_line 32 i (bs ++ (10 ∷ u)) ≡ first_line 0 (i + length bs + 1) u
unfolding first_line
first_remark [] p u i = ap (λ (j : ℕ). first_line 0 j u) (omega arith)
first_remark (b ∷ bs) p u i =
    ap (λ (q : ℕ). first_line q (i + 1) (bs ++ (10 ∷ u))) (rw (not-true (eqb b 10) (and_left (not (eqb b 10)) (one_line bs) p)))
    ∙ first_remark bs (and_right (not (eqb b 10)) (one_line bs) p) u (i + 1) ∙ ap (λ (j : ℕ). first_line 0 j u) (omega arith)

first_bare : (u : List ℕ) → Bare u → (i : ℕ) → first_line 0 i u ≡ i
unfolding first_line
first_bare u Bare.nothing i = refl
first_bare u (Bare.byte {b = b} n) i = rw (ne_eqb b 99 n)

first_comment : (bs : Comment) → So (one_line bs) → (u : List ℕ) (i : ℕ) → first_line 0 i (comment_text bs ++ u) ≡ first_line 0 (i + length (comment_text bs)) u
unfolding first_line
first_comment bs p u i =
    ap (first_line 0 i) (comment_then bs u) ∙ first_remark bs p u (i + 1) ∙ ap (λ (j : ℕ). first_line 0 j u) (omega (arith, length-append bs (10 ∷ [])))

first_comments : (bss : List Comment) → So (all one_line bss) → (u : List ℕ) → Bare u → (i : ℕ) → first_line 0 i (comments_text bss ++ u) ≡ i + length (comments_text bss)
first_comments [] p u n i = first_bare u n i ∙ omega arith
first_comments (bs ∷ bss) p u n i =
    ap (first_line 0 i) (append_assoc (comment_text bs) (comments_text bss) u) ∙ first_comment bs (and_left (one_line bs) (all one_line bss) p) (comments_text bss ++ u) i
    ∙ first_comments bss (and_right (one_line bs) (all one_line bss) p) u n (i + length (comment_text bs)) ∙ omega (arith, length-append (comment_text bs) (comments_text bss))

status_behind : (bss : List Comment) → So (all one_line bss) → (u : List ℕ) → Bare u → status_of (comments_text bss ++ u) ≡ status_from (length (comments_text bss)) u
unfolding status_of
status_behind bss p u n =
    ap (λ (k : ℕ). status_from k (drop k (comments_text bss ++ u))) (first_comments bss p u n 0 ∙ zero-add (length (comments_text bss)))
    ∙ ap (status_from (length (comments_text bss))) (drop-append_seam (comments_text bss) u)

from_satisfiable : (i : ℕ) (u : List ℕ) → status_from i (satisfiable_text ++ u) ≡ Found.satisfiable (i + 13)
unfolding status_from common satisfiable_text status_text ascii
from_satisfiable i u = refl

from_other : (i : ℕ) (s : Status) (u : List ℕ) → status_from i (status_text s ++ u) ≡ Found.other s
unfolding status_from common satisfiable_text status_text ascii
from_other i Status.unsatisfiable u = refl
from_other i Status.unknown u = refl

pub status_model : (before : List Comment) (lines : List Line) (vs : List Literal) (after : List Comment) → So (all one_line before)
    → status_of (answer_text (Answer.model before lines vs after)) ≡ Found.satisfiable (status_end before)
unfolding answer_text
status_model before lines vs after p = status_behind before p (satisfiable_text ++ _) (satisfiable_bare _) ∙ from_satisfiable (length (comments_text before)) _

pub status_none : (before : List Comment) (s : Status) (rest : List ℕ) → So (all one_line before) → status_of (answer_text (Answer.no_model before s rest)) ≡ Found.other s
unfolding answer_text
status_none before s rest p = status_behind before p (status_text s ++ rest) (status_bare s rest) ∙ from_other (length (comments_text before)) s rest
