-- A text that is accepted has the form. For each state: what the rest of an accepted text is. One byte before it gives what the rest is in the state
-- before; so from the end of the text back to its start.
--   prefix_of q        what is read of a status line in state q
--   Noted P t         the rest of a comment, and a text with P
--   After, Body, InLine, Spaced, Digits    c lines after the end; all after the status line; the rest of a v line; that from a literal on; that from a digit on
--   Rests t           what t is, for each state from which it is accepted
--   sound             an accepted text has the form
-- Assumes nothing.
use Prim.Native.Nat.{ℕ, zero, suc, ◌+◌, ◌*◌, ◌<◌}
use native.Mathlib.Nat.{not-suc-le-zero}
use native.Mathlib.Omega.{arith}
use mathlib.Core.Path.{◌≡◌, refl, sym, ◌∙◌, ap, ap₂, subst}
use mathlib.Core.Bool.{Bool, true, false, So, cond, false≢true}
use mathlib.Core.List.{List, [], ◌∷◌, ◌++◌, append_assoc, append-nil}
use lib.Dec.{eqb}
use borrow.Author.Tests.{eqb-true, eqb-false, lt-ltb, ne_eqb}
use Rattle.lists.specs.Lists.{all}
use Rattle.lists.specs.Ascii.{ascii}
use Rattle.lists.proofs.Bools.{and_in, and_left, and_right}
use Rattle.encoding.specs.Literal.{Literal, literal_number}
use Literal.{var, −◌}
use Rattle.digits.specs.Bytes.{literal_text}
use Rattle.text.specs.Decimal.{decimal}
use Rattle.text.proofs.Decimals.{decimal_small, decimal_snoc}
use Rattle.reader_form.specs.Automaton.{digit_test}
use Rattle.reader_form.proofs.Digits.{digit_of_lem}
use Rattle.answer_form.specs.Machine.{accepted_by}
use Rattle.answer_form.specs.Answer.{Comment, Line, Status, Answer, one_line, named, line_proper, proper, comment_text, comments_text, spaced_text, lines_text, satisfiable_text, status_text, answer_text, HasAnswerForm}
use Rattle.answer_form.specs.Automaton.{status_bytes, status_at, status_next, status_turn, status_step, answer_step, may_end, answer_accepts}
use Rattle.answer_form.proofs.Machine.{dead_rejects}
use Rattle.answer_form.proofs.Steps.{Remark, remark_before, remark_between, remark_after, step_status, step_line, step_between, step_space, step_minus, step_digits, step_zero, step_after, step_dead}
use Rattle.answer_form.proofs.Accepted.{comment_then}

-- ---- what the rest of a text is

pub record Noted (P : List ℕ → Type 0) (t : List ℕ) : Type 0 where
  pub note : Comment
  pub rest : List ℕ
  pub is : t ≡ note ++ (10 ∷ rest)
  pub one_line_lem : So (one_line note)
  pub then : P rest

pub record After (t : List ℕ) : Type 0 where
  pub comments : List Comment
  pub is : t ≡ comments_text comments
  pub one_line_lem : So (all one_line comments)

pub record Body (t : List ℕ) : Type 0 where
  pub lines : List Line
  pub last : List Literal
  pub after : List Comment
  pub is : t ≡ lines_text lines ++ ((118 ∷ (spaced_text last ++ (32 ∷ 48 ∷ 10 ∷ []))) ++ comments_text after)
  pub lines_proper : So (all line_proper lines)
  pub last_named : So (all named last)
  pub one_line_lem : So (all one_line after)

-- how a v line goes on after its literals
pub data LineEnd : List ℕ → Type 0 where
  ended : {t : List ℕ} → Body t → LineEnd (10 ∷ t)
  zeroed : {t : List ℕ} → After t → LineEnd (32 ∷ 48 ∷ 10 ∷ t)

pub record InLine (t : List ℕ) : Type 0 where
  pub literals : List Literal
  pub rest : List ℕ
  pub is : t ≡ spaced_text literals ++ rest
  pub all_named : So (all named literals)
  pub then : LineEnd rest

pub data Spaced : List ℕ → Type 0 where
  another : {t : List ℕ} (l : Literal) (u : List ℕ) → t ≡ literal_text (literal_number l) ++ u → So (named l) → InLine u → Spaced t
  zero_end : {t : List ℕ} → After t → Spaced (48 ∷ 10 ∷ t)

pub record Digits (t : List ℕ) : Type 0 where
  pub digits : List ℕ
  pub rest : List ℕ
  pub is : t ≡ digits ++ rest
  pub all_digits : So (all digit_test digits)
  pub then : InLine rest

-- a literal without its sign
pub record Unsigned (t : List ℕ) : Type 0 where
  pub variable : ℕ
  pub rest : List ℕ
  pub is : t ≡ decimal variable ++ rest
  pub positive : 0 < variable
  pub then : InLine rest

-- what is read of a status line
unfoldable prefix_of : ℕ → List ℕ
prefix_of zero = []
prefix_of (suc q) = cond (eqb q 13) (ascii "s U") (cond (eqb q 26) (ascii "s UNK") (prefix_of q ++ (status_at q ∷ [])))

record Rests (t : List ℕ) : Type 0 where
  status : (q : ℕ) → q < 32 → answer_accepts q t ≡ true → HasAnswerForm (prefix_of q ++ t)
  noted_before : answer_accepts 32 t ≡ true → Noted HasAnswerForm t
  body : answer_accepts 33 t ≡ true → Body t
  noted_between : answer_accepts 34 t ≡ true → Noted Body t
  in_line : answer_accepts 35 t ≡ true → InLine t
  spaced : answer_accepts 36 t ≡ true → Spaced t
  unsigned : answer_accepts 37 t ≡ true → Unsigned t
  digits : answer_accepts 38 t ≡ true → Digits t
  ended : answer_accepts 39 t ≡ true → (u : List ℕ) × (t ≡ 10 ∷ u) × After u
  after : answer_accepts 40 t ≡ true → After t
  noted_after : answer_accepts 41 t ≡ true → Noted After t

-- ---- one byte before

-- no text is accepted from the dead state
dead : (t : List ℕ) → answer_accepts 43 t ≡ true → ⊥
unfolding may_end
dead t a = false≢true (sym (dead_rejects answer_step may_end 43 step_dead refl t) ∙ a)

-- a byte that leads to r
moved : (q b r : ℕ) (t : List ℕ) → answer_step q b ≡ r → answer_accepts q (b ∷ t) ≡ true → answer_accepts r t ≡ true
unfolding accepted_by
moved q b r t e a = subst (λ (p : ℕ). answer_accepts p t ≡ true) e a

noted_back : (P : List ℕ → Type 0) (q r : ℕ) → Remark q r → (b : ℕ) (t : List ℕ) → (answer_accepts r t ≡ true → P t) → (answer_accepts q t ≡ true → Noted P t)
    → answer_accepts q (b ∷ t) ≡ true → Noted P (b ∷ t)
noted_back P q r m b t f g a = go (eqb b 10) refl (moved q b (cond (eqb b 10) r q) t (m.steps b) a)
  where
    go : (c : Bool) → eqb b 10 ≡ c → answer_accepts (cond c r q) t ≡ true → Noted P (b ∷ t)
    go true e a = record { note = []; rest = t; is = ap (λ (x : ℕ). x ∷ t) (eqb-true b 10 e); one_line_lem = refl; then = f a }
    go false e a =
        let n = g a in
        record { note = b ∷ n.note; rest = n.rest; is = ap (λ (u : List ℕ). b ∷ u) n.is; one_line_lem = rw e n.one_line_lem; then = n.then }

after_back : (b : ℕ) (t : List ℕ) → (answer_accepts 41 t ≡ true → Noted After t) → answer_accepts 40 (b ∷ t) ≡ true → After (b ∷ t)
after_back b t f a = go (eqb b 99) refl (moved 40 b _ t (step_after b) a)
  where
    go : (c : Bool) → eqb b 99 ≡ c → answer_accepts (cond c 41 43) t ≡ true → After (b ∷ t)
    go true e a =
        let n = f a in
        let r = n.then in
        record {
          comments = n.note ∷ r.comments;
          is = ap₂ ◌∷◌ (eqb-true b 99 e) n.is ∙ ap (λ (u : List ℕ). 99 ∷ (n.note ++ (10 ∷ u))) r.is ∙ sym (comment_then n.note (comments_text r.comments));
          one_line_lem = and_in n.one_line_lem r.one_line_lem;
        }
    go false e a = absurd (dead t a)

ended_back : (b : ℕ) (t : List ℕ) → (answer_accepts 40 t ≡ true → After t) → answer_accepts 39 (b ∷ t) ≡ true → (u : List ℕ) × (b ∷ t ≡ 10 ∷ u) × After u
ended_back b t f a = go (eqb b 10) refl (moved 39 b _ t (step_zero b) a)
  where
    go : (c : Bool) → eqb b 10 ≡ c → answer_accepts (cond c 40 43) t ≡ true → (u : List ℕ) × (b ∷ t ≡ 10 ∷ u) × After u
    go true e a = (t, ap (λ (x : ℕ). x ∷ t) (eqb-true b 10 e), f a)
    go false e a = absurd (dead t a)

-- a space, and a literal or 0
space_before : (t : List ℕ) → Spaced t → InLine (32 ∷ t)
space_before t (another l u e p i) =
    record {
      literals = l ∷ i.literals;
      rest = i.rest;
      is = ap (λ (z : List ℕ). 32 ∷ z) (e ∙ ap (λ (z : List ℕ). literal_text (literal_number l) ++ z) i.is
          ∙ sym (append_assoc (literal_text (literal_number l)) (spaced_text i.literals) i.rest));
      all_named = and_in p i.all_named;
      then = i.then;
    }
space_before t (zero_end {t = u} f) = record { literals = []; rest = 32 ∷ 48 ∷ 10 ∷ u; is = refl; all_named = refl; then = LineEnd.zeroed f }

between_back : (b : ℕ) (t : List ℕ) → (answer_accepts 36 t ≡ true → Spaced t) → (answer_accepts 33 t ≡ true → Body t)
    → answer_accepts (cond (eqb b 32) 36 (cond (eqb b 10) 33 43)) t ≡ true → InLine (b ∷ t)
between_back b t f g a = go (eqb b 32) refl (eqb b 10) refl a
  where
    go : (c : Bool) → eqb b 32 ≡ c → (d : Bool) → eqb b 10 ≡ d → answer_accepts (cond c 36 (cond d 33 43)) t ≡ true → InLine (b ∷ t)
    go true e d h a = subst (λ (x : ℕ). InLine (x ∷ t)) (sym (eqb-true b 32 e)) (space_before t (f a))
    go false e true h a = record { literals = []; rest = b ∷ t; is = refl; all_named = refl; then = subst (λ (x : ℕ). LineEnd (x ∷ t)) (sym (eqb-true b 10 h)) (LineEnd.ended (g a)) }
    go false e false h a = absurd (dead t a)

-- ---- numbers

-- a number and further digits are one number
more_digits : (x : ℕ) → 0 < x → (ds : List ℕ) → So (all digit_test ds) → (y : ℕ) × (decimal x ++ ds ≡ decimal y) × (0 < y)
more_digits x z [] p = (x, append-nil (decimal x), z)
more_digits x z (b ∷ ds) p =
    let q = digit_of_lem b (and_left (digit_test b) (all digit_test ds) p) in
    let d = q.0 in
    let r = more_digits (x * 10 + d) (omega (arith, z)) ds (and_right (digit_test b) (all digit_test ds) p) in (
      r.0,
      ap (λ (c : ℕ). decimal x ++ (c ∷ ds)) q.1 ∙ sym (append_assoc (decimal x) ((48 + d) ∷ []) ds)
          ∙ ap (λ (es : List ℕ). es ++ ds) (sym (decimal_snoc x d z q.2)) ∙ r.1,
      r.2,
    )

digits_back : (b : ℕ) (t : List ℕ) → (answer_accepts 38 t ≡ true → Digits t) → (answer_accepts 36 t ≡ true → Spaced t) → (answer_accepts 33 t ≡ true → Body t)
    → answer_accepts 38 (b ∷ t) ≡ true → Digits (b ∷ t)
digits_back b t f g h a = go (digit_test b) refl (moved 38 b _ t (step_digits b) a)
  where
    go : (c : Bool) → digit_test b ≡ c → answer_accepts (cond c 38 (cond (eqb b 32) 36 (cond (eqb b 10) 33 43))) t ≡ true → Digits (b ∷ t)
    go true e a =
        let d = f a in
        record { digits = b ∷ d.digits; rest = d.rest; is = ap (λ (u : List ℕ). b ∷ u) d.is; all_digits = and_in e d.all_digits; then = d.then }
    go false e a = record { digits = []; rest = b ∷ t; is = refl; all_digits = refl; then = between_back b t g h a }

-- a first digit that is not 0, and the digits after it
number_of_lem : (b : ℕ) (t : List ℕ) → eqb b 48 ≡ false → digit_test b ≡ true → Digits t → Unsigned (b ∷ t)
number_of_lem b t n e d =
    let q = digit_of_lem b e in
    let z : 0 < q.0 = omega (arith, q.1, nonzero q.0 q.1) in
    let r = more_digits q.0 z d.digits d.all_digits in
    record {
      variable = r.0;
      rest = d.rest;
      is = ap₂ ◌∷◌ q.1 d.is ∙ ap (λ (ds : List ℕ). ds ++ (d.digits ++ d.rest)) (sym (decimal_small q.0 q.2))
          ∙ sym (append_assoc (decimal q.0) d.digits d.rest) ∙ ap (λ (ds : List ℕ). ds ++ d.rest) r.1;
      positive = r.2;
      then = d.then;
    }
  where
    nonzero : (d : ℕ) → b ≡ 48 + d → 0 < d
    nonzero zero f = absurd (eqb-false b 48 n f)
    nonzero (suc d) f = omega arith

unsigned_back : (b : ℕ) (t : List ℕ) → (answer_accepts 38 t ≡ true → Digits t) → answer_accepts 37 (b ∷ t) ≡ true → Unsigned (b ∷ t)
unsigned_back b t f a = go (eqb b 48) refl (digit_test b) refl (moved 37 b _ t (step_minus b) a)
  where
    go : (c : Bool) → eqb b 48 ≡ c → (d : Bool) → digit_test b ≡ d → answer_accepts (cond c 43 (cond d 38 43)) t ≡ true → Unsigned (b ∷ t)
    go true e d h a = absurd (dead t a)
    go false e true h a = number_of_lem b t e h (f a)
    go false e false h a = absurd (dead t a)

negative : (t : List ℕ) → Unsigned t → Spaced (45 ∷ t)
negative t u = go u.variable u.is u.positive
  where
    go : (v : ℕ) → t ≡ decimal v ++ u.rest → 0 < v → Spaced (45 ∷ t)
    go zero e z = absurd (not-suc-le-zero z)
    go (suc v) e z = another (− (suc v)) u.rest (ap (λ (w : List ℕ). 45 ∷ w) e) (lt-ltb 0 (suc v) z) u.then

positive : (t : List ℕ) → Unsigned t → Spaced t
positive t u = another (var u.variable) u.rest u.is (lt-ltb 0 u.variable u.positive) u.then

spaced_back : (b : ℕ) (t : List ℕ) → (answer_accepts 37 t ≡ true → Unsigned t) → (answer_accepts 39 t ≡ true → (u : List ℕ) × (t ≡ 10 ∷ u) × After u) → (answer_accepts 38 t ≡ true → Digits t)
    → answer_accepts 36 (b ∷ t) ≡ true → Spaced (b ∷ t)
spaced_back b t f g h a = go (eqb b 45) refl (eqb b 48) refl (digit_test b) refl (moved 36 b _ t (step_space b) a)
  where
    go : (x : Bool) → eqb b 45 ≡ x → (y : Bool) → eqb b 48 ≡ y → (z : Bool) → digit_test b ≡ z → answer_accepts (cond x 37 (cond y 39 (cond z 38 43))) t ≡ true → Spaced (b ∷ t)
    go true p y q z r a = subst (λ (c : ℕ). Spaced (c ∷ t)) (sym (eqb-true b 45 p)) (negative t (f a))
    go false p true q z r a = let e = g a in subst Spaced (sym (ap₂ ◌∷◌ (eqb-true b 48 q) e.1)) (zero_end e.2)
    go false p false q true r a = positive (b ∷ t) (number_of_lem b t q r (h a))
    go false p false q false r a = absurd (dead t a)

-- ---- lines

values_before : (t : List ℕ) → InLine t → Body (118 ∷ t)
values_before t i = go i.rest i.is i.then
  where
    vs : List Literal
    vs = i.literals

    go : (r : List ℕ) → t ≡ spaced_text vs ++ r → LineEnd r → Body (118 ∷ t)
    go r e (LineEnd.ended {t = u} d) =
        let tail = (118 ∷ (spaced_text d.last ++ (32 ∷ 48 ∷ 10 ∷ []))) ++ comments_text d.after in
        record {
          lines = Line.values vs ∷ d.lines;
          last = d.last;
          after = d.after;
          is = ap (λ (w : List ℕ). 118 ∷ w) (e ∙ ap (λ (w : List ℕ). spaced_text vs ++ (10 ∷ w)) d.is ∙ sym (append_assoc (spaced_text vs) (10 ∷ []) (lines_text d.lines ++ tail))
              ∙ sym (append_assoc (spaced_text vs ++ (10 ∷ [])) (lines_text d.lines) tail));
          lines_proper = and_in i.all_named d.lines_proper;
          last_named = d.last_named;
          one_line_lem = d.one_line_lem;
        }
    go r e (LineEnd.zeroed {t = u} d) =
        record {
          lines = [];
          last = vs;
          after = d.comments;
          is = ap (λ (w : List ℕ). 118 ∷ w) (e ∙ ap (λ (w : List ℕ). spaced_text vs ++ (32 ∷ 48 ∷ 10 ∷ w)) d.is
              ∙ sym (append_assoc (spaced_text vs) (32 ∷ 48 ∷ 10 ∷ []) (comments_text d.comments)));
          lines_proper = refl;
          last_named = i.all_named;
          one_line_lem = d.one_line_lem;
        }

comment_before : (t : List ℕ) → Noted Body t → Body (99 ∷ t)
comment_before t n =
    let d = n.then in
    let tail = (118 ∷ (spaced_text d.last ++ (32 ∷ 48 ∷ 10 ∷ []))) ++ comments_text d.after in
    record {
      lines = Line.comment n.note ∷ d.lines;
      last = d.last;
      after = d.after;
      is = ap (λ (w : List ℕ). 99 ∷ w) n.is ∙ ap (λ (w : List ℕ). 99 ∷ (n.note ++ (10 ∷ w))) d.is ∙ sym (comment_then n.note (lines_text d.lines ++ tail))
          ∙ sym (append_assoc (comment_text n.note) (lines_text d.lines) tail);
      lines_proper = and_in n.one_line_lem d.lines_proper;
      last_named = d.last_named;
      one_line_lem = d.one_line_lem;
    }

body_back : (b : ℕ) (t : List ℕ) → (answer_accepts 34 t ≡ true → Noted Body t) → (answer_accepts 35 t ≡ true → InLine t) → answer_accepts 33 (b ∷ t) ≡ true → Body (b ∷ t)
body_back b t f g a = go (eqb b 99) refl (eqb b 118) refl (moved 33 b _ t (step_line b) a)
  where
    go : (x : Bool) → eqb b 99 ≡ x → (y : Bool) → eqb b 118 ≡ y → answer_accepts (cond x 34 (cond y 35 43)) t ≡ true → Body (b ∷ t)
    go true p y q a = subst (λ (c : ℕ). Body (c ∷ t)) (sym (eqb-true b 99 p)) (comment_before t (f a))
    go false p true q a = subst (λ (c : ℕ). Body (c ∷ t)) (sym (eqb-true b 118 q)) (values_before t (g a))
    go false p false q a = absurd (dead t a)

-- ---- status lines

satisfiable_form : (t : List ℕ) → Body t → HasAnswerForm (satisfiable_text ++ t)
unfolding proper answer_text
satisfiable_form t d =
    record {
      answer = Answer.model [] d.lines d.last d.after;
      is_proper = and_in d.lines_proper (and_in d.last_named d.one_line_lem);
      its_text = ap (λ (u : List ℕ). satisfiable_text ++ u) d.is;
    }

status_form : (s : Status) (t : List ℕ) → HasAnswerForm (status_text s ++ t)
unfolding proper answer_text
status_form s t = record { answer = Answer.no_model [] s t; is_proper = refl; its_text = refl }

comment_form : (t : List ℕ) → Noted HasAnswerForm t → HasAnswerForm (99 ∷ t)
unfolding proper answer_text
comment_form t n = go n.then.answer n.then.is_proper n.then.its_text
  where
    start : t ≡ n.note ++ (10 ∷ n.rest)
    start = n.is

    go : (a : Answer) → So (proper a) → n.rest ≡ answer_text a → HasAnswerForm (99 ∷ t)
    go (Answer.model before lines last after) p e =
        record {
          answer = Answer.model (n.note ∷ before) lines last after;
          is_proper = and_in (and_in n.one_line_lem (and_left (all one_line before) _ p)) (and_right (all one_line before) _ p);
          its_text = ap (λ (w : List ℕ). 99 ∷ w) start ∙ ap (λ (w : List ℕ). 99 ∷ (n.note ++ (10 ∷ w))) e ∙ sym (comment_then n.note _)
              ∙ sym (append_assoc (comment_text n.note) (comments_text before) _);
        }
    go (Answer.no_model before status rest) p e =
        record {
          answer = Answer.no_model (n.note ∷ before) status rest;
          is_proper = and_in n.one_line_lem p;
          its_text = ap (λ (w : List ℕ). 99 ∷ w) start ∙ ap (λ (w : List ℕ). 99 ∷ (n.note ++ (10 ∷ w))) e ∙ sym (comment_then n.note _)
              ∙ sym (append_assoc (comment_text n.note) (comments_text before) _);
        }

-- the byte that the status line goes on with
status_on : (q : ℕ) (t : List ℕ) → q < 32 → (answer_accepts 33 t ≡ true → Body t) → ((q : ℕ) → q < 32 → answer_accepts q t ≡ true → HasAnswerForm (prefix_of q ++ t))
    → answer_accepts (status_next q) t ≡ true → HasAnswerForm (prefix_of q ++ (status_at q ∷ t))
unfolding prefix_of status_at status_bytes status_next ascii satisfiable_text status_text
status_on q t h f g a = go (eqb q 13) refl (eqb q 26) refl (eqb q 31) refl a
  where
    go : (x : Bool) → eqb q 13 ≡ x → (y : Bool) → eqb q 26 ≡ y → (z : Bool) → eqb q 31 ≡ z → answer_accepts (cond x 33 (cond y 42 (cond z 42 (suc q)))) t ≡ true
        → HasAnswerForm (prefix_of q ++ (status_at q ∷ t))
    go true d y e z k a = subst (λ (p : ℕ). HasAnswerForm (prefix_of p ++ (status_at p ∷ t))) (sym (eqb-true q 13 d)) (satisfiable_form t (f a))
    go false d true e z k a = subst (λ (p : ℕ). HasAnswerForm (prefix_of p ++ (status_at p ∷ t))) (sym (eqb-true q 26 e)) (status_form Status.unsatisfiable t)
    go false d false e true k a = subst (λ (p : ℕ). HasAnswerForm (prefix_of p ++ (status_at p ∷ t))) (sym (eqb-true q 31 k)) (status_form Status.unknown t)
    go false d false e false k a =
        subst HasAnswerForm (rw (d, e) (append_assoc (prefix_of q) (status_at q ∷ []) t)) (g (suc q) (below q h (eqb-false q 31 k)) a)
      where
        below : (q : ℕ) → q < 32 → (q ≡ 31 → ⊥) → suc q < 32
        below q h n = omega (arith, h, n)

-- another byte: a comment, or another status line
status_turns : (q b : ℕ) (t : List ℕ) → (answer_accepts 32 t ≡ true → Noted HasAnswerForm t) → ((q : ℕ) → q < 32 → answer_accepts q t ≡ true → HasAnswerForm (prefix_of q ++ t))
    → answer_accepts (status_turn q b) t ≡ true → HasAnswerForm (prefix_of q ++ (b ∷ t))
unfolding prefix_of status_at status_bytes status_turn ascii
status_turns q b t f g a = go (eqb q 0) refl (eqb q 2) refl (eqb q 15) refl a
  where
    go : (x : Bool) → eqb q 0 ≡ x → (y : Bool) → eqb q 2 ≡ y → (z : Bool) → eqb q 15 ≡ z
        → answer_accepts (cond x (cond (eqb b 99) 32 43) (cond y (cond (eqb b 85) 14 43) (cond z (cond (eqb b 75) 27 43) 43))) t ≡ true → HasAnswerForm (prefix_of q ++ (b ∷ t))
    go true d y e z k a = subst (λ (p : ℕ). HasAnswerForm (prefix_of p ++ (b ∷ t))) (sym (eqb-true q 0 d)) (which (eqb b 99) refl a)
      where
        which : (c : Bool) → eqb b 99 ≡ c → answer_accepts (cond c 32 43) t ≡ true → HasAnswerForm (b ∷ t)
        which true e a = subst (λ (c : ℕ). HasAnswerForm (c ∷ t)) (sym (eqb-true b 99 e)) (comment_form t (f a))
        which false e a = absurd (dead t a)
    go false d true e z k a = subst (λ (p : ℕ). HasAnswerForm (prefix_of p ++ (b ∷ t))) (sym (eqb-true q 2 e)) (which (eqb b 85) refl a)
      where
        which : (c : Bool) → eqb b 85 ≡ c → answer_accepts (cond c 14 43) t ≡ true → HasAnswerForm (115 ∷ 32 ∷ b ∷ t)
        which true e a = subst (λ (c : ℕ). HasAnswerForm (115 ∷ 32 ∷ c ∷ t)) (sym (eqb-true b 85 e)) (g 14 (omega arith) a)
        which false e a = absurd (dead t a)
    go false d false e true k a = subst (λ (p : ℕ). HasAnswerForm (prefix_of p ++ (b ∷ t))) (sym (eqb-true q 15 k)) (which (eqb b 75) refl a)
      where
        which : (c : Bool) → eqb b 75 ≡ c → answer_accepts (cond c 27 43) t ≡ true → HasAnswerForm (115 ∷ 32 ∷ 85 ∷ 78 ∷ b ∷ t)
        which true e a = subst (λ (c : ℕ). HasAnswerForm (115 ∷ 32 ∷ 85 ∷ 78 ∷ c ∷ t)) (sym (eqb-true b 75 e)) (g 27 (omega arith) a)
        which false e a = absurd (dead t a)
    go false d false e false k a = absurd (dead t a)

status_back : (b : ℕ) (t : List ℕ) → Rests t → (q : ℕ) → q < 32 → answer_accepts q (b ∷ t) ≡ true → HasAnswerForm (prefix_of q ++ (b ∷ t))
unfolding status_step
status_back b t r q h a = go (eqb b (status_at q)) refl (moved q b _ t (step_status q b h) a)
  where
    go : (c : Bool) → eqb b (status_at q) ≡ c → answer_accepts (cond c (status_next q) (status_turn q b)) t ≡ true → HasAnswerForm (prefix_of q ++ (b ∷ t))
    go true e a = subst (λ (c : ℕ). HasAnswerForm (prefix_of q ++ (c ∷ t))) (sym (eqb-true b (status_at q) e)) (status_on q t h r.body r.status a)
    go false e a = status_turns q b t r.noted_before r.status a

-- ---- all bytes

-- where the text may not end
not_ended : {A : Type 0} (q : ℕ) → may_end q ≡ false → answer_accepts q [] ≡ true → A
unfolding accepted_by
not_ended q e a = absurd (false≢true (sym e ∙ a))

status_goes_on : (q : ℕ) → q < 32 → may_end q ≡ false
unfolding may_end
status_goes_on q h = rw (ne_eqb q 40 (λ e. omega (arith, e, h)), ne_eqb q 42 (λ e. omega (arith, e, h)))

rests : (t : List ℕ) → Rests t
unfolding may_end prefix_of
rests [] =
    record {
      status = λ q h. not_ended q (status_goes_on q h);
      noted_before = not_ended 32 refl;
      body = not_ended 33 refl;
      noted_between = not_ended 34 refl;
      in_line = not_ended 35 refl;
      spaced = not_ended 36 refl;
      unsigned = not_ended 37 refl;
      digits = not_ended 38 refl;
      ended = not_ended 39 refl;
      after = λ a. record { comments = []; is = refl; one_line_lem = refl };
      noted_after = not_ended 41 refl;
    }
rests (b ∷ t) =
    let r = rests t in
    record {
      status = status_back b t r;
      noted_before = noted_back HasAnswerForm 32 0 remark_before b t (start r) r.noted_before;
      body = body_back b t r.noted_between r.in_line;
      noted_between = noted_back Body 34 33 remark_between b t r.body r.noted_between;
      in_line = λ a. between_back b t r.spaced r.body (moved 35 b _ t (step_between b) a);
      spaced = spaced_back b t r.unsigned r.ended r.digits;
      unsigned = unsigned_back b t r.digits;
      digits = digits_back b t r.digits r.spaced r.body;
      ended = ended_back b t r.after;
      after = after_back b t r.noted_after;
      noted_after = noted_back After 41 40 remark_after b t r.after r.noted_after;
    }
  where
    start : Rests t → answer_accepts 0 t ≡ true → HasAnswerForm t
    start r a = r.status 0 (omega arith) a

pub sound : (t : List ℕ) → answer_accepts 0 t ≡ true → HasAnswerForm t
unfolding prefix_of
sound t a = (rests t).status 0 (omega arith) a
