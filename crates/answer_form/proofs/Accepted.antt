-- A text of the form is accepted.
--   byte                one byte and its step
--   comment_then        a c line and what follows it
--   comments_end, rest_read   c lines after the end, and any bytes past another status, are accepted
--   answer_accepted     the text of a proper answer is accepted
--   form_accepted       so is every text of the form
-- Assumes nothing.
use Prim.Native.Nat.{ℕ, zero, suc, ◌+◌, ◌/◌, ◌%◌, ◌<◌}
use native.Mathlib.Nat.{not-suc-le-zero}
use native.Mathlib.Omega.{arith}
use mathlib.Core.Path.{◌≡◌, refl, sym, ◌∙◌, ap}
use mathlib.Core.Bool.{true, false, not, So}
use mathlib.Core.List.{List, [], ◌∷◌, ◌++◌, append_assoc, append-nil}
use lib.Dec.{eqb}
use borrow.Author.Tests.{ltb-true, not-true}
use Rattle.lists.specs.Lists.{all}
use Rattle.lists.specs.Ascii.{ascii}
use Rattle.lists.proofs.Bools.{and_left, and_right}
use Rattle.encoding.specs.Literal.{Literal, literal_number}
use Literal.{var, −◌}
use Rattle.digits.specs.Bytes.{literal_text}
use Rattle.text.specs.Decimal.{decimal}
use Rattle.text.proofs.Decimals.{decimal_small, decimal_large, digits-ind}
use Rattle.reader_form.specs.Automaton.{digit_test}
use Rattle.answer_form.specs.Machine.{accepted_by}
use Rattle.answer_form.specs.Answer.{Comment, Line, Status, Answer, one_line, named, line_proper, proper, comment_text, comments_text, spaced_text, lines_text, satisfiable_text, status_text, answer_text, HasAnswerForm}
use Rattle.answer_form.specs.Automaton.{status_bytes, status_at, status_next, status_turn, status_step, seek_step, literal_step, end_step, answer_step, may_end, answer_accepts}
use Rattle.answer_form.proofs.Steps.{Remark, remark_before, remark_between, remark_after, step_behind, step_digit, Opens, space_opens, minus_opens, step_rest}

-- ---- one byte, and c lines

pub byte : (q b r : ℕ) (t : List ℕ) → answer_step q b ≡ r → answer_accepts q (b ∷ t) ≡ answer_accepts r t
unfolding accepted_by
byte q b r t e = ap (λ (p : ℕ). answer_accepts p t) e

remark : (q r : ℕ) → Remark q r → (bs : Comment) → So (one_line bs) → (t : List ℕ) → answer_accepts q (bs ++ (10 ∷ t)) ≡ answer_accepts r t
remark q r m [] p t = byte q 10 r t (m.steps 10)
remark q r m (b ∷ bs) p t =
    byte q b q (bs ++ (10 ∷ t)) (m.steps b ∙ rw (not-true (eqb b 10) (and_left (not (eqb b 10)) (one_line bs) p)))
    ∙ remark q r m bs (and_right (not (eqb b 10)) (one_line bs) p) t

-- a c line and what follows it
pub comment_then : (bs : Comment) (t : List ℕ) → comment_text bs ++ t ≡ 99 ∷ (bs ++ (10 ∷ t))
comment_then bs t = ap (λ (u : List ℕ). 99 ∷ u) (append_assoc bs (10 ∷ []) t)

comment_line : (q r : ℕ) → Remark q r → answer_step r 99 ≡ q → (bs : Comment) → So (one_line bs) → (t : List ℕ) → answer_accepts r (comment_text bs ++ t) ≡ answer_accepts r t
comment_line q r m e bs p t = ap (answer_accepts r) (comment_then bs t) ∙ byte r 99 q (bs ++ (10 ∷ t)) e ∙ remark q r m bs p t

comment_lines : (q r : ℕ) → Remark q r → answer_step r 99 ≡ q → (bss : List Comment) → So (all one_line bss) → (t : List ℕ) → answer_accepts r (comments_text bss ++ t) ≡ answer_accepts r t
comment_lines q r m e [] p t = refl
comment_lines q r m e (bs ∷ bss) p t =
    ap (answer_accepts r) (append_assoc (comment_text bs) (comments_text bss) t) ∙ comment_line q r m e bs (and_left (one_line bs) (all one_line bss) p) (comments_text bss ++ t)
    ∙ comment_lines q r m e bss (and_right (one_line bs) (all one_line bss) p) t

-- ---- literals

digits_read : (q : ℕ) → Opens q → (n : ℕ) → 0 < n → (t : List ℕ) → answer_accepts q (decimal n ++ t) ≡ answer_accepts 38 t
digits_read q o = digits-ind (λ n. 0 < n → (t : List ℕ) → answer_accepts q (decimal n ++ t) ≡ answer_accepts 38 t)
    (λ n h z t. ap (λ (ds : List ℕ). answer_accepts q (ds ++ t)) (decimal_small n h) ∙ byte q (48 + n) 38 t (o.opens n z h))
    (λ n h ih z t.
    ap (λ (ds : List ℕ). answer_accepts q (ds ++ t)) (decimal_large n h) ∙ ap (answer_accepts q) (append_assoc (decimal (n / 10)) ((48 + n % 10) ∷ []) t)
    ∙ ih (omega arith) ((48 + n % 10) ∷ t) ∙ byte 38 (48 + n % 10) 38 t (step_digit (n % 10) (omega arith)))

literal_read : (l : Literal) → So (named l) → (t : List ℕ) → answer_accepts 36 (literal_text (literal_number l) ++ t) ≡ answer_accepts 38 t
unfolding answer_step seek_step literal_step end_step
literal_read (var v) p t = digits_read 36 space_opens v (ltb-true 0 v p) t
literal_read (− zero) p t = absurd (not-suc-le-zero (ltb-true 0 0 p))
literal_read (− (suc v)) p t = byte 36 45 37 (decimal (suc v) ++ t) refl ∙ digits_read 37 minus_opens (suc v) (omega arith) t

literals_read : (ls : List Literal) → So (all named ls) → (b : ℕ) (t : List ℕ) → digit_test b ≡ false → answer_accepts 35 (spaced_text ls ++ (b ∷ t)) ≡ answer_accepts 35 (b ∷ t)
unfolding answer_step seek_step literal_step end_step digit_test
literals_read [] p b t n = refl
literals_read (l ∷ ls) p b t n =
    byte 35 32 36 _ refl ∙ ap (answer_accepts 36) (append_assoc (literal_text (literal_number l)) (spaced_text ls) (b ∷ t))
    ∙ literal_read l (and_left (named l) (all named ls) p) (spaced_text ls ++ (b ∷ t)) ∙ behind ls
    ∙ literals_read ls (and_right (named l) (all named ls) p) b t n
  where
    behind : (ls : List Literal) → answer_accepts 38 (spaced_text ls ++ (b ∷ t)) ≡ answer_accepts 35 (spaced_text ls ++ (b ∷ t))
    behind [] = byte 38 b (answer_step 35 b) t (step_behind b n) ∙ sym (byte 35 b (answer_step 35 b) t refl)
    behind (m ∷ ms) = byte 38 32 36 _ refl ∙ sym (byte 35 32 36 _ refl)

-- ---- lines

lines_read : (ls : List Line) → So (all line_proper ls) → (t : List ℕ) → answer_accepts 33 (lines_text ls ++ t) ≡ answer_accepts 33 t
unfolding answer_step seek_step literal_step end_step digit_test
lines_read [] p t = refl
lines_read (Line.comment bs ∷ ls) p t =
    ap (answer_accepts 33) (append_assoc (comment_text bs) (lines_text ls) t) ∙ comment_line 34 33 remark_between refl bs (and_left (one_line bs) (all line_proper ls) p) (lines_text ls ++ t)
    ∙ lines_read ls (and_right (one_line bs) (all line_proper ls) p) t
lines_read (Line.values vs ∷ ls) p t =
    byte 33 118 35 _ refl ∙ ap (answer_accepts 35) (append_assoc (spaced_text vs ++ (10 ∷ [])) (lines_text ls) t ∙ append_assoc (spaced_text vs) (10 ∷ []) (lines_text ls ++ t))
    ∙ literals_read vs (and_left (all named vs) (all line_proper ls) p) 10 (lines_text ls ++ t) refl ∙ byte 35 10 33 (lines_text ls ++ t) refl
    ∙ lines_read ls (and_right (all named vs) (all line_proper ls) p) t

last_read : (ls : List Literal) → So (all named ls) → (t : List ℕ) → answer_accepts 33 ((118 ∷ (spaced_text ls ++ (32 ∷ 48 ∷ 10 ∷ []))) ++ t) ≡ answer_accepts 40 t
unfolding answer_step seek_step literal_step end_step digit_test
last_read ls p t =
    byte 33 118 35 _ refl ∙ ap (answer_accepts 35) (append_assoc (spaced_text ls) (32 ∷ 48 ∷ 10 ∷ []) t) ∙ literals_read ls p 32 (48 ∷ 10 ∷ t) refl ∙ byte 35 32 36 (48 ∷ 10 ∷ t) refl
    ∙ byte 36 48 39 (10 ∷ t) refl ∙ byte 39 10 40 t refl

pub rest_read : (t : List ℕ) → answer_accepts 42 t ≡ true
unfolding accepted_by may_end
rest_read [] = refl
rest_read (b ∷ t) = byte 42 b 42 t (step_rest b) ∙ rest_read t

-- ---- the status lines

satisfiable_read : (t : List ℕ) → answer_accepts 0 (satisfiable_text ++ t) ≡ answer_accepts 33 t
unfolding accepted_by satisfiable_text ascii answer_step status_step status_at status_bytes status_next status_turn
satisfiable_read t = refl

status_read : (s : Status) (t : List ℕ) → answer_accepts 0 (status_text s ++ t) ≡ answer_accepts 42 t
unfolding accepted_by status_text ascii answer_step status_step status_at status_bytes status_next status_turn
status_read Status.unsatisfiable t = refl
status_read Status.unknown t = refl

comments_start : (bss : List Comment) → So (all one_line bss) → (t : List ℕ) → answer_accepts 0 (comments_text bss ++ t) ≡ answer_accepts 0 t
unfolding answer_step status_step status_at status_bytes status_turn ascii
comments_start bss p t = comment_lines 32 0 remark_before refl bss p t

pub comments_end : (bss : List Comment) → So (all one_line bss) → answer_accepts 40 (comments_text bss) ≡ true
unfolding answer_step seek_step literal_step end_step accepted_by may_end
comments_end bss p = sym (ap (answer_accepts 40) (append-nil (comments_text bss))) ∙ comment_lines 41 40 remark_after refl bss p []

pub answer_accepted : (a : Answer) → So (proper a) → answer_accepts 0 (answer_text a) ≡ true
unfolding answer_text proper
answer_accepted (Answer.model before lines last after) p =
    let q = and_right (all one_line before) _ p in
    let r = and_right (all line_proper lines) _ q in
    comments_start before (and_left (all one_line before) _ p) _ ∙ satisfiable_read _ ∙ lines_read lines (and_left (all line_proper lines) _ q) _
    ∙ last_read last (and_left (all named last) (all one_line after) r) (comments_text after) ∙ comments_end after (and_right (all named last) (all one_line after) r)
answer_accepted (Answer.no_model before status rest) p = comments_start before p (status_text status ++ rest) ∙ status_read status rest ∙ rest_read rest

pub form_accepted : (t : List ℕ) → HasAnswerForm t → answer_accepts 0 t ≡ true
form_accepted t f = ap (answer_accepts 0) f.its_text ∙ answer_accepted f.answer f.is_proper
