-- A text is that of one proper answer: comments, lines and literals can be told from the bytes.
--   answer_unique     two proper answers with the same text are equal
-- Assumes nothing.
use Prim.Native.Nat.{ℕ}
use native.Mathlib.Omega.{arith}
use mathlib.Core.Path.{◌≡◌, refl, sym, ◌∙◌, ap, ap₂}
use mathlib.Core.Bool.{not, So}
use mathlib.Core.List.{List, [], ◌∷◌, ◌++◌, append_assoc, append-nil}
use lib.Dec.{eqb}
use lib.ListN.{get_or, drop}
use borrow.Author.Tests.{not-true, eqb-false}
use Rattle.lists.specs.Lists.{all}
use Rattle.lists.specs.Ascii.{ascii}
use Rattle.lists.proofs.Bools.{and_left, and_right}
use Rattle.lists.proofs.Cons.{cons_head, cons_tail}
use Rattle.encoding.specs.Literal.{Literal, literal_number}
use Rattle.digits.specs.Bytes.{literal_text}
use Rattle.reader_form.specs.Automaton.{digit_test}
use Rattle.answer_form.specs.Answer.{Comment, Line, Status, Answer, one_line, named, line_proper, proper, comment_text, comments_text, spaced_text, lines_text, satisfiable_text, status_text, answer_text}
use Rattle.answer_form.proofs.Accepted.{comment_then}
use Rattle.answer_form.proofs.Digits.{Stops, front_cancel, literal_cancel, literal_not_zero}

-- ---- comments

no_line_end : (b : ℕ) (bs : Comment) → So (one_line (b ∷ bs)) → b ≡ 10 → ⊥
no_line_end b bs p e = eqb-false b 10 (not-true (eqb b 10) (and_left (not (eqb b 10)) (one_line bs) p)) e

remark_cancel : (bs cs : Comment) (u v : List ℕ) → So (one_line bs) → So (one_line cs) → bs ++ (10 ∷ u) ≡ cs ++ (10 ∷ v) → (bs ≡ cs) × (u ≡ v)
remark_cancel [] [] u v p q e = (refl, cons_tail e)
remark_cancel [] (c ∷ cs) u v p q e = absurd (no_line_end c cs q (sym (cons_head e)))
remark_cancel (b ∷ bs) [] u v p q e = absurd (no_line_end b bs p (cons_head e))
remark_cancel (b ∷ bs) (c ∷ cs) u v p q e =
    let r = remark_cancel bs cs u v (and_right (not (eqb b 10)) (one_line bs) p) (and_right (not (eqb c 10)) (one_line cs) q) (cons_tail e) in
    (ap₂ ◌∷◌ (cons_head e) r.0, r.1)

-- no c line comes first
pub data Bare : List ℕ → Type 0 where
  nothing : Bare []
  byte : {b : ℕ} {u : List ℕ} → (b ≡ 99 → ⊥) → Bare (b ∷ u)

not_comment : (bs : Comment) (bss : List Comment) (u v : List ℕ) → Bare u → u ≡ comments_text (bs ∷ bss) ++ v → ⊥
not_comment bs bss u v nothing e = omega (arith, ap (λ (l : List ℕ). get_or l 0 0) e)
not_comment bs bss u v (byte n) e = n (cons_head e)

comments_cancel : (bss css : List Comment) (u v : List ℕ) → So (all one_line bss) → So (all one_line css) → Bare u → Bare v
    → comments_text bss ++ u ≡ comments_text css ++ v → (bss ≡ css) × (u ≡ v)
comments_cancel [] [] u v p q x y e = (refl, e)
comments_cancel [] (cs ∷ css) u v p q x y e = absurd (not_comment cs css u v x e)
comments_cancel (bs ∷ bss) [] u v p q x y e = absurd (not_comment bs bss v u y (sym e))
comments_cancel (bs ∷ bss) (cs ∷ css) u v p q x y e =
    let r = remark_cancel bs cs (comments_text bss ++ u) (comments_text css ++ v) (and_left (one_line bs) (all one_line bss) p) (and_left (one_line cs) (all one_line css) q)
    (cons_tail (sym (comments_then bs bss u) ∙ e ∙ comments_then cs css v)) in
    let s = comments_cancel bss css u v (and_right (one_line bs) (all one_line bss) p) (and_right (one_line cs) (all one_line css) q) x y r.1 in
    (ap₂ ◌∷◌ r.0 s.0, s.1)
  where
    comments_then : (bs : Comment) (bss : List Comment) (u : List ℕ) → comments_text (bs ∷ bss) ++ u ≡ 99 ∷ (bs ++ (10 ∷ (comments_text bss ++ u)))
    comments_then bs bss u = append_assoc (comment_text bs) (comments_text bss) u ∙ comment_then bs (comments_text bss ++ u)

-- ---- literals

-- how a v line goes on after its literals
pub data Tail : List ℕ → Type 0 where
  line_end_lem : {u : List ℕ} → Tail (10 ∷ u)
  zero_end : {u : List ℕ} → Tail (32 ∷ 48 ∷ 10 ∷ u)

pub tail_stops : (ls : List Literal) (t : List ℕ) → Tail t → Stops (spaced_text ls ++ t)
unfolding digit_test
tail_stops [] t line_end_lem = Stops.byte refl
tail_stops [] t zero_end = Stops.byte refl
tail_stops (l ∷ ls) t x = Stops.byte refl

pub spaced_then : (l : Literal) (ls : List Literal) (t : List ℕ) → spaced_text (l ∷ ls) ++ t ≡ 32 ∷ (literal_text (literal_number l) ++ (spaced_text ls ++ t))
spaced_then l ls t = ap (λ (u : List ℕ). 32 ∷ u) (append_assoc (literal_text (literal_number l)) (spaced_text ls) t)

not_tail : (l : Literal) (ls : List Literal) (t u : List ℕ) → So (all named (l ∷ ls)) → Tail t → Tail u → u ≡ spaced_text (l ∷ ls) ++ t → ⊥
not_tail l ls t u p x line_end_lem e = omega (arith, cons_head e)
not_tail l ls t u p x zero_end e =
    literal_not_zero l (spaced_text ls ++ t) _ (and_left (named l) (all named ls) p) (tail_stops ls t x) (sym (cons_tail (e ∙ spaced_then l ls t)))

spaced_cancel : (ls ms : List Literal) (t u : List ℕ) → So (all named ls) → So (all named ms) → Tail t → Tail u → spaced_text ls ++ t ≡ spaced_text ms ++ u → (ls ≡ ms) × (t ≡ u)
spaced_cancel [] [] t u p q x y e = (refl, e)
spaced_cancel [] (m ∷ ms) t u p q x y e = absurd (not_tail m ms u t q y x e)
spaced_cancel (l ∷ ls) [] t u p q x y e = absurd (not_tail l ls t u p x y (sym e))
spaced_cancel (l ∷ ls) (m ∷ ms) t u p q x y e =
    let r = literal_cancel l m (spaced_text ls ++ t) (spaced_text ms ++ u) (and_left (named l) (all named ls) p) (and_left (named m) (all named ms) q)
    (tail_stops ls t x) (tail_stops ms u y) (cons_tail (sym (spaced_then l ls t) ∙ e ∙ spaced_then m ms u)) in
    let s = spaced_cancel ls ms t u (and_right (named l) (all named ls) p) (and_right (named m) (all named ms) q) x y r.1 in
    (ap₂ ◌∷◌ r.0 s.0, s.1)

-- ---- lines

pub note_then : (bs : Comment) (ls : List Line) (t : List ℕ) → lines_text (Line.comment bs ∷ ls) ++ t ≡ 99 ∷ (bs ++ (10 ∷ (lines_text ls ++ t)))
note_then bs ls t = append_assoc (comment_text bs) (lines_text ls) t ∙ comment_then bs (lines_text ls ++ t)

pub values_then : (vs : List Literal) (ls : List Line) (t : List ℕ) → lines_text (Line.values vs ∷ ls) ++ t ≡ 118 ∷ (spaced_text vs ++ (10 ∷ (lines_text ls ++ t)))
values_then vs ls t =
    ap (λ (u : List ℕ). 118 ∷ u) (append_assoc (spaced_text vs ++ (10 ∷ [])) (lines_text ls) t ∙ append_assoc (spaced_text vs) (10 ∷ []) (lines_text ls ++ t))

-- the last v line and what follows it
abbrev pub last_text : List Literal → List ℕ → List ℕ
last_text vs u = 118 ∷ (spaced_text vs ++ (32 ∷ 48 ∷ 10 ∷ u))

not_last : (vs ws : List Literal) (ls : List Line) (t u : List ℕ) → So (all named vs) → So (all named ws) → last_text vs u ≡ lines_text (Line.values ws ∷ ls) ++ t → ⊥
not_last vs ws ls t u p q e =
    let r = spaced_cancel vs ws (32 ∷ 48 ∷ 10 ∷ u) (10 ∷ (lines_text ls ++ t)) p q zero_end line_end_lem (cons_tail (e ∙ values_then ws ls t)) in
    omega (arith, cons_head r.1)

-- what two equal runs of lines with their last v line have in common
record Alike (ls ms : List Line) (vs ws : List Literal) (u v : List ℕ) : Type 0 where
  lines : ls ≡ ms
  last : vs ≡ ws
  behind : u ≡ v

lines_cancel : (ls ms : List Line) (vs ws : List Literal) (u v : List ℕ) → So (all line_proper ls) → So (all line_proper ms) → So (all named vs) → So (all named ws)
    → lines_text ls ++ last_text vs u ≡ lines_text ms ++ last_text ws v → Alike ls ms vs ws u v
lines_cancel [] [] vs ws u v p q x y e =
    let r = spaced_cancel vs ws (32 ∷ 48 ∷ 10 ∷ u) (32 ∷ 48 ∷ 10 ∷ v) x y zero_end zero_end (cons_tail e) in
    record { lines = refl; last = r.0; behind = ap (λ (l : List ℕ). drop 3 l) r.1 }
lines_cancel [] (Line.comment cs ∷ ms) vs ws u v p q x y e = absurd (omega (arith, cons_head e))
lines_cancel [] (Line.values zs ∷ ms) vs ws u v p q x y e = absurd (not_last vs zs ms (last_text ws v) u x (and_left (all named zs) (all line_proper ms) q) e)
lines_cancel (Line.comment bs ∷ ls) [] vs ws u v p q x y e = absurd (omega (arith, cons_head e))
lines_cancel (Line.comment bs ∷ ls) (Line.comment cs ∷ ms) vs ws u v p q x y e =
    let r = remark_cancel bs cs _ _ (and_left (one_line bs) (all line_proper ls) p) (and_left (one_line cs) (all line_proper ms) q)
    (cons_tail (sym (note_then bs ls (last_text vs u)) ∙ e ∙ note_then cs ms (last_text ws v))) in
    let s = lines_cancel ls ms vs ws u v (and_right (one_line bs) (all line_proper ls) p) (and_right (one_line cs) (all line_proper ms) q) x y r.1 in
    record { lines = ap₂ ◌∷◌ (ap Line.comment r.0) s.lines; last = s.last; behind = s.behind }
lines_cancel (Line.comment bs ∷ ls) (Line.values zs ∷ ms) vs ws u v p q x y e = absurd (omega (arith, cons_head e))
lines_cancel (Line.values ys ∷ ls) [] vs ws u v p q x y e = absurd (not_last ws ys ls (last_text vs u) v y (and_left (all named ys) (all line_proper ls) p) (sym e))
lines_cancel (Line.values ys ∷ ls) (Line.comment cs ∷ ms) vs ws u v p q x y e = absurd (omega (arith, cons_head e))
lines_cancel (Line.values ys ∷ ls) (Line.values zs ∷ ms) vs ws u v p q x y e =
    let r = spaced_cancel ys zs _ _ (and_left (all named ys) (all line_proper ls) p) (and_left (all named zs) (all line_proper ms) q) line_end_lem line_end_lem
    (cons_tail (sym (values_then ys ls (last_text vs u)) ∙ e ∙ values_then zs ms (last_text ws v))) in
    let s = lines_cancel ls ms vs ws u v (and_right (all named ys) (all line_proper ls) p) (and_right (all named zs) (all line_proper ms) q) x y (cons_tail r.1) in
    record { lines = ap₂ ◌∷◌ (ap Line.values r.0) s.lines; last = s.last; behind = s.behind }

-- ---- answers

pub last_then : (vs : List Literal) (u : List ℕ) → (118 ∷ (spaced_text vs ++ (32 ∷ 48 ∷ 10 ∷ []))) ++ u ≡ last_text vs u
last_then vs u = ap (λ (z : List ℕ). 118 ∷ z) (append_assoc (spaced_text vs) (32 ∷ 48 ∷ 10 ∷ []) u)

-- no status line begins with c
pub satisfiable_bare : (u : List ℕ) → Bare (satisfiable_text ++ u)
unfolding satisfiable_text ascii
satisfiable_bare u = Bare.byte {b = 115} (λ e. omega (arith, e))

pub status_bare : (s : Status) (u : List ℕ) → Bare (status_text s ++ u)
unfolding status_text ascii
status_bare Status.unsatisfiable u = Bare.byte {b = 115} (λ e. omega (arith, e))
status_bare Status.unknown u = Bare.byte {b = 115} (λ e. omega (arith, e))

-- the third byte of a status line tells SATISFIABLE from the others, the fifth those apart
not_satisfiable : (s : Status) (u v : List ℕ) → satisfiable_text ++ u ≡ status_text s ++ v → ⊥
unfolding satisfiable_text status_text ascii
not_satisfiable Status.unsatisfiable u v e = omega (arith, ap (λ (l : List ℕ). get_or l 2 0) e)
not_satisfiable Status.unknown u v e = omega (arith, ap (λ (l : List ℕ). get_or l 2 0) e)

status_cancel : (s r : Status) (u v : List ℕ) → status_text s ++ u ≡ status_text r ++ v → (s ≡ r) × (u ≡ v)
unfolding status_text ascii
status_cancel Status.unsatisfiable Status.unsatisfiable u v e = (refl, front_cancel (status_text Status.unsatisfiable) u v e)
status_cancel Status.unsatisfiable Status.unknown u v e = absurd (omega (arith, ap (λ (l : List ℕ). get_or l 4 0) e))
status_cancel Status.unknown Status.unsatisfiable u v e = absurd (omega (arith, ap (λ (l : List ℕ). get_or l 4 0) e))
status_cancel Status.unknown Status.unknown u v e = (refl, front_cancel (status_text Status.unknown) u v e)

pub answer_unique : (a b : Answer) → So (proper a) → So (proper b) → answer_text a ≡ answer_text b → a ≡ b
unfolding answer_text proper
answer_unique (Answer.model before lines last after) (Answer.model before' lines' last' after') p q e =
    let p₁ = and_right (all one_line before) _ p in
    let q₁ = and_right (all one_line before') _ q in
    let p₂ = and_right (all line_proper lines) _ p₁ in
    let q₂ = and_right (all line_proper lines') _ q₁ in
    let r = comments_cancel before before' _ _ (and_left (all one_line before) _ p) (and_left (all one_line before') _ q) (satisfiable_bare _) (satisfiable_bare _) e in
    let s = lines_cancel lines lines' last last' (comments_text after) (comments_text after') (and_left (all line_proper lines) _ p₁) (and_left (all line_proper lines') _ q₁)
    (and_left (all named last) (all one_line after) p₂) (and_left (all named last') (all one_line after') q₂)
    (sym (ap (λ (z : List ℕ). lines_text lines ++ z) (last_then last (comments_text after))) ∙ front_cancel satisfiable_text _ _ r.1
    ∙ ap (λ (z : List ℕ). lines_text lines' ++ z) (last_then last' (comments_text after'))) in
    let c = comments_cancel after after' [] [] (and_right (all named last) (all one_line after) p₂) (and_right (all named last') (all one_line after') q₂) nothing nothing
    (append-nil (comments_text after) ∙ s.behind ∙ sym (append-nil (comments_text after'))) in
    λ j. Answer.model (r.0 j) (s.lines j) (s.last j) (c.0 j)
answer_unique (Answer.model before lines last after) (Answer.no_model before' status rest) p q e =
    let r = comments_cancel before before' _ (status_text status ++ rest) (and_left (all one_line before) _ p) q (satisfiable_bare _) (status_bare status rest) e in
    absurd (not_satisfiable status _ rest r.1)
answer_unique (Answer.no_model before' status rest) (Answer.model before lines last after) p q e =
    let r = comments_cancel before before' _ (status_text status ++ rest) (and_left (all one_line before) _ q) p (satisfiable_bare _) (status_bare status rest) (sym e) in
    absurd (not_satisfiable status _ rest r.1)
answer_unique (Answer.no_model before status rest) (Answer.no_model before' status' rest') p q e =
    let r = comments_cancel before before' (status_text status ++ rest) (status_text status' ++ rest') p q (status_bare status rest) (status_bare status' rest') e in
    let s = status_cancel status status' rest rest' r.1 in
    λ j. Answer.no_model (r.0 j) (s.0 j) (s.1 j)
