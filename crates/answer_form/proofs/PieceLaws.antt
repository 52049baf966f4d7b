-- Reading literal by literal: it comes to an end, has one outcome, and that outcome is the automaton's; on a printed answer it gives the literals where
-- they stand.
--   reads_total       from every position there is a reading
--   reads_unique      and one only
--   reads_closed      it ends as the automaton does
--   reads_model       the reading of a printed answer
--   spots_literals    the literals where they stand are the answer's literals
-- Assumes nothing.
use Prim.Native.Nat.{ℕ, zero, suc, ◌+◌, ◌-◌, ◌%◌, ◌≤◌, ◌<◌}
use native.Mathlib.Nat.{not-suc-le-zero, add-zero}
use native.Mathlib.Omega.{arith}
use mathlib.Core.Path.{◌≡◌, refl, sym, ◌∙◌, ap, ap₂, subst}
use mathlib.Core.Bool.{Bool, true, false, not, So, cond, true≢false}
use mathlib.Core.List.{List, [], ◌∷◌, ◌++◌, append_assoc, append-nil, map}
use lib.Dec.{eqb}
use lib.ListN.{length, length-append, length-drop, drop}
use lib.Seq.{drop-append_seam, drop-drop}
use borrow.Author.Tests.{ltb-true, ne_eqb, not-true}
use Rattle.lists.specs.Lists.{all}
use Rattle.lists.specs.Ascii.{ascii}
use Rattle.lists.proofs.Bools.{and_left, and_right}
use Rattle.encoding.specs.Literal.{Literal, literal_number}
use Literal.{var, −◌}
use Rattle.digits.specs.Bytes.{literal_text}
use Rattle.text.specs.Decimal.{decimal}
use Rattle.text.proofs.Decimals.{decimal_small, decimal_large, digits-ind}
use Rattle.reader_form.specs.Automaton.{digit_test}
use Rattle.reader_form.proofs.Digits.{is_digit}
use Rattle.answer_form.specs.Answer.{Comment, Line, Answer, one_line, named, line_proper, proper, comment_text, comments_text, spaced_text, lines_text, satisfiable_text, answer_text, line_literals, literals_of}
use Rattle.answer_form.specs.Automaton.{seek_step, answer_step, end_step, answer_accepts}
use Rattle.answer_form.specs.Pieces.{Next, digits_value, behind_digits, minus_from, literal_from, seek_from, next_literal, Close, close_of, Spotted, Reads, spaced_spots, line_spots, status_end, spots_of}
use Rattle.answer_form.proofs.Accepted.{byte, comments_end}
use Rattle.answer_form.proofs.Digits.{Stops, value_decimal, behind_decimal}
use Rattle.answer_form.proofs.Unique.{note_then, values_then, last_text, last_then, Tail, tail_stops, spaced_then}
use Rattle.answer_form.proofs.Passing.{Passes, fail_then, Heard, next_heard, Closed, close_heard}

-- ---- the automaton's outcome

module _ (t : List ℕ) where
  -- what is closed after n bytes is closed
  closed_behind : (q r i j n : ℕ) (c : Close) → Passes q (drop i t) r n → j ≡ i + n → Closed r j (drop j t) c → Closed q i (drop i t) c
  closed_behind q r i j n c p e d = go c (subst (λ (u : List ℕ). Closed r j u c) (ap (λ (k : ℕ). drop k t) e ∙ sym (drop-drop n i t)) d)
    where
      go : (c : Close) → Closed r j (drop n (drop i t)) c → Closed q i (drop i t) c
      go c (Closed.is_fine a) = Closed.is_fine (p.accept ∙ a)
      go c (Closed.is_left s m f x) = Closed.is_left s (n + m) (omega (arith, e, f)) (fail_then q r n m (drop i t) p x)

  heard_as : (p : ℕ) (x : Next) → next_literal t p ≡ x → Heard 35 p (drop p t) x
  heard_as p x e = subst (λ (y : Next). Heard 35 p (drop p t) y) e (next_heard t p)

  pub reads_closed : {p : ℕ} {xs : List Spotted} {c : Close} → Reads t p xs c → Closed 35 p (drop p t) c
  reads_closed {p} {c = c} (Reads.more l f j e r) = go (heard_as p (Next.literal l f j) e) (reads_closed r)
    where
      go : Heard 35 p (drop p t) (Next.literal l f j) → Closed 35 j (drop j t) c → Closed 35 p (drop p t) c
      go (Heard.a_literal m g k n a h i s o) d = closed_behind 35 35 p j n c o s d
  reads_closed {p} {c = c} (Reads.ends j e f) = go (heard_as p (Next.last j) e)
    where
      go : Heard 35 p (drop p t) (Next.last j) → Closed 35 p (drop p t) c
      go (Heard.a_zero k n s o) = closed_behind 35 39 p j n c o s (subst (λ (d : Close). Closed 39 j (drop j t) d) f (close_heard t j))
  reads_closed {p} (Reads.breaks s e) = go (heard_as p (Next.left s) e)
    where
      go : Heard 35 p (drop p t) (Next.left s) → Closed 35 p (drop p t) (Close.left s)
      go (Heard.is_left k n f x) = Closed.is_left s n f x

  -- ---- an end

  abbrev Reading : ℕ → Type 0
  Reading p = (xs : List Spotted) × (c : Close) × Reads t p xs c

  reads_within : (f p : ℕ) → p ≤ length t → length t < p + f → Reading p
  reads_within zero p h k = absurd (omega (arith, h, k))
  reads_within (suc f) p h k = go (next_literal t p) refl (reads_within f)
    where
      behind : (l : Literal) (g j : ℕ) → Heard 35 p (drop p t) (Next.literal l g j) → (p < j) × (j ≤ length t)
      behind l g j (Heard.a_literal m a b n x y z s o) = (omega (arith, y, z), omega (arith, s, h, o.within, length-drop p t))

      go : (x : Next) → next_literal t p ≡ x → ((q : ℕ) → q ≤ length t → length t < q + f → Reading q) → Reading p
      go (Next.literal l g j) e ih =
          let b = behind l g j (heard_as p (Next.literal l g j) e) in
          let r = ih j b.1 (omega (arith, k, b.0)) in
          (record { literal = l; first = g } ∷ r.0, r.1, Reads.more l g j e r.2)
      go (Next.last j) e ih = ([], close_of t j, Reads.ends j e refl)
      go (Next.left s) e ih = ([], Close.left s, Reads.breaks s e)

  pub reads_total : (p : ℕ) → p ≤ length t → Reading p
  reads_total p h = reads_within (length t + 1) p h (omega arith)

-- ---- one outcome

-- the parts of what is next
literal_in : Next → Literal
literal_in (Next.literal l f j) = l
literal_in (Next.last j) = var 0
literal_in (Next.left s) = var 0

first_in : Next → ℕ
first_in (Next.literal l f j) = f
first_in (Next.last j) = 0
first_in (Next.left s) = 0

index_in : Next → ℕ
index_in (Next.literal l f j) = j
index_in (Next.last j) = j
index_in (Next.left s) = s

kind : Next → ℕ
kind (Next.literal l f j) = 0
kind (Next.last j) = 1
kind (Next.left s) = 2

module _ (t : List ℕ) where
  abbrev Same : List Spotted → Close → List Spotted → Close → Type 0
  Same xs c ys d = (xs ≡ ys) × (c ≡ d)

  unlike : (p : ℕ) (x y : Next) → next_literal t p ≡ x → next_literal t p ≡ y → (kind x ≡ kind y → ⊥) → ⊥
  unlike p x y e f n = n (ap kind (sym e ∙ f))

  pub reads_unique : {p : ℕ} {xs ys : List Spotted} {c d : Close} → Reads t p xs c → Reads t p ys d → Same xs c ys d
  unfolding kind literal_in first_in index_in
  reads_unique {c = c} (Reads.more {p = p} {xs = xs} l f j e r) o = go o (λ ys d s. reads_unique {ys = ys} {d = d} r s)
    where
      go : {ys : List Spotted} {d : Close} → Reads t p ys d → ((ys : List Spotted) (d : Close) → Reads t j ys d → Same xs c ys d) → Same (record { literal = l; first = f } ∷ xs) c ys d
      go (Reads.more {xs = ys} {c = d} m g k h s) ih =
          let same = sym e ∙ h in
          let r = ih ys d (subst (λ (i : ℕ). Reads t i ys d) (sym (ap index_in same)) s) in
          (ap₂ ◌∷◌ (λ i. record { literal = literal_in (same i); first = first_in (same i) }) r.0, r.1)
      go (Reads.ends k h s) ih = absurd (unlike p _ _ e h (λ z. omega (arith, z)))
      go (Reads.breaks k h) ih = absurd (unlike p _ _ e h (λ z. omega (arith, z)))
  reads_unique {c = c} (Reads.ends {p = p} j e x) o = go o
    where
      go : {ys : List Spotted} {d : Close} → Reads t p ys d → Same [] c ys d
      go (Reads.more m g k h s) = absurd (unlike p _ _ e h (λ z. omega (arith, z)))
      go (Reads.ends k h s) = (refl, sym x ∙ ap (close_of t) (ap index_in (sym e ∙ h)) ∙ s)
      go (Reads.breaks k h) = absurd (unlike p _ _ e h (λ z. omega (arith, z)))
  reads_unique (Reads.breaks {p = p} s e) o = go o
    where
      go : {ys : List Spotted} {d : Close} → Reads t p ys d → Same [] (Close.left s) ys d
      go (Reads.more m g k h x) = absurd (unlike p _ _ e h (λ z. omega (arith, z)))
      go (Reads.ends k h x) = absurd (unlike p _ _ e h (λ z. omega (arith, z)))
      go (Reads.breaks k h) = (refl, ap Close.left (ap index_in (sym e ∙ h)))

-- ---- printed answers

-- a number that is not 0 begins with a digit from 1 to 9
record Begins (n : ℕ) : Type 0 where
  head : ℕ
  tail : List ℕ
  is : decimal n ≡ head ∷ tail
  digit : digit_test head ≡ true
  not_zero : eqb head 48 ≡ false
  not_minus : eqb head 45 ≡ false

begins : (n : ℕ) → 0 < n → Begins n
begins = digits-ind (λ n. 0 < n → Begins n)
    (λ n h z.
    record {
      head = 48 + n;
      tail = [];
      is = decimal_small n h;
      digit = is_digit n h;
      not_zero = ne_eqb (48 + n) 48 (λ e. omega (arith, e, z));
      not_minus = ne_eqb (48 + n) 45 (λ e. omega (arith, e));
    })
    (λ n h ih z.
    let b = ih (omega arith) in
    record {
      head = b.head;
      tail = b.tail ++ ((48 + n % 10) ∷ []);
      is = decimal_large n h ∙ ap (λ (ds : List ℕ). ds ++ ((48 + n % 10) ∷ [])) b.is;
      digit = b.digit;
      not_zero = b.not_zero;
      not_minus = b.not_minus;
    })

-- a first digit from 1 to 9
literal_first : (b i : ℕ) (u : List ℕ) → digit_test b ≡ true → eqb b 48 ≡ false → eqb b 45 ≡ false → literal_from i (b ∷ u) ≡ Next.literal (var (digits_value 0 (b ∷ u))) i (behind_digits i (b ∷ u))
unfolding literal_from
literal_first b i u d z m = rw (m, z, d)

minus_first : (b i : ℕ) (u : List ℕ) → digit_test b ≡ true → eqb b 48 ≡ false → minus_from i (b ∷ u) ≡ Next.literal (− (digits_value 0 (b ∷ u))) (i - 1) (behind_digits i (b ∷ u))
unfolding minus_from
minus_first b i u d z = rw (z, d)

number_from : (n i : ℕ) (u : List ℕ) → 0 < n → Stops u → literal_from i (decimal n ++ u) ≡ Next.literal (var n) i (i + length (decimal n))
number_from n i u z s =
    let b = begins n z in
    let e = ap (λ (ds : List ℕ). ds ++ u) b.is in
    ap (literal_from i) e ∙ literal_first b.head i (b.tail ++ u) b.digit b.not_zero b.not_minus
    ∙ ap₂ (λ (v j : ℕ). Next.literal (var v) i j) (ap (digits_value 0) (sym e) ∙ value_decimal n u s) (ap (behind_digits i) (sym e) ∙ behind_decimal n i u s)

minus_from_lem : (n i : ℕ) (u : List ℕ) → 0 < n → Stops u → minus_from i (decimal n ++ u) ≡ Next.literal (− n) (i - 1) (i + length (decimal n))
minus_from_lem n i u z s =
    let b = begins n z in
    let e = ap (λ (ds : List ℕ). ds ++ u) b.is in
    ap (minus_from i) e ∙ minus_first b.head i (b.tail ++ u) b.digit b.not_zero
    ∙ ap₂ (λ (v j : ℕ). Next.literal (− v) (i - 1) j) (ap (digits_value 0) (sym e) ∙ value_decimal n u s) (ap (behind_digits i) (sym e) ∙ behind_decimal n i u s)

literal_from_lem : (l : Literal) (i : ℕ) (u : List ℕ) → So (named l) → Stops u
    → literal_from i (literal_text (literal_number l) ++ u) ≡ Next.literal l i (i + length (literal_text (literal_number l)))
unfolding literal_from
literal_from_lem (var n) i u p s = number_from n i u (ltb-true 0 n p) s
literal_from_lem (− zero) i u p s = absurd (not-suc-le-zero (ltb-true 0 0 p))
literal_from_lem (− (suc n)) i u p s = minus_from_lem (suc n) (i + 1) u (omega arith) s ∙ ap₂ (λ (f j : ℕ). Next.literal (− (suc n)) f j) (omega arith) (omega arith)

-- ---- pieces of a text

seek_literal : (l : Literal) (i : ℕ) (u : List ℕ) → So (named l) → Stops u
    → seek_from 35 i (32 ∷ (literal_text (literal_number l) ++ u)) ≡ Next.literal l (i + 1) (i + 1 + length (literal_text (literal_number l)))
unfolding seek_from seek_step
seek_literal l i u p s = literal_from_lem l (i + 1) u p s

seek_zero : (i : ℕ) (u : List ℕ) → seek_from 35 i (32 ∷ 48 ∷ u) ≡ Next.last (i + 1 + 1)
unfolding seek_from seek_step literal_from
seek_zero i u = refl

-- a line's end and the v of the next line
seek_values : (i : ℕ) (u : List ℕ) → seek_from 35 i (10 ∷ 118 ∷ u) ≡ seek_from 35 (i + 1 + 1) u
unfolding seek_from seek_step
seek_values i u = refl

seek_remark : (bs : Comment) → So (one_line bs) → (i : ℕ) (u : List ℕ) → seek_from 34 i (bs ++ (10 ∷ u)) ≡ seek_from 35 (i + length bs) (10 ∷ u)
unfolding seek_from seek_step
seek_remark [] p i u = ap (λ (j : ℕ). seek_from 33 (j + 1) u) (sym (add-zero i))
seek_remark (b ∷ bs) p i u = go (eqb b 10) (not-true (eqb b 10) (and_left (not (eqb b 10)) (one_line bs) p)) (seek_remark bs (and_right (not (eqb b 10)) (one_line bs) p) (i + 1) u)
  where
    go : (x : Bool) → x ≡ false → seek_from 34 (i + 1) (bs ++ (10 ∷ u)) ≡ seek_from 35 (i + 1 + length bs) (10 ∷ u)
        → cond (eqb (cond x 33 34) 36) (literal_from (i + 1) (bs ++ (10 ∷ u))) (cond (eqb (cond x 33 34) 43) (Next.left i) (seek_from (cond x 33 34) (i + 1) (bs ++ (10 ∷ u))))
        ≡ seek_from 35 (i + suc (length bs)) (10 ∷ u)
    go true e ih = absurd (true≢false e)
    go false e ih = ih ∙ ap (λ (j : ℕ). seek_from 35 j (10 ∷ u)) (omega arith)

-- a line's end and a c line
seek_note : (bs : Comment) → So (one_line bs) → (i : ℕ) (u : List ℕ) → seek_from 35 i (10 ∷ 99 ∷ (bs ++ (10 ∷ u))) ≡ seek_from 35 (i + 1 + 1 + length bs) (10 ∷ u)
unfolding seek_from seek_step
seek_note bs p i u = seek_remark bs p (i + 1 + 1) u

-- ---- literals where they stand

module _ (t : List ℕ) where
  -- what stands after ds
  drop_behind : (p j : ℕ) (ds u : List ℕ) → j ≡ p + length ds → drop p t ≡ ds ++ u → drop j t ≡ u
  drop_behind p j ds u f e = ap (λ (k : ℕ). drop k t) f ∙ sym (drop-drop (length ds) p t) ∙ ap (drop (length ds)) e ∙ drop-append_seam ds u

  next_is : (p : ℕ) (u : List ℕ) → drop p t ≡ u → next_literal t p ≡ seek_from 35 p u
  unfolding next_literal
  next_is p u e = ap (seek_from 35 p) e

  -- two positions from which the same is next
  reads_from : {p q : ℕ} {xs : List Spotted} {c : Close} → next_literal t p ≡ next_literal t q → Reads t q xs c → Reads t p xs c
  reads_from e (Reads.more l f j h r) = Reads.more l f j (e ∙ h) r
  reads_from e (Reads.ends j h s) = Reads.ends j (e ∙ h) s
  reads_from e (Reads.breaks s h) = Reads.breaks s (e ∙ h)

  reads_spaced : (vs : List Literal) → So (all named vs) → (u : List ℕ) → Tail u → (p : ℕ) → drop p t ≡ spaced_text vs ++ u → (xs : List Spotted) (c : Close)
      → Reads t (p + length (spaced_text vs)) xs c → Reads t p (spaced_spots p vs ++ xs) c
  reads_spaced [] a u x p e xs c r = subst (λ (k : ℕ). Reads t k xs c) (add-zero p) r
  reads_spaced (l ∷ vs) a u x p e xs c r =
      let f = e ∙ spaced_then l vs u in
      Reads.more l (p + 1) (p + 1 + length (literal_text (literal_number l)))
      (next_is p _ f ∙ seek_literal l p (spaced_text vs ++ u) (and_left (named l) (all named vs) a) (tail_stops vs u x))
      (reads_spaced vs (and_right (named l) (all named vs) a) u x (p + 1 + length (literal_text (literal_number l)))
      (drop_behind p (p + 1 + length (literal_text (literal_number l))) (32 ∷ literal_text (literal_number l)) (spaced_text vs ++ u) (omega arith) f) xs c
      (subst (λ (k : ℕ). Reads t k xs c) (omega (arith, length-append (literal_text (literal_number l)) (spaced_text vs))) r))

  -- literal 0, its line end and c lines
  reads_end : (after : List Comment) → So (all one_line after) → (p : ℕ) → drop p t ≡ 32 ∷ 48 ∷ 10 ∷ comments_text after → Reads t p [] Close.fine
  unfolding answer_step end_step
  reads_end after a p e =
      Reads.ends (p + 1 + 1) (next_is p _ e ∙ seek_zero p (10 ∷ comments_text after))
      (fine_of (close_of t (p + 1 + 1)) (close_heard t (p + 1 + 1))
      (ap (answer_accepts 39) (drop_behind p (p + 1 + 1) (32 ∷ 48 ∷ []) (10 ∷ comments_text after) (omega arith) e) ∙ byte 39 10 40 (comments_text after) refl ∙ comments_end after a))
    where
      fine_of : {i : ℕ} {u : List ℕ} (c : Close) → Closed 39 i u c → answer_accepts 39 u ≡ true → c ≡ Close.fine
      fine_of c (Closed.is_fine b) a = refl
      fine_of c (Closed.is_left s n f x) a = absurd (true≢false (sym a ∙ x.reject))

  reads_last : (vs : List Literal) → So (all named vs) → (after : List Comment) → So (all one_line after) → (p : ℕ)
      → drop p t ≡ spaced_text vs ++ (32 ∷ 48 ∷ 10 ∷ comments_text after) → Reads t p (spaced_spots p vs) Close.fine
  reads_last vs a after b p e =
      subst (λ (xs : List Spotted). Reads t p xs Close.fine) (append-nil (spaced_spots p vs))
      (reads_spaced vs a (32 ∷ 48 ∷ 10 ∷ comments_text after) Tail.zero_end p e [] Close.fine
      (reads_end after b (p + length (spaced_text vs)) (drop_behind p (p + length (spaced_text vs)) (spaced_text vs) (32 ∷ 48 ∷ 10 ∷ comments_text after) refl e)))

  -- p is a line's end; i is the start of the lines ls, k the index after the v of the last line
  reads_lines : (vs : List Literal) → So (all named vs) → (after : List Comment) → So (all one_line after) → (ls : List Line) → So (all line_proper ls) → (p i k : ℕ)
      → drop p t ≡ 10 ∷ (lines_text ls ++ last_text vs (comments_text after)) → i ≡ p + 1 → k ≡ i + length (lines_text ls) + 1 → Reads t p (line_spots i ls ++ spaced_spots k vs) Close.fine
  reads_lines vs a after b [] c p i k e f g =
      subst (λ (j : ℕ). Reads t p (spaced_spots j vs) Close.fine) (omega (arith, f, g))
      (reads_from (next_is p _ e ∙ seek_values p _ ∙ sym (next_is (p + 1 + 1) _ behind)) (reads_last vs a after b (p + 1 + 1) behind))
    where
      behind : drop (p + 1 + 1) t ≡ spaced_text vs ++ (32 ∷ 48 ∷ 10 ∷ comments_text after)
      behind = drop_behind p (p + 1 + 1) (10 ∷ 118 ∷ []) _ (omega arith) e
  reads_lines vs a after b (Line.comment bs ∷ ls) c p i k e f g =
      reads_from (next_is p _ start ∙ seek_note bs one p _ ∙ sym (next_is q _ behind))
      (reads_lines vs a after b ls (and_right (one_line bs) (all line_proper ls) c) q (i + length (comment_text bs)) k behind (omega (arith, f, length-append bs (10 ∷ [])))
      (omega (arith, g, length-append (comment_text bs) (lines_text ls))))
    where
      one : So (one_line bs)
      one = and_left (one_line bs) (all line_proper ls) c

      q : ℕ
      q = p + 1 + 1 + length bs

      start : drop p t ≡ 10 ∷ 99 ∷ (bs ++ (10 ∷ (lines_text ls ++ last_text vs (comments_text after))))
      start = e ∙ ap (λ (u : List ℕ). 10 ∷ u) (note_then bs ls (last_text vs (comments_text after)))

      behind : drop q t ≡ 10 ∷ (lines_text ls ++ last_text vs (comments_text after))
      behind = drop_behind p q (10 ∷ 99 ∷ bs) _ (omega arith) start
  reads_lines vs a after b (Line.values ys ∷ ls) c p i k e f g =
      reads_from (next_is p _ start ∙ seek_values p _ ∙ sym (next_is (p + 1 + 1) _ behind))
      (subst (λ (xs : List Spotted). Reads t (p + 1 + 1) xs Close.fine)
      (ap (λ (j : ℕ). spaced_spots j ys ++ (line_spots (i + length (spaced_text ys) + 2) ls ++ spaced_spots k vs)) (omega (arith, f))
      ∙ sym (append_assoc (spaced_spots (i + 1) ys) (line_spots (i + length (spaced_text ys) + 2) ls) (spaced_spots k vs)))
      (reads_spaced ys (and_left (all named ys) (all line_proper ls) c) _ Tail.line_end_lem (p + 1 + 1) behind _ Close.fine
      (reads_lines vs a after b ls (and_right (all named ys) (all line_proper ls) c) (p + 1 + 1 + length (spaced_text ys)) (i + length (spaced_text ys) + 2) k
      (drop_behind (p + 1 + 1) (p + 1 + 1 + length (spaced_text ys)) (spaced_text ys) _ refl behind) (omega (arith, f))
      (omega (arith, g, length-append (spaced_text ys ++ (10 ∷ [])) (lines_text ls), length-append (spaced_text ys) (10 ∷ []))))))
    where
      start : drop p t ≡ 10 ∷ 118 ∷ (spaced_text ys ++ (10 ∷ (lines_text ls ++ last_text vs (comments_text after))))
      start = e ∙ ap (λ (u : List ℕ). 10 ∷ u) (values_then ys ls (last_text vs (comments_text after)))

      behind : drop (p + 1 + 1) t ≡ spaced_text ys ++ (10 ∷ (lines_text ls ++ last_text vs (comments_text after)))
      behind = drop_behind p (p + 1 + 1) (10 ∷ 118 ∷ []) _ (omega arith) start

-- ---- answers

-- the text from the end of the status line on
model_rest : (before : List Comment) (lines : List Line) (vs : List Literal) (after : List Comment)
    → drop (status_end before) (answer_text (Answer.model before lines vs after)) ≡ 10 ∷ (lines_text lines ++ last_text vs (comments_text after))
unfolding answer_text satisfiable_text ascii
model_rest before lines vs after =
    sym (drop-drop 13 (length (comments_text before)) (answer_text (Answer.model before lines vs after))) ∙ ap (drop 13) (drop-append_seam (comments_text before) _)
    ∙ ap (λ (u : List ℕ). 10 ∷ (lines_text lines ++ u)) (last_then vs (comments_text after))

pub reads_model : (before : List Comment) (lines : List Line) (vs : List Literal) (after : List Comment) → So (proper (Answer.model before lines vs after))
    → Reads (answer_text (Answer.model before lines vs after)) (status_end before) (spots_of (Answer.model before lines vs after)) Close.fine
unfolding proper spots_of
reads_model before lines vs after p =
    let q = and_right (all one_line before) _ p in
    let r = and_right (all line_proper lines) _ q in
    reads_lines (answer_text (Answer.model before lines vs after)) vs (and_left (all named vs) (all one_line after) r) after (and_right (all named vs) (all one_line after) r)
    lines (and_left (all line_proper lines) _ q) (status_end before) (status_end before + 1) (status_end before + 1 + length (lines_text lines) + 1) (model_rest before lines vs after) refl refl

-- the literals alone
abbrev pub literals_at : List Spotted → List Literal
literals_at xs = map (λ (x : Spotted). x.literal) xs

literals_append : (xs ys : List Spotted) → literals_at (xs ++ ys) ≡ literals_at xs ++ literals_at ys
literals_append [] ys = refl
literals_append (x ∷ xs) ys = ap (λ (ls : List Literal). x.literal ∷ ls) (literals_append xs ys)

spaced_literals : (i : ℕ) (vs : List Literal) → literals_at (spaced_spots i vs) ≡ vs
spaced_literals i [] = refl
spaced_literals i (l ∷ ls) = ap (λ (xs : List Literal). l ∷ xs) (spaced_literals (i + 1 + length (literal_text (literal_number l))) ls)

line_literals_lem : (i : ℕ) (ls : List Line) → literals_at (line_spots i ls) ≡ line_literals ls
line_literals_lem i [] = refl
line_literals_lem i (Line.comment bs ∷ ls) = line_literals_lem (i + length (comment_text bs)) ls
line_literals_lem i (Line.values vs ∷ ls) =
    literals_append (spaced_spots (i + 1) vs) (line_spots (i + length (spaced_text vs) + 2) ls) ∙ ap₂ ◌++◌ (spaced_literals (i + 1) vs) (line_literals_lem (i + length (spaced_text vs) + 2) ls)

pub spots_literals : (a : Answer) → literals_at (spots_of a) ≡ literals_of a
unfolding spots_of literals_of
spots_literals (Answer.model before lines vs after) =
    literals_append (line_spots (status_end before + 1) lines) (spaced_spots (status_end before + 1 + length (lines_text lines) + 1) vs)
    ∙ ap₂ ◌++◌ (line_literals_lem (status_end before + 1) lines) (spaced_literals (status_end before + 1 + length (lines_text lines) + 1) vs)
spots_literals (Answer.no_model before status rest) = refl
