-- At the spot of each literal the text of an answer has that literal (document 01, "Verdicts", rows 13 and 14: "its literal's first byte").
--   literals_at_lem  each literal of an answer stands whole at its spot in its text
--   spots_shown      the bytes at the spots of a small answer
-- Assumes nothing.
use Prim.Native.Nat.{ℕ, ◌+◌, ◌<◌}
use native.Mathlib.Omega.{arith}
use mathlib.Core.Path.{◌≡◌, refl, sym, ◌∙◌, ap, subst}
use mathlib.Core.Bool.{So}
use mathlib.Core.List.{List, [], ◌∷◌, ◌++◌, map, append_assoc}
use lib.ListN.{length, take, drop, get_or}
use Rattle.lists.specs.Ascii.{ascii}
use Rattle.encoding.specs.Literal.{Literal, literal_number}
use Literal.{var, −◌}
use Rattle.text.specs.Standing.{separates}
use Rattle.text.specs.Decimal.{decimal}
use Rattle.text.proofs.Standing.{behind, next, fresh, whole}
use Rattle.text.proofs.Each.{Each, none, also, each_append, each_at}
use Rattle.digits.specs.Bytes.{literal_text}
use Rattle.answer_form.specs.Answer.{Comment, Line, Answer, comment_text, comments_text, spaced_text, lines_text, satisfiable_text, answer_text}
use Rattle.answer_form.specs.Pieces.{Spotted, spaced_spots, line_spots, status_end, spots_of, LiteralAt}

-- a space, or what comes after all literals
stops : (ls : List Literal) (w : List ℕ) → So (separates (get_or w 0 0)) → So (separates (get_or (spaced_text ls ++ w) 0 0))
stops [] w p = p
stops (l ∷ ls) w p = refl

module _ (t : List ℕ) where
  spaced_at : (ls : List Literal) (i : ℕ) (w : List ℕ) → drop i t ≡ spaced_text ls ++ w → So (separates (get_or w 0 0)) → Each (LiteralAt t) (spaced_spots i ls)
  spaced_at [] i w e p = none
  spaced_at (l ∷ ls) i w e p =
      let u = literal_text (literal_number l) in
      let f = fresh t i (i + 1) 32 (u ++ (spaced_text ls ++ w)) (e ∙ ap (λ (v : List ℕ). 32 ∷ v) (append_assoc u (spaced_text ls) w)) refl refl in
      also (whole t (i + 1) u (spaced_text ls ++ w) f (stops ls w p)) (spaced_at ls (i + 1 + length u) w (behind t (i + 1) u (spaced_text ls ++ w) f.rest) p)

  lines_at : (ls : List Line) (i : ℕ) (w : List ℕ) → drop i t ≡ lines_text ls ++ w → Each (LiteralAt t) (line_spots i ls)
  lines_at [] i w e = none
  lines_at (Line.comment bs ∷ ls) i w e =
      lines_at ls (i + length (comment_text bs)) w (behind t i (comment_text bs) (lines_text ls ++ w) (e ∙ append_assoc (comment_text bs) (lines_text ls) w))
  lines_at (Line.values vs ∷ ls) i w e =
      let v = lines_text ls ++ w in
      let f : drop (i + 1) t ≡ spaced_text vs ++ (10 ∷ v) = next t i 118 _ (e ∙ append_assoc (118 ∷ (spaced_text vs ++ (10 ∷ []))) (lines_text ls) w
      ∙ ap (λ (u : List ℕ). 118 ∷ u) (append_assoc (spaced_text vs) (10 ∷ []) v)) in
      let k : i + length (spaced_text vs) + 2 ≡ i + 1 + length (spaced_text vs) + 1 = omega arith in
      each_append (LiteralAt t) (spaced_at vs (i + 1) (10 ∷ v) f refl)
      (lines_at ls (i + length (spaced_text vs) + 2) w
      (ap (λ (k : ℕ). drop k t) k ∙ next t (i + 1 + length (spaced_text vs)) 10 v (behind t (i + 1) (spaced_text vs) (10 ∷ v) f)))

-- the bytes after the status line
model_lines : (before : List Comment) (lines : List Line) (last : List Literal) (after : List Comment)
    → drop (status_end before + 1) (answer_text (Answer.model before lines last after))
    ≡ lines_text lines ++ ((118 ∷ (spaced_text last ++ (32 ∷ 48 ∷ 10 ∷ []))) ++ comments_text after)
unfolding answer_text satisfiable_text ascii
model_lines before lines last after =
    let t = answer_text (Answer.model before lines last after) in
    let n = length (comments_text before) in
    let k : n + 13 + 1 ≡ 0 + n + 14 = omega arith in
    ap (λ (k : ℕ). drop k t) k ∙ behind t (0 + n) satisfiable_text _ (behind t 0 (comments_text before) _ refl)

model_at : (before : List Comment) (lines : List Line) (last : List Literal) (after : List Comment)
    → Each (LiteralAt (answer_text (Answer.model before lines last after))) (spots_of (Answer.model before lines last after))
unfolding spots_of
model_at before lines last after =
    let t = answer_text (Answer.model before lines last after) in
    let i = status_end before + 1 in
    let w = (118 ∷ (spaced_text last ++ (32 ∷ 48 ∷ 10 ∷ []))) ++ comments_text after in
    let e = model_lines before lines last after in
    each_append (LiteralAt t) (lines_at t lines i w e)
    (spaced_at t last (i + length (lines_text lines) + 1) (32 ∷ 48 ∷ 10 ∷ comments_text after)
    (next t (i + length (lines_text lines)) 118 _ (behind t i (lines_text lines) w e)
    ∙ append_assoc (spaced_text last) (32 ∷ 48 ∷ 10 ∷ []) (comments_text after)) refl)

answer_at : (a : Answer) → Each (LiteralAt (answer_text a)) (spots_of a)
unfolding spots_of
answer_at (Answer.model before lines last after) = model_at before lines last after
answer_at (Answer.no_model before status rest) = none

-- of a text t with the literals xs, by place; d stands at a place that is none's
pub literals_at_lem : (t : List ℕ) (xs : List Spotted) (a : Answer) → t ≡ answer_text a → xs ≡ spots_of a → (d : Spotted) (j : ℕ) → j < length xs
    → LiteralAt t (get_or xs j d)
literals_at_lem t xs a e f d j h =
    subst (λ (u : List ℕ). LiteralAt u (get_or xs j d)) (sym e)
    (subst (λ (ys : List Spotted). j < length ys → LiteralAt (answer_text a) (get_or ys j d)) (sym f) (each_at (LiteralAt (answer_text a)) d (answer_at a) j) h)

-- ---- "c x", "s SATISFIABLE", "v 1 -23", "c", "v", "v 4 0"

abbrev sample : Answer
sample = Answer.model (ascii " x" ∷ []) (Line.values (var 1 ∷ − 23 ∷ []) ∷ Line.comment [] ∷ Line.values [] ∷ []) (var 4 ∷ []) []

pub spots_shown : map (λ x. take 3 (drop x.first (answer_text sample))) (spots_of sample) ≡ map ascii ("1 -" ∷ "-23" ∷ "4 0" ∷ [])
unfolding spots_of answer_text satisfiable_text decimal ascii
spots_shown = refl
