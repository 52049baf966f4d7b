-- The answer read piece by piece (document 01, "Solver answer"): its status, its literals one after the other, and what follows literal 0. A position
-- is an index of the byte after v, after a literal, or of the byte 10 that ends the status line. A function `..From i t` reads the bytes t of
-- which the first has index i.
--   common u w        how many bytes u and w share at their front
--   first_line q i t  the index of the first line that is no c line, or after t; q is 0 at a line's start, 32 in a c line
--   status_of t       which status, and the index of its line end; or the spot where t leaves the form
--   digits_value v t  the number of v's digits and the digits at the front of t
--   capped_value m v t the same, of which no more than m is kept
--   behind_digits i t  the index after the digits at the front of t
--   next_literal t p   the next literal from position p on, the index of its first byte and the position after it; or literal 0 and the index after
--                     it; or the spot where t leaves the form
--   close_of t i      whether only a line end and c lines stand from i on; or the spot where t leaves the form
--   Reads t p xs c    from position p on the literals are xs, with the indices of their first bytes, and then the text ends as c says
--   spots_of a        the literals of an answer with the indices of their first bytes in its text
--   LiteralAt t x     the literal x stands whole at its spot in t
--   OffersModel t e   t offers a model, and its status line ends at e
-- Assumes nothing.
use Rattle.std.specs.Prelude.{ℕ, suc, ◌+◌, ◌*◌, ◌-◌, min, max, ◌≡◌, not, ◌&&◌, cond, List, [], ◌∷◌, ◌++◌, eqb, length, drop}
use Rattle.std.proofs.Math.Bool.{So}
use Rattle.reader_form.specs.Automaton.{digit_test}
use Rattle.encoding.specs.Literal.{Literal, literal_number}
use Literal.{var, −◌}
use Rattle.digits.specs.Bytes.{literal_text}
use Rattle.text.specs.Standing.{WholeAt}
use Rattle.answer_form.specs.Answer.{Comment, Line, Status, Answer, proper, answer_text, comment_text, comments_text, spaced_text, lines_text, satisfiable_text, status_text}
use Rattle.answer_form.specs.Automaton.{seek_step, end_step}

-- ---- the status

pub data Found : Type 0 where
  satisfiable : (line_end : ℕ) → Found
  other : (status : Status) → Found
  left : (spot : ℕ) → Found

unfoldable pub common : List ℕ → List ℕ → ℕ
common u [] = 0
common [] (c ∷ w) = 0
common (b ∷ u) (c ∷ w) = cond (eqb b c) (suc (common u w)) 0

unfoldable pub first_line : ℕ → ℕ → List ℕ → ℕ
first_line q i [] = i
first_line q i (b ∷ t) = cond (eqb q 0 && not (eqb b 99)) i (first_line (cond (eqb q 0) 32 (cond (eqb b 10) 0 32)) (i + 1) t)

-- the line at the front of u, whose first byte has index i, is compared with the three status lines
unfoldable pub status_from : ℕ → List ℕ → Found
status_from i u =
    cond (eqb (common u satisfiable_text) 14) (Found.satisfiable (i + 13))
    (cond (eqb (common u (status_text Status.unsatisfiable)) 16) (Found.other Status.unsatisfiable)
    (cond (eqb (common u (status_text Status.unknown)) 10) (Found.other Status.unknown)
    (Found.left (i + max (common u satisfiable_text) (max (common u (status_text Status.unsatisfiable)) (common u (status_text Status.unknown)))))))

unfoldable pub status_of : List ℕ → Found
status_of t = status_from (first_line 0 0 t) (drop (first_line 0 0 t) t)

-- ---- literals

pub data Next : Type 0 where
  literal : (l : Literal) (first behind : ℕ) → Next
  last : (behind : ℕ) → Next
  left : (spot : ℕ) → Next

unfoldable pub digits_value : ℕ → List ℕ → ℕ
digits_value v [] = v
digits_value v (b ∷ t) = cond (digit_test b) (digits_value (v * 10 + (b - 48)) t) v

unfoldable pub capped_value : ℕ → ℕ → List ℕ → ℕ
capped_value m v [] = v
capped_value m v (b ∷ t) = cond (digit_test b) (capped_value m (min m (v * 10 + (b - 48))) t) v

unfoldable pub behind_digits : ℕ → List ℕ → ℕ
behind_digits i [] = i
behind_digits i (b ∷ t) = cond (digit_test b) (behind_digits (i + 1) t) i

-- after a minus: a digit from 1 to 9 and more digits
unfoldable pub minus_from : ℕ → List ℕ → Next
minus_from i [] = Next.left i
minus_from i (b ∷ t) =
    cond (eqb b 48) (Next.left i) (cond (digit_test b) (Next.literal (− (digits_value 0 (b ∷ t))) (i - 1) (behind_digits i (b ∷ t))) (Next.left i))

-- after a space
unfoldable pub literal_from : ℕ → List ℕ → Next
literal_from i [] = Next.left i
literal_from i (b ∷ t) =
    cond (eqb b 45) (minus_from (i + 1) t)
    (cond (eqb b 48) (Next.last (i + 1))
    (cond (digit_test b) (Next.literal (var (digits_value 0 (b ∷ t))) i (behind_digits i (b ∷ t))) (Next.left i)))

-- up to the next space; q is 33 at a line's start, 34 in a c line, 35 in a v line
unfoldable pub seek_from : ℕ → ℕ → List ℕ → Next
seek_from q i [] = Next.left i
seek_from q i (b ∷ t) =
    cond (eqb (seek_step q b) 36) (literal_from (i + 1) t) (cond (eqb (seek_step q b) 43) (Next.left i) (seek_from (seek_step q b) (i + 1) t))

unfoldable pub next_literal : List ℕ → ℕ → Next
next_literal t p = seek_from 35 p (drop p t)

-- ---- after literal 0

pub data Close : Type 0 where
  fine : Close
  left : (spot : ℕ) → Close

-- q is 39 after the 0, 40 at a line's start, 41 in a c line
unfoldable pub close_from : ℕ → ℕ → List ℕ → Close
close_from q i [] = cond (eqb q 40) Close.fine (Close.left i)
close_from q i (b ∷ t) = cond (eqb (end_step q b) 43) (Close.left i) (close_from (end_step q b) (i + 1) t)

unfoldable pub close_of : List ℕ → ℕ → Close
close_of t i = close_from 39 i (drop i t)

-- ---- all literals

pub record Spotted : Type 0 where
  pub literal : Literal
  pub first : ℕ

-- from position p on, t has the literals xs, and then ends as c says
pub data Reads (t : List ℕ) : (p : ℕ) (xs : List Spotted) (c : Close) → Type 0 where
  more : {p : ℕ} {xs : List Spotted} {c : Close} (l : Literal) (first behind : ℕ) → next_literal t p ≡ Next.literal l first behind → Reads t behind xs c
      → Reads t p (record { literal = l; first = first } ∷ xs) c
  ends : {p : ℕ} {c : Close} (behind : ℕ) → next_literal t p ≡ Next.last behind → close_of t behind ≡ c → Reads t p [] c
  breaks : {p : ℕ} (spot : ℕ) → next_literal t p ≡ Next.left spot → Reads t p [] (Close.left spot)

-- ---- where the literals of an answer stand

-- spaced literals of which the first space has index i
abbrev pub spaced_spots : ℕ → List Literal → List Spotted
spaced_spots i [] = []
spaced_spots i (l ∷ ls) = record { literal = l; first = i + 1 } ∷ spaced_spots (i + 1 + length (literal_text (literal_number l))) ls

-- lines from index i on
abbrev pub line_spots : ℕ → List Line → List Spotted
line_spots i [] = []
line_spots i (Line.comment bs ∷ ls) = line_spots (i + length (comment_text bs)) ls
line_spots i (Line.values vs ∷ ls) = spaced_spots (i + 1) vs ++ line_spots (i + length (spaced_text vs) + 2) ls

-- the index of the byte 10 that ends the status line of a model
abbrev pub status_end : List Comment → ℕ
status_end before = length (comments_text before) + 13

unfoldable pub spots_of : Answer → List Spotted
spots_of (Answer.model before lines vs after) =
    line_spots (status_end before + 1) lines ++ spaced_spots (status_end before + 1 + length (lines_text lines) + 1) vs
spots_of (Answer.no_model before status rest) = []

-- the literal x stands whole at its spot in t
abbrev pub LiteralAt : List ℕ → Spotted → Type 0
LiteralAt t x = WholeAt t x.first (literal_text (literal_number x.literal))

-- ---- a text that offers a model

-- t is the text of a proper answer with the status SATISFIABLE, whose literals are read one by one from the end e of its status line on
pub record OffersModel (t : List ℕ) (e : ℕ) : Type 0 where
  pub before : List Comment
  pub lines : List Line
  pub literals : List Literal
  pub after : List Comment
  pub is_proper : So (proper (Answer.model before lines literals after))
  pub its_text : t ≡ answer_text (Answer.model before lines literals after)
  pub its_end : e ≡ status_end before
  pub its_literals : Reads t e (spots_of (Answer.model before lines literals after)) Close.fine
