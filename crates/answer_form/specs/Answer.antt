-- Solver answers (document 01, "Solver answer"), as bytes. The form is the set of texts that `answer_text` gives for some answer; no reader enters
-- its definition.
--   Line                  a line between the status line and the last v line: c or v
--   Answer                with the status SATISFIABLE, or with another one and any bytes past its line end
--   Proper a              no comment holds byte 10, and no literal but the last is 0
--   answer_text a         its bytes
--   literals_of a         its literals but the last 0, in order
--   HasAnswerForm t       t is the text of some proper answer
--   OfStatus t s          t is that of one with the status s, another than SATISFIABLE
--   AnswerViable t        some ending of t, a list of bytes, gives the form
--   AnswerMalformed t s   s is the first byte after which no ending gives the form, or the length if the text stops short
-- Assumes nothing.
use Rattle.std.specs.Prelude.{ℕ, ◌≡◌, Bool, not, ◌&&◌, List, [], ◌∷◌, ◌++◌, eqb, ltb}
use Rattle.std.proofs.Math.Bool.{So}
use Rattle.lists.specs.Lists.{all}
use Rattle.lists.specs.Ascii.{ascii}
use Rattle.encoding.specs.Literal.{Literal, literal_number, variable}
use Rattle.text.specs.Spot.{ViableIn, MalformedIn}
use Rattle.digits.specs.Bytes.{literal_text}

-- a comment is what stands between its c and its byte 10
abbrev pub Comment : Type 0
Comment = List ℕ

pub data Line : Type 0 where
  comment : Comment → Line
  values : List Literal → Line

pub data Status : Type 0 where
  unsatisfiable : Status
  unknown : Status

pub data Answer : Type 0 where
  -- comments, the status line, further lines, the literals before the last 0, comments
  model : (before : List Comment) (lines : List Line) (last : List Literal) (after : List Comment) → Answer
  no_model : (before : List Comment) (status : Status) (rest : List ℕ) → Answer

-- ---- what is proper

abbrev pub one_line : Comment → Bool
one_line bs = all (λ b. not (eqb b 10)) bs

abbrev pub named : Literal → Bool
named l = ltb 0 (variable l)

abbrev pub line_proper : Line → Bool
line_proper (comment bs) = one_line bs
line_proper (values ls) = all named ls

unfoldable pub proper : Answer → Bool
proper (model before lines last after) = all one_line before && (all line_proper lines && (all named last && all one_line after))
proper (no_model before status rest) = all one_line before

-- ---- the bytes

abbrev pub comment_text : Comment → List ℕ
comment_text bs = 99 ∷ (bs ++ (10 ∷ []))

abbrev pub comments_text : List Comment → List ℕ
comments_text [] = []
comments_text (bs ∷ bss) = comment_text bs ++ comments_text bss

-- one space before each literal
abbrev pub spaced_text : List Literal → List ℕ
spaced_text [] = []
spaced_text (l ∷ ls) = 32 ∷ (literal_text (literal_number l) ++ spaced_text ls)

abbrev pub lines_text : List Line → List ℕ
lines_text [] = []
lines_text (comment bs ∷ ls) = comment_text bs ++ lines_text ls
lines_text (values vs ∷ ls) = (118 ∷ (spaced_text vs ++ (10 ∷ []))) ++ lines_text ls

unfoldable pub satisfiable_text : List ℕ
satisfiable_text = ascii "s SATISFIABLE\n"

unfoldable pub status_text : Status → List ℕ
status_text unsatisfiable = ascii "s UNSATISFIABLE\n"
status_text unknown = ascii "s UNKNOWN\n"

unfoldable pub answer_text : Answer → List ℕ
answer_text (model before lines last after) =
    comments_text before
    ++ (satisfiable_text
    ++ (lines_text lines
    ++ ((118 ∷ (spaced_text last ++ (32 ∷ 48 ∷ 10 ∷ []))) ++ comments_text after)))
answer_text (no_model before status rest) = comments_text before ++ (status_text status ++ rest)

-- ---- the literals

abbrev pub line_literals : List Line → List Literal
line_literals [] = []
line_literals (comment bs ∷ ls) = line_literals ls
line_literals (values vs ∷ ls) = vs ++ line_literals ls

unfoldable pub literals_of : Answer → List Literal
literals_of (model before lines last after) = line_literals lines ++ last
literals_of (no_model before status rest) = []

-- ---- the form

pub record HasAnswerForm (t : List ℕ) : Type 0 where
  pub answer : Answer
  pub is_proper : So (proper answer)
  pub its_text : t ≡ answer_text answer

-- the text of a proper answer with another status than SATISFIABLE
pub record OfStatus (t : List ℕ) (s : Status) : Type 0 where
  pub before : List Comment
  pub rest : List ℕ
  pub is_proper : So (proper (Answer.no_model before s rest))
  pub its_text : t ≡ answer_text (Answer.no_model before s rest)

abbrev pub AnswerViable : List ℕ → Type 0
AnswerViable t = ViableIn HasAnswerForm t

abbrev pub AnswerMalformed : List ℕ → ℕ → Type 0
AnswerMalformed t s = MalformedIn HasAnswerForm t s
