-- What the code answers, from the definitions of the crate answer_form.
--   capped l          l as a signed number, of no larger magnitude
--   Formed            the answer about a form
--   malformed s       the form of a text that leaves the form at s
--   found_for, next_for, close_for  the answers about the status, the next literal and the end
--   space_then t x    the next literal of t, by the next space
--   closed_form e c   the form of an answer whose literals begin at e, by what follows literal 0
--   model_from e p t  the same, by what stands in t from position p on
--   form_for t x      the form of the whole text t, whose status is x
--   form_of t          the answer about the form of the whole text t
-- Assumes nothing.
use Rattle.std.specs.Prelude.{ℕ, ◌+◌, min, cond, List, ℤ, drop, ⊤, Result, Ok, Err}
use Rattle.encoding.specs.Literal.{Literal, literal_number}
use Literal.{var, −◌}
use Rattle.answer_form.specs.Automaton.{answer_accepts, answer_leaves}
use Rattle.answer_form.specs.Pieces.{Found, Next, Close, status_of, literal_from}
use Rattle.answer_words.specs.Words.{most_number}
use Rattle.answer_reader.specs.declared.AnswerFault.{AnswerFault}
use Rattle.answer_reader.specs.declared.AnswerFault.TheVariants.{NoModel, Malformed}
use Rattle.answer_reader.specs.declared.Token.{Token}
use Rattle.answer_reader.specs.declared.Token.TheVariants as token

-- the index of the byte 10 that ends the status line of a model; or why none is offered
abbrev pub Formed : Type 0
Formed = Result ℕ AnswerFault

abbrev pub malformed : ℕ → Formed
malformed s = Err (Malformed s)

abbrev pub capped : Literal → ℤ
capped (var v) = literal_number (var (min most_number v))
capped (− v) = literal_number (− (min most_number v))

abbrev pub found_for : Found → Formed
found_for (Found.satisfiable e) = Ok e
found_for (Found.other s) = Err NoModel
found_for (Found.left s) = malformed s

abbrev pub next_for : Next → Result Token ℕ
next_for (Next.literal l first behind) = Ok (token.Literal (capped l) first behind)
next_for (Next.last behind) = Ok (token.Last behind)
next_for (Next.left s) = Err s

abbrev pub space_then : List ℕ → Result ℕ ℕ → Next
space_then t (Ok i) = literal_from i (drop i t)
space_then t (Err s) = Next.left s

abbrev pub close_for : Close → Result ⊤ ℕ
close_for Close.fine = Ok tt
close_for (Close.left s) = Err s

abbrev pub closed_form : ℕ → Result ⊤ ℕ → Formed
closed_form e (Ok c) = Ok e
closed_form e (Err s) = malformed s

unfoldable pub model_from : ℕ → ℕ → List ℕ → Formed
model_from e p t = cond (answer_accepts 35 (drop p t)) (Ok e) (malformed (p + answer_leaves 35 (drop p t)))

abbrev pub form_for : List ℕ → Found → Formed
form_for t (Found.satisfiable e) = cond (answer_accepts 0 t) (Ok e) (malformed (answer_leaves 0 t))
form_for t (Found.other s) = Err NoModel
form_for t (Found.left s) = malformed s

unfoldable pub form_of : List ℕ → Formed
form_of t = form_for t (status_of t)
