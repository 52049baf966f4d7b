-- One byte of a program text, from a place in the form (document 01, "Program text"). The two kinds of line stand one after the other
-- in one byte string, with # for a number and * for a list of numbers; place 10 begins a rule line and is where a text may end.
--   form_bytes      "(atoms #)", byte 10, "(rule # (*) (*))", byte 10
--   form_step k mode b  the place after byte b
-- Assumes nothing.
use Rattle.std.specs.Prelude.{ℕ, ◌+◌, Bool, false, cond, List, [], ◌∷◌, ltb, eqb, get_or}

-- a place in the form, the mode there, and what the last byte does, by their numbers
pub record Step : Type 0 where
  pub k : ℕ
  pub mode : ℕ
  pub act : ℕ

abbrev pub form_bytes : List ℕ
form_bytes =
    40 ∷ 97 ∷ 116 ∷ 111 ∷ 109 ∷ 115 ∷ 32 ∷ 35 ∷ 41 ∷ 10
    ∷ 40 ∷ 114 ∷ 117 ∷ 108 ∷ 101 ∷ 32 ∷ 35 ∷ 32 ∷ 40 ∷ 42 ∷ 41 ∷ 32 ∷ 40 ∷ 42 ∷ 41 ∷ 41 ∷ 10 ∷ []

-- the places of the number of atoms, a rule line, its head, its positive list, the space after that, its negative list and its line end
abbrev pub form_atoms : ℕ
form_atoms = 7

abbrev pub form_rule : ℕ
form_rule = 10

abbrev pub form_head : ℕ
form_head = 16

abbrev pub form_positive : ℕ
form_positive = 19

abbrev pub form_between : ℕ
form_between = 21

abbrev pub form_negative : ℕ
form_negative = 23

abbrev pub form_line_end : ℕ
form_line_end = 26

abbrev pub form_length : ℕ
form_length = 27

unfoldable pub form_at : ℕ → ℕ
form_at k = get_or form_bytes k 0

unfoldable pub digit_test : ℕ → Bool
digit_test b = cond (ltb b 48) false (ltb b 58)

abbrev pub placed : ℕ → ℕ → ℕ → Step
placed k mode act = record { k = k; mode = mode; act = act }

unfoldable pub literal_of : ℕ → ℕ → ℕ → Step
literal_of k b act =
    cond (eqb b (form_at k))
    (cond (eqb (form_at k) 10) (placed form_rule 0 act) (cond (ltb k form_length) (placed (k + 1) 0 act) (placed k 4 0)))
    (placed k 4 0)

unfoldable pub leave_of : ℕ → ℕ → ℕ → ℕ → Step
leave_of k c mode b =
    cond (eqb mode 0) (cond (eqb c 42) (literal_of (k + 1) b 0) (placed k 4 0))
    (cond (eqb mode 3) (placed k 4 0)
    (cond (eqb c 42) (cond (eqb b 32) (placed k 3 3) (literal_of (k + 1) b 3)) (literal_of (k + 1) b 3)))

unfoldable pub digit_of : ℕ → ℕ → ℕ → Step
digit_of k mode b =
    cond (eqb mode 1) (placed k 4 0) (cond (eqb mode 2) (placed k 2 2) (cond (eqb b 48) (placed k 1 1) (placed k 2 1)))

unfoldable pub act_at : ℕ → ℕ
act_at k = cond (eqb k form_rule) 4 (cond (eqb k form_between) 5 (cond (eqb k form_line_end) 6 0))

unfoldable pub item_of : ℕ → ℕ → ℕ → ℕ → Step
item_of k c mode b = cond (digit_test b) (digit_of k mode b) (leave_of k c mode b)

unfoldable pub form_step : ℕ → ℕ → ℕ → Step
form_step k mode b =
    cond (eqb (form_at k) 35) (item_of k (form_at k) mode b) (cond (eqb (form_at k) 42) (item_of k (form_at k) mode b) (literal_of k b (act_at k)))
