-- The lines that the checker prints of a model (document 01, "Programs"; document 02, Q-3).
--   true_atom_list n bs  the atoms from 1 to n that are true under the values bs, ascending
--   numbers_text xs      the numbers xs in decimal, one space between
--   model_line xs ys     "(model (", the numbers xs, ") (", the numbers ys, "))" and byte 10
--   levels_text n bs ls  the levels in ls of the true ones of the atoms 1 to n
--   model_text n bs ls   the line with the true atoms and their levels in ls, in step
--   assumed_text c       "(assumed ", c, ")" and byte 10, and nothing where c is 0
--   shown_model n c bs ls  the line of c, then that of the model
--   chosen p f n         f of each number from 1 to n that passes p
--   NumbersBy n f P      P gives of no k from 1 to n another number than f k
--   NumbersFit n p P b   the buffer b has room for the text of the numbers that P gives of those that pass p
--   listed_text k x      what the number x adds to the text of a list of which k bytes stand before it
--   shown_text b k x     the same where b says that x is of the list, nothing otherwise
-- Assumes nothing.
use Rattle.std.specs.Prelude.{ℕ, zero, suc, ◌≤◌, ◌<◌, ◌≡◌, Bool, cond, List, [], ◌∷◌, ◌++◌, map, eqb}
use Rattle.lists.specs.Lists.{each, select}
use Rattle.lists.specs.Ascii.{ascii}
use Rattle.text.specs.Decimal.{decimal}
use Rattle.truth_literals.specs.Values.{value_in}
use Rattle.level_lists.specs.Bytes.{level_byte}
use Rattle.digits.specs.Bytes.{Room}

abbrev pub true_atom_list : ℕ → List ℕ → List ℕ
true_atom_list n bs = select n (value_in bs)

-- each number after one space
abbrev pub spaced_numbers : List ℕ → List ℕ
spaced_numbers [] = []
spaced_numbers (x ∷ xs) = (32 ∷ decimal x) ++ spaced_numbers xs

abbrev pub numbers_text : List ℕ → List ℕ
numbers_text [] = []
numbers_text (x ∷ xs) = decimal x ++ spaced_numbers xs

abbrev pub model_line : List ℕ → List ℕ → List ℕ
model_line xs ys = (ascii "(model (" ++ numbers_text xs) ++ ((ascii ") (" ++ numbers_text ys) ++ ascii "))\n")

-- the levels of the true atoms
abbrev pub levels_text : ℕ → List ℕ → List ℕ → List ℕ
levels_text n bs ls = numbers_text (map (level_byte ls) (true_atom_list n bs))

unfoldable pub model_text : ℕ → List ℕ → List ℕ → List ℕ
model_text n bs ls = model_line (true_atom_list n bs) (map (level_byte ls) (true_atom_list n bs))

unfoldable pub assumed_text : ℕ → List ℕ
assumed_text c = cond (eqb c 0) [] (ascii "(assumed " ++ (decimal c ++ ascii ")\n"))

abbrev pub shown_model : ℕ → ℕ → List ℕ → List ℕ → List ℕ
shown_model n c bs ls = assumed_text c ++ model_text n bs ls

-- ---- as code writes it

abbrev pub chosen : (ℕ → Bool) → (ℕ → ℕ) → ℕ → List ℕ
chosen p f n = each n (λ a. cond (p a) (f a ∷ []) [])

abbrev pub NumbersBy : ℕ → (ℕ → ℕ) → (ℕ → ℕ → Type 0) → Type 0
NumbersBy n f P = (k x : ℕ) → 0 < k → k ≤ n → P k x → x ≡ f k

pub record NumbersFit (n : ℕ) (p : ℕ → Bool) (P : ℕ → ℕ → Type 0) (b : List ℕ) : Type 0 where
  pub number : ℕ → ℕ
  pub by : NumbersBy n number P
  pub room : Room (numbers_text (chosen p number n)) b

abbrev pub listed_text : ℕ → ℕ → List ℕ
listed_text zero x = decimal x
listed_text (suc k) x = 32 ∷ decimal x

abbrev pub shown_text : Bool → ℕ → ℕ → List ℕ
shown_text b k x = cond b (listed_text k x) []
