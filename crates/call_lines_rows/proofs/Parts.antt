-- The parts that runs of lines make of a clause file, joined, are the clause file.
-- Assumes nothing.
use Prim.Native.Nat.{ℕ, zero, suc, ◌+◌, ◌≤◌, ◌<◌}
use native.Mathlib.Omega.{arith}
use mathlib.Core.Path.{◌≡◌, refl, sym, ◌∙◌, ap, subst}
use mathlib.Core.List.{List, [], ◌∷◌, ◌++◌}
use lib.ListN.{length, get_or, take, drop, length-map, length-drop, take-append-drop}
use lib.Seq.{get_or-drop, drop-cons}
use borrow.Author.Tests.{le-leb}
use Rattle.lists.specs.Lists.{joined}
use Rattle.meaning.specs.Program.{Program}
use Rattle.text.specs.Limits.{Limits}
use Rattle.encoding.specs.Code.{code_of, clauses_of}
use Rattle.digits.specs.Bytes.{line_text}
use Rattle.clause_runs.specs.Lines.{code_lines, clause_total, lines_of, line_of, fitting}
use Rattle.clause_runs.proofs.Runs.{joined_append}
use Rattle.call_lines_rows.specs.Parts.{parts_of}
use Rattle.call_lines_rows.proofs.File.{short_lines}

-- ---- any lines that fit n bytes

abbrev Short : ℕ → List (List ℕ) → Type 0
Short n ls = (i : ℕ) → i < length ls → length (get_or ls i []) ≤ n

short_rest : (n m : ℕ) (ls : List (List ℕ)) → Short n ls → Short n (drop m ls)
short_rest n m ls s i h = subst (λ (x : List ℕ). length x ≤ n) (sym (get_or-drop m ls i [])) (s (m + i) (omega (arith, h, length-drop m ls)))

-- where the first line fits, at least one is taken
pub some_fit : (n : ℕ) (l : List ℕ) (ls : List (List ℕ)) → length l ≤ n → zero < fitting n (l ∷ ls)
some_fit n l ls h = rw (le-leb (length l) n h) (omega arith)

-- the first m lines and the rest
next_part : (ls : List (List ℕ)) (m : ℕ) {x : List ℕ} → x ≡ joined (drop m ls) → joined (take m ls) ++ x ≡ joined ls
next_part ls m e =
    ap (λ (x : List ℕ). joined (take m ls) ++ x) e ∙ sym (joined_append (take m ls) (drop m ls)) ∙ ap joined (take-append-drop m ls)

pub joined_parts : (k n : ℕ) (ls : List (List ℕ)) → Short n ls → length ls ≤ k → joined (parts_of n k ls) ≡ joined ls
joined_parts zero n [] s h = refl
joined_parts zero n (l ∷ ls) s h = absurd (omega (arith, h))
joined_parts (suc k) n [] s h = joined_parts k n [] s (omega arith)
joined_parts (suc k) n (l ∷ ls) s h =
    next_part (l ∷ ls) (fitting n (l ∷ ls)) (joined_parts k n (drop (fitting n (l ∷ ls)) (l ∷ ls)) (short_rest n (fitting n (l ∷ ls)) (l ∷ ls) s) rest)
  where
    rest : length (drop (fitting n (l ∷ ls)) (l ∷ ls)) ≤ k
    rest = omega (arith, length-drop (fitting n (l ∷ ls)) (l ∷ ls), some_fit n l ls (s 0 (omega arith)), h)

-- ---- the clause file

module _ (P : Program) (L : Limits P) where
  pub lines_many : length (lines_of P) ≡ suc (clause_total P)
  unfolding code_lines
  lines_many = ap suc (length-map (clauses_of (code_of P)) line_text)

  module _ (n : ℕ) (room : 3008 ≤ n) where
    pub file_parts : joined (parts_of n (suc (clause_total P)) (lines_of P)) ≡ joined (lines_of P)
    file_parts = joined_parts (suc (clause_total P)) n (lines_of P) short (omega (arith, lines_many))
      where
        short : Short n (lines_of P)
        short i h = omega (arith, short_lines P L i (omega (arith, h, lines_many)), room)

    pub some_line : (j : ℕ) → j ≤ clause_total P → zero < fitting n (drop j (lines_of P))
    some_line j h =
        subst (λ (ls : List (List ℕ)). zero < fitting n ls) (sym (drop-cons (lines_of P) j [] (omega (arith, h, lines_many))))
        (some_fit n (line_of P j) (drop (suc j) (lines_of P)) (omega (arith, short_lines P L j h, room)))
