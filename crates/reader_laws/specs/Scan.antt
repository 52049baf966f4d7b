-- The automaton alone, without what it reads.
--   text_accepts k m t  from place k in mode m the bytes t end where a text may end
--   text_leaves k m t   how many bytes of t are read before no ending gives the form; all of them where t stops short
--   live k m            a place and mode from which some ending is accepted
--   text_end k m        such an ending
-- Assumes nothing.
use Rattle.std.specs.Prelude.{ℕ, zero, suc, ◌+◌, Bool, true, false, ◌&&◌, ◌||◌, cond, List, [], ◌∷◌, ltb, eqb}
use Rattle.reader_form.specs.Automaton.{form_at, form_step}

unfoldable pub text_accepts : ℕ → ℕ → List ℕ → Bool
text_accepts k m [] = eqb k 10 && eqb m 0
text_accepts k m (b ∷ t) = cond (eqb (form_step k m b).mode 4) false (text_accepts (form_step k m b).k (form_step k m b).mode t)

unfoldable pub text_leaves : ℕ → ℕ → List ℕ → ℕ
text_leaves k m [] = 0
text_leaves k m (b ∷ t) = cond (eqb (form_step k m b).mode 4) 0 (suc (text_leaves (form_step k m b).k (form_step k m b).mode t))

-- a byte of the form that stands for numbers
abbrev pub takes_numbers : ℕ → Bool
takes_numbers c = eqb c 35 || eqb c 42

unfoldable pub live : ℕ → ℕ → Bool
live k m = ltb k 27 && cond (eqb m 0) true (ltb m 4 && takes_numbers (form_at k))

-- byte c of the form and what follows it, with 0 for a number and nothing for a list
abbrev pub shown : ℕ → List ℕ → List ℕ
shown c t = cond (eqb c 35) (48 ∷ t) (cond (eqb c 42) t (c ∷ t))

-- the line from place k on, so shown
abbrev pub line_from : ℕ → ℕ → List ℕ
line_from zero k = []
line_from (suc f) k = elim (eqb (form_at k) 10) [ true ↦ 10 ∷ [] | false ↦ shown (form_at k) (line_from f (k + 1)) ]

unfoldable pub text_end : ℕ → ℕ → List ℕ
text_end k m = cond (eqb m 0) (line_from 27 k) (cond (eqb m 3) (48 ∷ line_from 27 (k + 1)) (line_from 27 (k + 1)))
