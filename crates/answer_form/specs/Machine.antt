-- An automaton over bytes, with numbers for states: one of them is dead, and no byte leads out of it.
--   accepted_by step final q t  from state q the bytes t end in a final state
--   read_by step dead q t       how many bytes of t are read from state q before the dead state; all of them where t stops short
-- Assumes nothing.
use Rattle.std.specs.Prelude.{ℕ, suc, Bool, cond, List, [], ◌∷◌, eqb}

unfoldable pub accepted_by : (ℕ → ℕ → ℕ) → (ℕ → Bool) → ℕ → List ℕ → Bool
accepted_by step final q [] = final q
accepted_by step final q (b ∷ t) = accepted_by step final (step q b) t

unfoldable pub read_by : (ℕ → ℕ → ℕ) → ℕ → ℕ → List ℕ → ℕ
read_by step dead q [] = 0
read_by step dead q (b ∷ t) = cond (eqb (step q b) dead) 0 (suc (read_by step dead (step q b) t))
