-- The next rule whose head is an atom, by its index in the heads, and the slots without a literal.
--   next_head hs a i    the first index of hs, from i on, where a stands; if there is none, the length, or i where that is more
--   among hs a          a is one of hs
--   past_others hs a l  how many slots of a's last clause are done once the empty ones after slot l are passed
--   past_empty          the same of any clause, from m and the heads
-- Assumes nothing.
use Rattle.std.specs.Prelude.{ℕ, suc, ◌+◌, ◌-◌, Bool, false, ◌||◌, cond, List, [], ◌∷◌, take, drop, eqb, ltb, fold}

-- how many elements stand before the first a
abbrev pub others : ℕ → List ℕ → ℕ
others a [] = 0
others a (h ∷ hs) = cond (eqb h a) 0 (suc (others a hs))

unfoldable pub next_head : List ℕ → ℕ → ℕ → ℕ
next_head hs a i = i + others a (drop i hs)

abbrev pub among : List ℕ → ℕ → Bool
among hs a = fold (λ found h. found || eqb h a) false hs

-- slots can be empty in the last clause of an atom in groups 2 and 7, where slot l is that of rule l − 1
abbrev pub past_others : List ℕ → ℕ → ℕ → ℕ
past_others hs a l = next_head hs a (l - 1) + 1

abbrev pub past_empty : ℕ → List ℕ → ℕ → ℕ → ℕ → ℕ → ℕ
past_empty m hs g a i l =
    let r = past_others (take m hs) a l in
    cond (eqb g 7) r (cond (eqb g 2) (cond (ltb m i) r l) l)
