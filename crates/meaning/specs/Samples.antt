-- The starred programs of document 01 ("Examples"), in its order, and sets as lists of atoms.
-- Assumes nothing.
use Rattle.std.specs.Prelude.{ℕ, List, [], ◌∷◌, eqb}
use Rattle.lists.specs.Lists.{any}
use Rattle.meaning.specs.Program.{Rule, Program, Atoms}

-- the set that holds the listed atoms
abbrev pub set_of : List ℕ → Atoms
set_of xs a = any (eqb a) xs

abbrev pub rule : ℕ → List ℕ → List ℕ → Rule
rule h bs cs = record { head = h; positive = bs; negative = cs }

abbrev pub program : ℕ → List Rule → Program
program n rs = record { atoms = n; rules = rs }

-- (atoms 0)
abbrev pub nothing : Program
nothing = program 0 []

-- 1
abbrev pub fact : Program
fact = program 1 (rule 1 [] [] ∷ [])

-- 1 from 2, 2 from 1
abbrev pub ring : Program
ring = program 2 (rule 1 (2 ∷ []) [] ∷ rule 2 (1 ∷ []) [] ∷ [])

-- 1; 1 from 3; 2 from 1; 3 from 1, 2; 4 from 3, 4 (document 001's example)
abbrev pub lecture : Program
lecture =
    program 4
    (rule 1 [] [] ∷ rule 1 (3 ∷ []) [] ∷ rule 2 (1 ∷ []) [] ∷ rule 3 (1 ∷ 2 ∷ []) [] ∷ rule 4 (3 ∷ 4 ∷ []) [] ∷ [])

-- 1 from not 1
abbrev pub self_negating : Program
self_negating = program 1 (rule 1 [] (1 ∷ []) ∷ [])

-- 1 from not 2, 2 from not 1
abbrev pub choice : Program
choice = program 2 (rule 1 [] (2 ∷ []) ∷ rule 2 [] (1 ∷ []) ∷ [])

-- 1; 1 from 1
abbrev pub loop : Program
loop = program 1 (rule 1 [] [] ∷ rule 1 (1 ∷ []) [] ∷ [])

-- 2; 1 from 2 and not 2
abbrev pub blocked : Program
blocked = program 2 (rule 2 [] [] ∷ rule 1 (2 ∷ []) (2 ∷ []) ∷ [])
