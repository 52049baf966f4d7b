-- The starred examples of document 01 ("Examples"), with every V, C, level, set and spot that it gives, as one table and one fact.
--   Example       a program with what document 01 says of it
--   computed e    the same row, computed from the program by the definitions
-- Assumes nothing.
use Prim.Native.Nat.{ℕ, zero, suc}
use mathlib.Core.Path.{◌≡◌, refl}
use mathlib.Core.List.{List, [], ◌∷◌, ◌++◌, map}
use lib.Dec.{eqb}
use lib.ListN.{length, take}
use Rattle.lists.specs.Lists.{keep, tab}
use Rattle.meaning.specs.Program.{Program}
use Rattle.meaning.specs.Stage.{level, level_in, differ, stage, reduct}
use Rattle.meaning.specs.Samples.{set_of, nothing, fact, ring, lecture, self_negating, choice, loop, blocked}
use Rattle.encoding.specs.Width.{width, bits_for}
use Rattle.encoding.specs.Clauses.{clauses, variables, pairs, pairs_before, rules_of}
use Rattle.encoding.specs.Counter.{successor, chain}

pub record Example : Type 0 where
  pub program : Program
  -- V and C, where the document gives them
  pub counts : List ℕ
  -- all stable sets, and the levels of the atoms 1 to n in each
  pub models : List (List ℕ)
  pub levels : List (List ℕ)
  -- sets that are refused with 18, and the spots
  pub refused : List (List ℕ)
  pub spots : List ℕ

-- the sets of atoms from 1 to n, ascending as binary numbers with atom 1 lowest
abbrev pub subsets : ℕ → List (List ℕ)
subsets zero = [] ∷ []
subsets (suc n) = subsets n ++ map (λ xs. xs ++ (suc n ∷ [])) (subsets n)

unfoldable pub computed : Example → Example
computed e =
    let P = e.program in
    let n = P.atoms in
    record {
      program = P;
      counts = take (length e.counts) (variables P (width n) ∷ length (clauses P (width n)) ∷ []);
      models = keep (λ xs. eqb (differ P (set_of xs)) 0) (subsets n);
      levels = map (λ xs. tab n (level P (set_of xs))) e.models;
      refused = e.refused;
      spots = map (λ xs. differ P (set_of xs)) e.refused;
    }

abbrev pub examples : List Example
examples =
    record { program = nothing; counts = 0 ∷ 0 ∷ []; models = [] ∷ []; levels = [] ∷ []; refused = []; spots = [] }
    ∷ record { program = fact; counts = 7 ∷ 16 ∷ []; models = (1 ∷ []) ∷ []; levels = (1 ∷ []) ∷ []; refused = []; spots = [] }
    ∷ record { program = ring; counts = 22 ∷ 70 ∷ []; models = [] ∷ []; levels = (0 ∷ 0 ∷ []) ∷ []; refused = (1 ∷ 2 ∷ []) ∷ []; spots = 1 ∷ [] }
    ∷ record {
      program = lecture;
      counts = 74 ∷ 287 ∷ [];
      models = (1 ∷ 2 ∷ 3 ∷ []) ∷ [];
      levels = (1 ∷ 2 ∷ 3 ∷ 0 ∷ []) ∷ [];
      refused = [];
      spots = [];
    }
    ∷ record { program = self_negating; counts = []; models = []; levels = []; refused = [] ∷ (1 ∷ []) ∷ []; spots = 1 ∷ 1 ∷ [] }
    ∷ record { program = choice; counts = []; models = (1 ∷ []) ∷ (2 ∷ []) ∷ []; levels = (1 ∷ 0 ∷ []) ∷ (0 ∷ 1 ∷ []) ∷ []; refused = []; spots = [] }
    ∷ record { program = loop; counts = 13 ∷ 41 ∷ []; models = (1 ∷ []) ∷ []; levels = (1 ∷ []) ∷ []; refused = []; spots = [] }
    ∷ record { program = blocked; counts = []; models = (2 ∷ []) ∷ []; levels = (0 ∷ 1 ∷ []) ∷ []; refused = []; spots = [] }
    ∷ []

pub examples_hold : map computed examples ≡ examples
unfolding computed differ level_in stage reduct variables clauses bits_for pairs pairs_before rules_of successor chain
examples_hold = refl
