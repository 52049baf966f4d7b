-- The arrays of a program, and what the table holds while it is made.
--   arrays_of n m o hs ss bs         the arrays of a program, from its fields
--   StoredStarts n m o ss            counts and list starts of the arrays of a program within the limits
--   StartTotals n m o ss t           the totals of every program within the limits that has these counts and list starts are t
--   counted t k                      the tally t with one more rule, which has k positive body atoms
--   tally_of P                       that of all rules of P
--   copied t A                       the table t with the elements in use of the arrays A written into it
--   laid A ks xs ys                  the arrays A, what is said of the pairs, and 0 for the counts and the links
--   with_arrays A                    the arrays A alone
--   with_pairs A                     the arrays A and the pairs of the program that they hold: all but the counts and the links
--   with_counts A                    the counts too: all but the links
-- Assumes nothing.
use Rattle.std.specs.Prelude.{ℕ, suc, ◌+◌, ◌*◌, ◌≡◌, List, [], ◌∷◌, ◌++◌, map, take, replicate}
use Rattle.std.proofs.lemmas.List.Edits.{sets}
use Rattle.lists.specs.Lists.{tab, joined}
use Rattle.meaning.specs.Program.{Program}
use Rattle.encoding.specs.Clauses.{pair_count, empty_bodies}
use Rattle.encoding.specs.Code.{code_of, m, pair_list, before}
use Rattle.program.specs.declared.Program.{Program as Arrays}
use Rattle.program.specs.Arrays.{pad, decoded}
use Rattle.clause_tables.specs.declared.Totals.{Totals}
use Rattle.clause_tables.specs.Tables.{Stored, totals_of, regions_of}
use Rattle.clause_tabling.specs.declared.Tally.{Tally}
use Rattle.clause_tabling.specs.Formula.{when_none}

abbrev pub arrays_of : ℕ → ℕ → ℕ → List ℕ → List ℕ → List ℕ → Arrays
arrays_of n m o hs ss bs = record { atoms = n; rules = m; held = o; heads = hs; starts = ss; bodies = bs }

pub record StoredStarts (n m o : ℕ) (ss : List ℕ) : Type 0 where
  pub heads : List ℕ
  pub bodies : List ℕ
  pub stored : Stored (arrays_of n m o heads ss bodies)

abbrev pub StartTotals : ℕ → ℕ → ℕ → List ℕ → Totals → Type 0
StartTotals n m o ss t = (hs bs : List ℕ) → Stored (arrays_of n m o hs ss bs) → t ≡ totals_of (code_of (decoded (arrays_of n m o hs ss bs)))

-- with one more rule, which has k positive body atoms
abbrev pub counted : Tally → ℕ → Tally
counted t k = record { pairs = t.pairs + k; empty = t.empty + when_none k }

abbrev pub tally_of : Program → Tally
tally_of P = record { pairs = pair_count P; empty = empty_bodies P }

abbrev pub copied : List ℕ → Arrays → List ℕ
copied t A = sets (sets (sets t 16 (take A.rules A.heads)) 516 (take A.held A.bodies)) 2517 (take (2 * A.rules + 1) A.starts)

-- ks how many pairs are before each rule, xs their body atoms, ys their heads
abbrev pub laid : Arrays → List ℕ → List ℕ → List ℕ → List ℕ
laid A ks xs ys = joined (replicate 16 0 ∷ A.heads ∷ A.bodies ∷ ks ∷ xs ∷ ys ∷ A.starts ∷ replicate 126 0 ∷ replicate 500 0 ∷ [])

unfoldable pub with_arrays : Arrays → List ℕ
with_arrays A = laid A (replicate 501 0) (replicate 500 0) (replicate 500 0)

unfoldable pub with_pairs : Arrays → List ℕ
with_pairs A =
    let G = code_of (decoded A) in
    laid A (pad 501 (tab (suc (m G)) (before G))) (pad 500 (map (λ p. p.body) (pair_list G))) (pad 500 (map (λ p. p.head) (pair_list G)))

unfoldable pub with_counts : Arrays → List ℕ
with_counts A = joined (take 7 (regions_of (code_of (decoded A))) ++ (replicate 126 0 ∷ replicate 500 0 ∷ []))
