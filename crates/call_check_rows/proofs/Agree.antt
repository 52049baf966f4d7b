-- What is computed of the values of the variables 1 to V depends on these alone.
--   value_front                   the values in the first n bytes of a buffer
--   unset_front, false_front, true_front, counters_front   so the number of variables without a value, the first false clause, the number of true atoms and
--                                 the counters are those of the first V bytes
-- Assumes nothing.
use Prim.Native.Nat.{ℕ, zero, suc, ◌-◌, ◌≤◌, ◌<◌}
use native.Mathlib.Nat.{mul-le-mul_right}
use native.Mathlib.Omega.{arith}
use mathlib.Core.Path.{◌≡◌, refl, ap, ap₂}
use mathlib.Core.Bool.{Bool, not, ◌||◌, So, cond}
use mathlib.Core.List.{List, [], ◌∷◌}
use lib.Dec.{eqb}
use lib.ListN.{length, get_or, take}
use lib.Seq.{get_or-take}
use Rattle.lists.specs.Lists.{all}
use Rattle.lists.proofs.Bools.{and_left, and_right}
use Rattle.lists.proofs.Tests.{all_at}
use Rattle.lists.proofs.Tables.{tab_ext, sum_ext}
use Rattle.lists.proofs.First.{first_ext}
use Rattle.meaning.specs.Program.{is_atom}
use Rattle.encoding.specs.Literal.{Literal, var, −◌, variable, Clause, literal_true, clause_true}
use Rattle.encoding.specs.Variables.{Sizes, level_var}
use Rattle.encoding.specs.Code.{Code, code_sizes, clauses_of, variables_of}
use Rattle.theory.proofs.Atoms.{atom_pos, atom_le}
use Rattle.theory.proofs.Bits.{value_ext}
use Rattle.theory.proofs.Occurs.{clauses_fit}
use Rattle.clause_tables.specs.Tables.{Limited}
use Rattle.clause_table_laws.proofs.Elements.{ranges}
use Rattle.answer_bytes.specs.Bytes.{unset_count}
use Rattle.truth_clauses.specs.Truth.{value_in, code_false, code_first_false}
use Rattle.call_results.specs.Results.{true_count, counters}
use Rattle.call_results.proofs.ValueBytes.{atoms_within}

-- ---- values that agree on the variables of a clause

module _ (A B : ℕ → Bool) (n : ℕ) (e : (v : ℕ) → 0 < v → v ≤ n → A v ≡ B v) where
  literal_same : (l : Literal) → So (is_atom n (variable l)) → literal_true A l ≡ literal_true B l
  literal_same (var v) h = e v (atom_pos n v h) (atom_le n v h)
  literal_same (− v) h = ap not (e v (atom_pos n v h) (atom_le n v h))

  clause_same : (c : Clause) → So (all (λ l. is_atom n (variable l)) c) → clause_true A c ≡ clause_true B c
  clause_same [] h = refl
  clause_same (l ∷ c) h =
      ap₂ (λ (x y : Bool). x || y)
      (literal_same l (and_left (is_atom n (variable l)) (all (λ l. is_atom n (variable l)) c) h))
      (clause_same c (and_right (is_atom n (variable l)) (all (λ l. is_atom n (variable l)) c) h))

-- ---- the first n bytes of a buffer

pub value_front : (b : List ℕ) (n v : ℕ) → 0 < v → v ≤ n → value_in (take n b) v ≡ value_in b v
value_front b n zero p h = absurd (omega (arith, p))
value_front b n (suc v) p h = ap (λ (x : ℕ). not (eqb x 0)) (get_or-take n b v 0 h)

pub unset_front : (b : List ℕ) (n : ℕ) → unset_count n (take n b) ≡ unset_count n b
unfolding unset_count
unset_front b n = sum_ext n _ _ (λ i h. ap (λ (x : ℕ). cond (eqb x 2) 1 0) (get_or-take n b (suc i - 1) 0 (omega (arith, h))))

module _ (G : Code) (L : Limited G) (b : List ℕ) where
  abbrev V' : ℕ
  V' = variables_of G

  abbrev S : Sizes
  S = code_sizes G

  abbrev cs : List Clause
  cs = clauses_of G

  pub false_front : code_first_false G (take V' b) ≡ code_first_false G b
  unfolding code_first_false
  false_front =
      first_ext (length cs) (code_false G (take V' b)) (code_false G b)
      (λ j h. ap not
      (clause_same (value_in (take V' b)) (value_in b) V' (value_front b V') (get_or cs j [])
      (all_at (λ c. all (λ l. is_atom V' (variable l)) c) cs [] (clauses_fit G (ranges G L) L.some_bit) j h)))

  pub true_front : true_count G.n (take V' b) ≡ true_count G.n b
  unfolding true_count
  true_front = sum_ext G.n _ _ (λ i h. ap (λ x. cond x 1 0) (value_front b V' (suc i) (omega arith) (omega (arith, h, atoms_within G))))

  level_within : (a i : ℕ) → a < G.n → i < S.w → level_var S (suc a) (suc i) ≤ V'
  level_within a i h g = omega (arith, mul-le-mul_right S.w h, g)

  pub counters_front : counters S (take V' b) ≡ counters S b
  counters_front =
      tab_ext G.n _ _
      (λ a h. value_ext (λ i. value_in (take V' b) (level_var S (suc a) i)) (λ i. value_in b (level_var S (suc a) i)) S.w (λ i g. value_front b V' (level_var S (suc a) (suc i)) (omega arith) (level_within a i h g)))
