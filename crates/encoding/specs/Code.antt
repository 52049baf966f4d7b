-- The encoding with open atoms and with pairs inside components alone, in one record that the theorem is proved over and that the code
-- between the reader and the calls is proved against. Document 01's encoding has no open atom and every pair inside: `code_of P`, and there
-- each definition below is document 01's (theory/proofs/Whole).
--   Code            atoms 1 to n, counters of w bits, rules, open atoms, and which body atoms are inside for a head
--   whole P w       the rules of P with counters of w bits, no open atom and every pair inside
--   code_of P        document 01's code of P: that with document 01's width
--   program_of G     the atoms and rules of G
--   inner G r       the positive body atoms of rule r that are inside; the others only have to be true
--   reduct_of G M   the rules of the reduct with their inner bodies, where the outer ones are in M, and a fact for each open atom in M
--   level_of G M a  the first stage of these rules that holds a
--   full G          G with every body atom inside
--   StableIn G M    M equals the union of the stages of its full reduct
--   clauses_of, variables_of, code_fill  the clause list, V and the filled-out list
-- Assumes nothing.
use Rattle.std.specs.Prelude.{ℕ, pred, ◌+◌, Bool, true, false, ◌&&◌, ◌||◌, cond, List, [], ◌∷◌, ◌++◌, length}
use Rattle.std.proofs.Math.Bool.{So}
use Rattle.lists.specs.Lists.{all, keep, tab, each, joined, sum}
use Rattle.meaning.specs.Program.{Rule, Program, Atoms, rule_at, none_in}
use Rattle.meaning.specs.Stage.{Definite, InUnion, level_in}
use Rattle.encoding.specs.Width.{width}
use Rattle.encoding.specs.Literal.{Clause}
use Rattle.encoding.specs.Variables.{Sizes, var_count}
use Rattle.encoding.specs.Clauses.{body_clauses, implied_clauses, supported_clause, zero_clauses, next_clauses, pair_clauses, founds_clauses, one_clauses, lowest_clauses, founded_clause, Pair, pair_at, pairs_with, rules_of}
use Rattle.encoding.specs.Fill.{fill_with}

pub record Code : Type 0 where
  pub n : ℕ
  pub w : ℕ
  pub rules : List Rule
  pub opened : ℕ → Bool
  pub inside : ℕ → ℕ → Bool

abbrev pub whole : Program → ℕ → Code
whole P w = record { n = P.atoms; w = w; rules = P.rules; opened = λ a. false; inside = λ b h. true }

abbrev pub code_of : Program → Code
code_of P = whole P (width P.atoms)

abbrev pub program_of : Code → Program
program_of G = record { atoms = G.n; rules = G.rules }

abbrev pub full : Code → Code
full G = record { n = G.n; w = G.w; rules = G.rules; opened = G.opened; inside = λ b h. true }

module _ (G : Code) where
  abbrev pub m : ℕ
  m = length G.rules

  abbrev pub code_sizes : Sizes
  code_sizes = record { n = G.n; m = length G.rules; w = G.w }

  abbrev pub rl : ℕ → Rule
  rl r = rule_at G.rules r

  unfoldable pub inner : ℕ → List ℕ
  inner r = keep (λ b. G.inside b (rl r).head) (rl r).positive

  -- ---- meaning

  -- no C atom is in M, and each body atom that is not inside is
  abbrev pub keeps : Atoms → ℕ → Bool
  keeps M r = none_in M (rl r).negative && all (λ b. G.inside b (rl r).head || M b) (rl r).positive

  abbrev pub rule_kept : Atoms → ℕ → List Definite
  rule_kept M r = cond (keeps M r) (record { head = (rl r).head; body = inner r } ∷ []) []

  abbrev pub open_kept : Atoms → ℕ → List Definite
  open_kept M a = cond (G.opened a && M a) (record { head = a; body = [] } ∷ []) []

  unfoldable pub reduct_of : Atoms → List Definite
  reduct_of M = each m (rule_kept M) ++ each G.n (open_kept M)

  abbrev pub level_of : Atoms → ℕ → ℕ
  level_of M a = level_in G.n (reduct_of M) a

  -- ---- clauses

  unfoldable pub pair_list : List Pair
  pair_list = each m (λ r. pairs_with (rl r).head (inner r))

  abbrev pub pair_total : ℕ
  pair_total = length pair_list

  abbrev pub pair_body : ℕ → ℕ
  pair_body k = (pair_at pair_list k).body

  abbrev pub pair_head : ℕ → ℕ
  pair_head k = (pair_at pair_list k).head

  unfoldable pub before : ℕ → ℕ
  before r = sum (pred r) (λ q. length (inner q))

  abbrev pub pair_numbers : ℕ → List ℕ
  pair_numbers r = tab (length (inner r)) (λ j. before r + j)

  abbrev pub its : ℕ → List ℕ
  its a = rules_of G.rules a

  abbrev pub part1 : List Clause
  part1 = each m (λ r. body_clauses code_sizes r (rl r))

  abbrev pub part2 : List Clause
  part2 = each G.n (λ a. implied_clauses code_sizes a (its a) ++ cond (G.opened a) [] (supported_clause code_sizes a (its a) ∷ []))

  abbrev pub part3 : List Clause
  part3 = each G.n (zero_clauses code_sizes)

  abbrev pub part4 : List Clause
  part4 = each G.n (next_clauses code_sizes)

  abbrev pub part5 : List Clause
  part5 = each pair_total (λ k. pair_clauses code_sizes k (pair_body k) (pair_head k))

  abbrev pub part6 : List Clause
  part6 = each m (λ r. founds_clauses code_sizes r (pair_numbers r) ++ lowest_clauses code_sizes r (rl r).head (pair_numbers r))

  abbrev pub part7 : List Clause
  part7 = each G.n (λ a. cond (G.opened a) (one_clauses code_sizes a a) (founded_clause code_sizes a (its a) ∷ []))

  unfoldable pub clauses_of : List Clause
  clauses_of = joined (part1 ∷ part2 ∷ part3 ∷ part4 ∷ part5 ∷ part6 ∷ part7 ∷ [])

  abbrev pub clause_total_of : ℕ
  clause_total_of = length clauses_of

  abbrev pub variables_of : ℕ
  variables_of = var_count code_sizes pair_total

  abbrev pub code_fill : Atoms → List Bool
  code_fill M = fill_with code_sizes rl inner pair_list M (level_of M)

pub record StableIn (G : Code) (M : Atoms) : Type 0 where
  pub founded : (a : ℕ) → So (M a) → InUnion (reduct_of (full G) M) a
  pub closed : (a : ℕ) → InUnion (reduct_of (full G) M) a → So (M a)
