-- Reduct, stages, stable models and level numbers (document 01, "Meaning"; document 001 decides the terms).
--   Definite         a rule of a reduct: H with B
--   reduct P M       H with B from each rule of P with no C atom in M
--   stage D i a      atom a is in stage i of the definite rules D
--   InUnion D a      some stage of D holds a
--   Stable P M       M equals the union of the stages of its reduct
--   FirstStage D a i i is the first stage of D that holds a
--   least_model P M  the union of the stages, computed in n stages
--   level_in n D a   the first of the stages 1 to n of D that holds a, 0 if none does
--   level P M a      the level number of a: the first stage of the reduct that holds it, 0 if none does
--   differ P M       the smallest atom where M and the least model differ, 0 if there is none (the spot of verdict 18)
-- Assumes nothing.
use Rattle.std.specs.Prelude.{ℕ, zero, suc, ◌<◌, ◌≡◌, false, not, ◌&&◌, List, map, eqb}
use Rattle.std.proofs.Math.Bool.{So}
use Rattle.std.specs.Bool.{beq}
use Rattle.lists.specs.Lists.{all, any, keep, first}
use Rattle.meaning.specs.Program.{Rule, Program, Atoms, none_in}

pub record Definite : Type 0 where
  pub head : ℕ
  pub body : List ℕ

abbrev pub definite : Rule → Definite
definite r = record { head = r.head; body = r.positive }

unfoldable pub reduct : Program → Atoms → List Definite
reduct P M = map definite (keep (λ r. none_in M r.negative) P.rules)

-- stage 0 is empty; stage i + 1 holds each H whose kept B lies in stage i
unfoldable pub stage : List Definite → ℕ → Atoms
stage D zero a = false
stage D (suc i) a = any (λ d. eqb d.head a && all (stage D i) d.body) D

abbrev pub InUnion : List Definite → ℕ → Type 0
InUnion D a = (i : ℕ) × So (stage D i a)

pub record Stable (P : Program) (M : Atoms) : Type 0 where
  -- an atom of M is in some stage
  pub founded : (a : ℕ) → So (M a) → InUnion (reduct P M) a
  -- an atom of some stage is in M
  pub closed : (a : ℕ) → InUnion (reduct P M) a → So (M a)

pub record FirstStage (D : List Definite) (a i : ℕ) : Type 0 where
  pub holds : So (stage D i a)
  pub before : (j : ℕ) → j < i → stage D j a ≡ false

abbrev pub least_model : Program → Atoms → Atoms
least_model P M = stage (reduct P M) P.atoms

unfoldable pub level_in : ℕ → List Definite → ℕ → ℕ
level_in n D a = first n (λ i. stage D i a)

abbrev pub level : Program → Atoms → ℕ → ℕ
level P M a = level_in P.atoms (reduct P M) a

unfoldable pub differ : Program → Atoms → ℕ
differ P M = first P.atoms (λ a. not (beq (M a) (least_model P M a)))
