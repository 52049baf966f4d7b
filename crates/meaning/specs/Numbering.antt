-- Models of definite rules, and the level numberings of document 001 ("Level Numberings").
--   IsModel D X            X is a model of the definite rules D: it holds the head of each rule whose body it holds
--   Supporting P M a j     the rule at place j of P has head a and a body that is true in M
--   body_level ℓ B         one more than the largest level of B, 1 if B is empty
--   LevelNumbering P M ℓ   M is a supported model of P, and the level of each of its atoms is the least body level of its supporting rules
-- Assumes nothing.
use Rattle.std.specs.Prelude.{ℕ, suc, ◌≤◌, ◌<◌, max, ◌≡◌, List, [], ◌∷◌, length, get_or}
use Rattle.std.proofs.Math.Bool.{So}
use Rattle.meaning.specs.Program.{Program, Atoms, no_rule, body_true}
use Rattle.meaning.specs.Stage.{Definite}

-- what stands at a place that is no rule's
abbrev pub no_definite : Definite
no_definite = record { head = 0; body = [] }

pub record IsModel (D : List Definite) (X : ℕ → Type 0) : Type 0 where
  pub obeys : (j : ℕ) → j < length D → ((i : ℕ) → i < length (get_or D j no_definite).body → X (get_or (get_or D j no_definite).body i 0)) → X (get_or D j no_definite).head

pub record Supporting (P : Program) (M : Atoms) (a j : ℕ) : Type 0 where
  pub is_rule : j < length P.rules
  pub its_head : (get_or P.rules j no_rule).head ≡ a
  pub its_body : So (body_true M (get_or P.rules j no_rule))

abbrev pub largest : (ℕ → ℕ) → List ℕ → ℕ
largest ℓ [] = 0
largest ℓ (b ∷ bs) = max (ℓ b) (largest ℓ bs)

abbrev pub body_level : (ℕ → ℕ) → List ℕ → ℕ
body_level ℓ B = suc (largest ℓ B)

pub record LevelNumbering (P : Program) (M : Atoms) (ℓ : ℕ → ℕ) : Type 0 where
  -- M is a model: a rule whose body is true in M has its head in M
  pub model : (a j : ℕ) → Supporting P M a j → So (M a)
  -- M is supported, and the level of an atom is the body level of some supporting rule
  pub attained : (a : ℕ) → So (M a) → (j : ℕ) × Supporting P M a j × (ℓ a ≡ body_level ℓ (get_or P.rules j no_rule).positive)
  -- and of no supporting rule more
  pub least : (a j : ℕ) → Supporting P M a j → ℓ a ≤ body_level ℓ (get_or P.rules j no_rule).positive
