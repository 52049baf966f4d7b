-- After a refusal nothing changes.
-- Assumes nothing.
use Prim.Native.Nat.{ℕ}
use mathlib.Core.Path.{◌≡◌, refl, ◌∙◌, ap}
use mathlib.Core.Bool.{Bool, true, false, cond}
use mathlib.Core.List.{List, [], ◌∷◌}
use lib.Dec.{ltb}
use borrow.Author.Tests.{ne_eqb}
use Rattle.meaning.specs.Program.{Rule, Program}
use Rattle.reader_work.specs.Work.{work_of, work_heads, work_starts, work_bodies}
use Rattle.reader_laws.specs.Judge.{Work, acts, more_read, list_read, rule_read, rules_read, judged}

-- a refusal is kept
abbrev pub Refused : Work → Type 0
Refused W = W.counts.number ≡ 0 → ⊥

same_either : {A : Type 0} (b : Bool) (x : A) → cond b x x ≡ x
same_either true x = refl
same_either false x = refl

module _ (W : Work) (f : Refused W) where
  pub acts_frozen : (act k v g i : ℕ) → acts act k v g i W ≡ W
  unfolding acts work_of work_heads work_starts work_bodies
  acts_frozen act k v g i =
      rw (ne_eqb W.counts.number 0 f, same_either (ltb act 3) W.counts, same_either (ltb act 3) W.heads, same_either (ltb act 3) W.starts, same_either (ltb act 3) W.bodies)

  pub more_frozen : (k : ℕ) (xs : List ℕ) (g : ℕ) → more_read k xs g W ≡ W
  more_frozen k [] g = refl
  more_frozen k (x ∷ xs) g = ap (more_read k xs _) (acts_frozen 3 k _ _ _) ∙ more_frozen k xs _

  pub list_frozen : (k : ℕ) (xs : List ℕ) (g : ℕ) → list_read k xs g W ≡ W
  list_frozen k [] g = refl
  list_frozen k (x ∷ xs) g = ap (more_read k xs _) (acts_frozen 3 k _ _ _) ∙ more_frozen k xs _

  pub rule_frozen : (r : Rule) (g : ℕ) → rule_read r g W ≡ W
  rule_frozen r g = simp (acts_frozen, list_frozen)

  pub rules_frozen : (rs : List Rule) (g : ℕ) → rules_read rs g W ≡ W
  rules_frozen [] g = refl
  rules_frozen (r ∷ rs) g = ap (rules_read rs _) (rule_frozen r g) ∙ rules_frozen rs _

  pub judged_frozen : (P : Program) → judged P W ≡ W
  unfolding judged
  judged_frozen P = ap (rules_read P.rules _) (acts_frozen 3 7 _ _ _) ∙ rules_frozen P.rules _
