-- Truth of the clauses of group 1, over an assignment and plain numbers.
--   atom_in                            a body atom has a byte
--   body_more, fails_more, body_all    the clauses of a body, as code goes through them
--   body_is                            all its clauses, by their slots
-- Assumes nothing.
use Prim.Native.Nat.{ℕ, suc, pred, ◌+◌, ◌≤◌, ◌<◌}
use native.Mathlib.Nat.{le_refl}
use native.Mathlib.Omega.{arith}
use mathlib.Core.Path.{◌≡◌, refl, sym, ◌∙◌, ap, ap₂, subst}
use mathlib.Core.Bool.{Bool, ◌&&◌, ◌||◌, cond}
use mathlib.Core.List.{List}
use lib.Dec.{eqb, leb, ltb, leb-suc-suc}
use lib.ListN.{length, get_or}
use borrow.Author.Tests.{ne_eqb, le-leb, lt-leb}
use Rattle.lists.specs.Lists.{all_to, any_to}
use Rattle.lists.proofs.Tests.{all_to_ext}
use Rattle.encoding.specs.Literal.{Assignment, var, −◌, literal_true}
use Rattle.encoding.specs.Variables.{Sizes, body_var}
use Rattle.clause_walk.specs.Walk.{signed, two, body_literal, body_opposite, slots1, slot1}
use Rattle.truth_literals.specs.Clauses.{Has, two_true}
use Rattle.truth_literals.proofs.Gathered.{all_more, or_more, all_done, or_done, any_after}
use Rattle.truth_rules.specs.Rules.{AtomsIn, body_clause, body_fails, body_item_true}

-- ---- the clauses of a body, as code goes through them

pub atom_in : (vs bs : List ℕ) → AtomsIn vs bs → (j : ℕ) → j < length bs → {v : ℕ} → v ≡ get_or bs j 0 → Has vs v
atom_in vs bs F j h e = subst (λ (v : ℕ). Has vs v) (sym e) (F j h)

module _ (A : Assignment) (bs : List ℕ) (p j : ℕ) {v : ℕ} (q : v ≡ get_or bs j 0) where
  pub body_more : (t : ℕ) {y x : Bool} → y ≡ all_to j (body_clause A t bs p) → x ≡ two_true A (− t) (signed (ltb j p) v)
      → (y && x) ≡ all_to (j + 1) (body_clause A t bs p)
  body_more t e u = all_more (body_clause A t bs p) j e (u ∙ ap (λ (v : ℕ). two_true A (− t) (signed (ltb j p) v)) q)

  pub fails_more : (l : Bool) {y x : Bool} → y ≡ (l || any_to j (body_fails A bs p)) → x ≡ literal_true A (signed (leb p j) v)
      → (y || x) ≡ (l || any_to (j + 1) (body_fails A bs p))
  fails_more l e u =
      or_more (body_fails A bs p) j l e
      (u ∙ ap₂ (λ (d : Bool) (v : ℕ). literal_true A (signed d v)) (sym (leb-suc-suc p j)) q)

pub body_all : (A : Assignment) (t : ℕ) (bs : List ℕ) (p : ℕ) {j : ℕ} → j ≤ length bs → length bs ≤ j → {y l x : Bool} → y ≡ all_to j (body_clause A t bs p)
    → l ≡ literal_true A (var t) → x ≡ (l || any_to j (body_fails A bs p)) → (y && x) ≡ body_item_true A t bs p
unfolding body_item_true
body_all A t bs p {j} h n e u f = ap₂ ◌&&◌ (all_done (body_clause A t bs p) j e h n) (or_done (body_fails A bs p) j f u h n)

-- ---- all clauses, by their slots

module _ (A : Assignment) (S : Sizes) (r : ℕ) (bs : List ℕ) (p : ℕ) where
  abbrev clause : ℕ → Bool
  clause y = any_to (slots1 (length bs) y) (λ l. literal_true A (slot1 S r bs p y l))

  abbrev clause_by : Bool → ℕ → Bool
  clause_by d y =
      any_to (cond d 2 (suc (length bs)))
      (λ l. literal_true A (cond d (two (− body_var S r) (body_literal bs p y) l) (cond (eqb l 1) (var (body_var S r)) (body_opposite bs p (pred l)))))

  atom_clause : (y : ℕ) → y < length bs → clause (suc y) ≡ body_clause A (body_var S r) bs p (suc y)
  atom_clause y h = ap (λ (d : Bool). clause_by d (suc y)) (le-leb (suc y) (length bs) h)

  abbrev long_slot : ℕ → Bool
  long_slot l = literal_true A (cond (eqb l 1) (var (body_var S r)) (body_opposite bs p (pred l)))

  opposite : (j : ℕ) → long_slot (suc (suc j)) ≡ body_fails A bs p (suc j)
  opposite j =
      ap (λ (d : Bool). literal_true A (cond d (var (body_var S r)) (body_opposite bs p (suc j)))) (ne_eqb (suc (suc j)) 1 (λ e. omega (arith, e)))

  long_clause : clause (suc (length bs)) ≡ (literal_true A (var (body_var S r)) || any_to (length bs) (body_fails A bs p))
  long_clause =
      ap (λ (d : Bool). clause_by d (suc (length bs))) (lt-leb (suc (length bs)) (length bs) (le_refl (suc (length bs))))
      ∙ any_after suc (λ i. refl) long_slot (body_fails A bs p) (length bs) (λ j h. opposite j)

  pub body_is : body_item_true A (body_var S r) bs p ≡ all_to (suc (length bs)) clause
  unfolding body_item_true
  body_is = sym (ap₂ ◌&&◌ (all_to_ext (length bs) clause (body_clause A (body_var S r) bs p) atom_clause) long_clause)
