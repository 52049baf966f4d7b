-- One pass over an answer: after each literal the answer so far, and the buffer.
--   next_put                     what `put_next_value` answers where each literal before was assigned
--   next_kept                    and where one was not
--   pass_goes, pass_ends         one literal more; no more literals
--   read_model, read_none        the outcome and the buffer by the status
--   read_formed                  the same of an answer of the form, whose literals begin at e
--   read_told                    what is told of an answer, by its form and how its literals were assigned
--   model_read, fault_read       what that says of the form
-- Assumes nothing.
use Prim.Native.Nat.{ℕ, ◌≤◌}
use mathlib.Core.Path.{◌≡◌, refl, sym, ◌∙◌, ap, ap₂}
use mathlib.Core.Bool.{Bool, true, false, cond}
use mathlib.Core.List.{List, []}
use lib.IntN.{ℤ, nat_abs}
use Rattle.answer_form.specs.Automaton.{answer_accepts, answer_leaves}
use Rattle.answer_form.specs.Pieces.{Found, status_of, Spotted}
use Rattle.std.specs.Prelude.{Ok, Err}
use Rattle.answer_reader.specs.declared.AnswerFault.{AnswerFault}
use Rattle.answer_reader.specs.Results.{Formed, malformed, found_for, form_for, form_of}
use Rattle.answer_reader.proofs.Given.{found_satisfiable}
use Rattle.answer_bytes.specs.declared.AssignFault.{AssignFault}
use Rattle.answer_bytes.specs.Bytes.{Outcome, put_outcome, put_bytes, number_value, Assigned, assigned_for}
use Rattle.answer_values.specs.Assign.{literals_from, assigned_of, assigned_bytes, next_answer, next_bytes, outcome_by, read_outcome, bytes_by, read_bytes, ValuesRead, assumed_by, values_read, answer_read}
use Rattle.answer_values.proofs.Taking.{Took, assign_goes, assign_stops}

-- ---- one literal

pub next_put : (o : Assigned) → o ≡ Ok tt → (n f : ℕ) (x z : ℤ) → z ≡ x → (b c : List ℕ) (r : Assigned)
    → (r ≡ assigned_for (put_outcome n (nat_abs z) f b)) × (c ≡ put_bytes n (nat_abs z) (number_value z) b)
    → (r ≡ next_answer o (put_outcome n (nat_abs x) f b)) × (c ≡ next_bytes o (put_bytes n (nat_abs x) (number_value x) b) b)
next_put o e n f x z s b c r w = (
  w.0 ∙ ap (λ (y : ℤ). assigned_for (put_outcome n (nat_abs y) f b)) s ∙ sym (ap (λ (a : Assigned). next_answer a (put_outcome n (nat_abs x) f b)) e),
  w.1 ∙ ap (λ (y : ℤ). put_bytes n (nat_abs y) (number_value y) b) s ∙ sym (ap (λ (a : Assigned). next_bytes a (put_bytes n (nat_abs x) (number_value x) b) b) e),
)

pub next_kept : (o : Assigned) {f : AssignFault} → o ≡ Err f → (p : Outcome) (b c : List ℕ) → (Err f ≡ next_answer o p) × (b ≡ next_bytes o c b)
next_kept o e p b c = (sym (ap (λ (a : Assigned). next_answer a p) e), sym (ap (λ (a : Assigned). next_bytes a c b) e))

-- ---- one literal after the other

module _ (t : List ℕ) (p : ℕ) where
  module _ (x : ℤ) (f j : ℕ) (w : Took t p x f j) (n : ℕ) (small : n ≤ 9890) (b c : List ℕ) (r : Assigned) where
    -- each literal before it was assigned
    first_goes : (r ≡ assigned_for (put_outcome n (nat_abs x) f b)) × (c ≡ put_bytes n (nat_abs x) (number_value x) b)
        → (next_answer r (assigned_of n (literals_from t j) c) ≡ assigned_for (assigned_of n (literals_from t p) b))
        × (next_bytes r (assigned_bytes n (literals_from t j) c) c ≡ assigned_bytes n (literals_from t p) b)
    first_goes e = go r refl
      where
        other : (y : Assigned) → r ≡ y → (y ≡ Ok tt → ⊥) → next_answer y (assigned_of n (literals_from t j) c) ≡ y → next_bytes y (assigned_bytes n (literals_from t j) c) c ≡ c
            → (next_answer r (assigned_of n (literals_from t j) c) ≡ assigned_for (assigned_of n (literals_from t p) b))
            × (next_bytes r (assigned_bytes n (literals_from t j) c) c ≡ assigned_bytes n (literals_from t p) b)
        other y q d k l =
            let g = assign_stops t p x f j w n b c small r e.0 e.1 (λ z. d (sym q ∙ z)) in (
              ap (λ (a : Assigned). next_answer a (assigned_of n (literals_from t j) c)) q ∙ k ∙ sym q ∙ g.0,
              ap (λ (a : Assigned). next_bytes a (assigned_bytes n (literals_from t j) c) c) q ∙ l ∙ g.1,
            )

        go : (y : Assigned) → r ≡ y
            → (next_answer r (assigned_of n (literals_from t j) c) ≡ assigned_for (assigned_of n (literals_from t p) b))
            × (next_bytes r (assigned_bytes n (literals_from t j) c) c ≡ assigned_bytes n (literals_from t p) b)
        go (Ok u) q =
            let g = assign_goes t p x f j w n b c small r e.0 e.1 q in (
              ap (λ (a : Assigned). next_answer a (assigned_of n (literals_from t j) c)) q ∙ ap assigned_for g.0,
              ap (λ (a : Assigned). next_bytes a (assigned_bytes n (literals_from t j) c) c) q ∙ g.1,
            )
        go (Err f) q = other (Err f) q (λ z. cc) refl refl

    pub pass_goes : (o : Assigned) → (r ≡ next_answer o (put_outcome n (nat_abs x) f b)) × (c ≡ next_bytes o (put_bytes n (nat_abs x) (number_value x) b) b)
        → (next_answer r (assigned_of n (literals_from t j) c) ≡ next_answer o (assigned_of n (literals_from t p) b))
        × (next_bytes r (assigned_bytes n (literals_from t j) c) c ≡ next_bytes o (assigned_bytes n (literals_from t p) b) b)
    pass_goes (Ok u) e = first_goes e
    pass_goes (Err g) e =
        (ap (λ (a : Assigned). next_answer a (assigned_of n (literals_from t j) c)) e.0, ap (λ (a : Assigned). next_bytes a (assigned_bytes n (literals_from t j) c) c) e.0 ∙ e.1)

  pub pass_ends : (n : ℕ) (b : List ℕ) → literals_from t p ≡ [] → (o : Assigned)
      → (o ≡ next_answer o (assigned_of n (literals_from t p) b)) × (b ≡ next_bytes o (assigned_bytes n (literals_from t p) b) b)
  pass_ends n b e (Ok u) = (sym (ap (λ (u : List Spotted). assigned_for (assigned_of n u b)) e), sym (ap (λ (u : List Spotted). assigned_bytes n u b) e))
  pass_ends n b e (Err f) = (refl, refl)

-- ---- by the status

module _ (t : List ℕ) (r : Formed) (a : r ≡ found_for (status_of t)) (n : ℕ) (b : List ℕ) where
  by_status : (x : Found) → status_of t ≡ x → (assigned_for (read_outcome n t b) ≡ assigned_for (outcome_by n t b x)) × (read_bytes n t b ≡ bytes_by n t b x)
  unfolding read_outcome read_bytes
  by_status x e = (ap (λ (y : Found). assigned_for (outcome_by n t b y)) e, ap (bytes_by n t b) e)

  pub read_model : (e : ℕ) → r ≡ Ok e
      → (assigned_for (read_outcome n t b) ≡ assigned_for (assigned_of n (literals_from t e) b)) × (read_bytes n t b ≡ assigned_bytes n (literals_from t e) b)
  read_model e q = by_status (Found.satisfiable e) (found_satisfiable (status_of t) e (sym a ∙ q))

  pub read_none : (f : AnswerFault) → r ≡ Err f → (assigned_for (read_outcome n t b) ≡ Ok tt) × (read_bytes n t b ≡ b)
  read_none f q = go (status_of t) refl (sym a ∙ q)
    where
      go : (x : Found) → status_of t ≡ x → found_for x ≡ Err f → (assigned_for (read_outcome n t b) ≡ Ok tt) × (read_bytes n t b ≡ b)
      go (Found.satisfiable e) is z = absurd (cc)
      go (Found.other s) is z = by_status (Found.other s) is
      go (Found.left s) is z = by_status (Found.left s) is

-- ---- an answer of the form

module _ (t : List ℕ) (e : ℕ) where
  status_is : (x : Found) → form_for t x ≡ Ok e → x ≡ Found.satisfiable e
  status_is (Found.satisfiable k) q = go (answer_accepts 0 t) q
    where
      go : (d : Bool) → cond d (Ok k) (malformed (answer_leaves 0 t)) ≡ Ok e → Found.satisfiable k ≡ Found.satisfiable e
      go true q = cc
      go false q = cc
  status_is (Found.other s) q = cc
  status_is (Found.left s) q = cc

  pub read_formed : form_of t ≡ Ok e → (n : ℕ) (b : List ℕ)
      → (read_outcome n t b ≡ assigned_of n (literals_from t e) b) × (read_bytes n t b ≡ assigned_bytes n (literals_from t e) b)
  unfolding form_of read_outcome read_bytes
  read_formed q n b = let s = status_is (status_of t) q in (ap (outcome_by n t b) s, ap (bytes_by n t b) s)

-- ---- what is answered

-- the answer's r is the form, and v how the literals were assigned; k variables have no value
module _ {r : Formed} {v : ValuesRead} (k : ℕ) where
  pub read_told : {f g : Formed} → f ≡ g → {o p : Assigned} → o ≡ p
      → r ≡ f → v ≡ values_read o (assumed_by r k) → answer_read r v ≡ answer_read f (values_read o k)
      → (r ≡ g) × (v ≡ values_read p (assumed_by r k)) × (answer_read r v ≡ answer_read g (values_read p k))
  read_told i j a b c = (
    a ∙ i,
    b ∙ ap (λ (o : Assigned). values_read o (assumed_by r k)) j,
    c ∙ ap₂ (λ (f : Formed) (o : Assigned). answer_read f (values_read o k)) i j,
  )

pub fault_read : {f : Formed} (v : ValuesRead) {y : AnswerFault} → answer_read f v ≡ Err y → f ≡ Err y
fault_read {f = Ok e} v q = cc
fault_read {f = Err y} v q = cc

-- an answer of the form, whose status line ends at e
pub model_read : {f : Formed} {v w : ValuesRead} → answer_read f v ≡ Ok w → (e : ℕ) × (f ≡ Ok e) × (v ≡ w)
model_read {f = Ok e} q = (e, refl, cc)
model_read {f = Err y} q = absurd (cc)
