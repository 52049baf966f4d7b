-- The literals of an answer, one after the other.
--   Ahead, ahead                           a literal is of a variable from 1 on and ends after its position, within the text
--   literals_read                          `literals_from` gives the literals that are read
--   ok_is                                  a pattern within `Ok`
--   Took, next_took, given_took            what it says that the code was given a literal
--   last_none, left_none                   and that it was given none
--   literals_more, literals_ended, literals_broken   the literals from a position on, by the next one
--   took_positive, took_small                        a literal given is fit to be put
--   assign_goes, assign_stops                        the outcome and the buffer: literal done, literal stray or repeated
-- Assumes nothing.
use Prim.Native.Nat.{ℕ, zero, suc, ◌+◌, ◌^◌, ◌≤◌, ◌<◌}
use native.Mathlib.Omega.{arith}
use mathlib.Core.Path.{◌≡◌, refl, sym, ◌∙◌, ap, subst}
use mathlib.Core.List.{List, [], ◌∷◌}
use lib.IntN.{ℤ, nat_abs}
use lib.ListN.{length, length-drop, drop}
use mir.Syntax.{w32}
use mir.Val.{to_z, of_z}
use mir.Facts.{to_z-of_z}
use borrow.Author.Tests.{ltb-true}
use Rattle.encoding.specs.Literal.{Literal, variable}
use Rattle.clause_literals.proofs.Signed.{abs_fits}
use Rattle.answer_form.specs.Pieces.{Next, next_literal, Close, Spotted, Reads}
use Rattle.answer_form.proofs.Passing.{Heard, next_heard}
use Rattle.answer_form.proofs.PieceLaws.{reads_total}
use Rattle.std.specs.Prelude.{Result, Ok, Err}
use Rattle.answer_reader.specs.declared.Token.{Token}
use Rattle.answer_reader.specs.declared.Token.TheVariants as token
use Rattle.answer_reader.specs.Results.{capped, next_for}
use Rattle.answer_bytes.specs.Bytes.{Outcome, put_outcome, put_bytes, number_value, Assigned, assigned_for}
use Rattle.answer_values.specs.Assign.{literal_then, literals_within, literals_from, literal_value, then_outcome, then_bytes, assigned_of, assigned_bytes}
use Rattle.answer_bytes.proofs.Putting.{put_stops}
use Rattle.answer_values.proofs.Capped.{capped_positive, capped_small, capped_outcome, capped_bytes}

-- a pattern within `Ok`
pub ok_is : {A E : Type 0} {r : Result A E} {x y : A} → r ≡ Ok y → y ≡ x → r ≡ Ok x
ok_is p q = p ∙ ap Ok q

done_of : (o : Outcome) → assigned_for o ≡ Ok tt → o ≡ Outcome.done
done_of Outcome.done e = refl
done_of (Outcome.stray s) e = cc
done_of (Outcome.repeated s) e = cc

then_stays : (o u : Outcome) → (o ≡ Outcome.done → ⊥) → then_outcome o u ≡ o
then_stays Outcome.done u h = absurd (h refl)
then_stays (Outcome.stray s) u h = refl
then_stays (Outcome.repeated s) u h = refl

bytes_stay : (o : Outcome) (later b : List ℕ) → (o ≡ Outcome.done → ⊥) → then_bytes o later b ≡ b
bytes_stay Outcome.done later b h = absurd (h refl)
bytes_stay (Outcome.stray s) later b h = refl
bytes_stay (Outcome.repeated s) later b h = refl

module _ (t : List ℕ) where
  -- a literal stands after its position, within the text
  pub record Ahead (p : ℕ) (l : Literal) (j : ℕ) : Type 0 where
    pub named : 0 < variable l
    pub further : p < j
    pub within : j ≤ length t

  pub ahead : (p : ℕ) (l : Literal) (f j : ℕ) → next_literal t p ≡ Next.literal l f j → Ahead p l j
  ahead p l f j e = go (subst (λ (x : Next). Heard 35 p (drop p t) x) e (next_heard t p))
    where
      go : Heard 35 p (drop p t) (Next.literal l f j) → Ahead p l j
      go (Heard.a_literal m g k n a b c s w) =
          record { named = ltb-true 0 (variable l) a; further = omega (arith, b, c); within = omega (arith, b, c, s, w.within, length-drop p t) }

  -- ---- the literals that are read

  within_read : {p : ℕ} {xs : List Spotted} {c : Close} (f : ℕ) → length t ≤ p + f → Reads t p xs c → literals_within f t p ≡ xs
  unfolding literals_within
  within_read {p} zero h (Reads.more l g j e r) = let a = ahead p l g j e in absurd (omega (arith, h, a.further, a.within))
  within_read {p} (suc f) h (Reads.more {xs = xs} l g j e r) =
      let a = ahead p l g j e in
      ap (λ (x : Next). literal_then x (literals_within f t)) e
      ∙ ap (λ (ys : List Spotted). record { literal = l; first = g } ∷ ys) (within_read f (omega (arith, h, a.further)) r)
  within_read zero h (Reads.ends j e d) = refl
  within_read (suc f) h (Reads.ends j e d) = ap (λ (x : Next). literal_then x (literals_within f t)) e
  within_read zero h (Reads.breaks s e) = refl
  within_read (suc f) h (Reads.breaks s e) = ap (λ (x : Next). literal_then x (literals_within f t)) e

  pub literals_read : {p : ℕ} {xs : List Spotted} {c : Close} → Reads t p xs c → literals_from t p ≡ xs
  unfolding literals_from
  literals_read r = within_read (length t) (omega arith) r

  pub literals_more : (p : ℕ) (l : Literal) (f j : ℕ) → next_literal t p ≡ Next.literal l f j → literals_from t p ≡ record { literal = l; first = f } ∷ literals_from t j
  literals_more p l f j e =
      let r = reads_total t j (ahead p l f j e).within in
      literals_read (Reads.more l f j e r.2) ∙ ap (λ (ys : List Spotted). record { literal = l; first = f } ∷ ys) (sym (literals_read r.2))

  pub literals_ended : (p j : ℕ) → next_literal t p ≡ Next.last j → literals_from t p ≡ []
  literals_ended p j e = literals_read (Reads.ends j e refl)

  pub literals_broken : (p s : ℕ) → next_literal t p ≡ Next.left s → literals_from t p ≡ []
  literals_broken p s e = literals_read (Reads.breaks s e)

  -- ---- what the code is given

  pub record Took (p : ℕ) (x : ℤ) (f j : ℕ) : Type 0 where
    pub literal : Literal
    pub number : x ≡ capped literal
    pub next : next_literal t p ≡ Next.literal literal f j
    pub place : Ahead p literal j

  pub next_took : (p : ℕ) (r : Result Token ℕ) → r ≡ next_for (next_literal t p) → (x : ℤ) (f j : ℕ) → r ≡ Ok (token.Literal x f j) → Took p x f j
  next_took p r a x f j b = go (next_literal t p) refl (sym b ∙ a)
    where
      go : (y : Next) → next_literal t p ≡ y → Ok (token.Literal x f j) ≡ next_for y → Took p x f j
      go (Next.literal l g k) e q =
          let same : next_literal t p ≡ Next.literal l f j = cc in
          let number : x ≡ capped l = cc in
          record { literal = l; number = number; next = same; place = ahead p l f j same }
      go (Next.last k) e q = absurd (cc)
      go (Next.left s) e q = absurd (cc)

  -- the same of what the machine reads back of x
  pub given_took : (p : ℕ) (r : Result Token ℕ) → r ≡ next_for (next_literal t p) → (x : ℤ) (f j : ℕ) → r ≡ Ok (token.Literal x f j) → Took p (to_z w32 (of_z w32 x)) f j
  given_took p r a x f j b =
      let w = next_took p r a x f j b in
      let fits = abs_fits x (subst (λ (z : ℤ). nat_abs z < 2 ^ 31) (sym w.number) (capped_small w.literal)) in
      subst (λ (z : ℤ). Took p z f j) (sym (to_z-of_z fits)) w

  pub last_none : (p : ℕ) (r : Result Token ℕ) → r ≡ next_for (next_literal t p) → (j : ℕ) → r ≡ Ok (token.Last j) → literals_from t p ≡ []
  last_none p r a j b = go (next_literal t p) refl (sym b ∙ a)
    where
      go : (y : Next) → next_literal t p ≡ y → Ok (token.Last j) ≡ next_for y → literals_from t p ≡ []
      go (Next.literal l g k) e q = absurd (cc)
      go (Next.last k) e q = literals_ended p k e
      go (Next.left s) e q = absurd (cc)

  pub left_none : (p : ℕ) (r : Result Token ℕ) → r ≡ next_for (next_literal t p) → (s : ℕ) → r ≡ Err s → literals_from t p ≡ []
  left_none p r a j b = go (next_literal t p) refl (sym b ∙ a)
    where
      go : (y : Next) → next_literal t p ≡ y → Err j ≡ next_for y → literals_from t p ≡ []
      go (Next.literal l g k) e q = absurd (cc)
      go (Next.last k) e q = absurd (cc)
      go (Next.left s) e q = literals_broken p s e

  module _ (p : ℕ) (x : ℤ) (f j : ℕ) (w : Took p x f j) where
    pub took_positive : 0 < nat_abs x
    took_positive = subst (λ (z : ℤ). 0 < nat_abs z) (sym w.number) (capped_positive w.literal w.place.named)

    pub took_small : nat_abs x < 2 ^ 31
    took_small = subst (λ (z : ℤ). nat_abs z < 2 ^ 31) (sym w.number) (capped_small w.literal)

    -- ---- assigning

    module _ (n : ℕ) (b c : List ℕ) (small : n ≤ 9890) (o : Assigned) (e : o ≡ assigned_for (put_outcome n (nat_abs x) f b)) (g : c ≡ put_bytes n (nat_abs x) (number_value x) b) where
      outcome_is : o ≡ assigned_for (put_outcome n (variable w.literal) f b)
      outcome_is = e ∙ ap assigned_for (ap (λ (z : ℤ). put_outcome n (nat_abs z) f b) w.number ∙ capped_outcome n f b w.literal small)

      bytes_are : c ≡ put_bytes n (variable w.literal) (literal_value w.literal) b
      bytes_are = g ∙ ap (λ (z : ℤ). put_bytes n (nat_abs z) (number_value z) b) w.number ∙ capped_bytes n f b w.literal small w.place.named

      pub assign_goes : o ≡ Ok tt
          → (assigned_of n (literals_from t j) c ≡ assigned_of n (literals_from t p) b) × (assigned_bytes n (literals_from t j) c ≡ assigned_bytes n (literals_from t p) b)
      assign_goes d =
          let m = literals_more p w.literal f j w.next in
          let is = done_of (put_outcome n (variable w.literal) f b) (sym outcome_is ∙ d) in (
            ap (assigned_of n (literals_from t j)) bytes_are ∙ sym (ap (λ (u : List Spotted). assigned_of n u b) m ∙ rw is),
            ap (assigned_bytes n (literals_from t j)) bytes_are ∙ sym (ap (λ (u : List Spotted). assigned_bytes n u b) m ∙ rw is),
          )

      pub assign_stops : (o ≡ Ok tt → ⊥) → (o ≡ assigned_for (assigned_of n (literals_from t p) b)) × (c ≡ assigned_bytes n (literals_from t p) b)
      assign_stops d =
          let m = literals_more p w.literal f j w.next in
          let stays : put_outcome n (variable w.literal) f b ≡ Outcome.done → ⊥ = λ q. d (outcome_is ∙ ap assigned_for q) in (
            outcome_is ∙ sym (ap assigned_for (ap (λ (u : List Spotted). assigned_of n u b) m ∙ then_stays _ _ stays)),
            bytes_are ∙ put_stops n (variable w.literal) f (literal_value w.literal) b stays ∙ sym (ap (λ (u : List Spotted). assigned_bytes n u b) m ∙ bytes_stay _ _ b stays),
          )
