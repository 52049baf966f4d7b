-- What the outcome, the buffer and the number of variables without a value say of the literals (document 01, rows 13 and 14; document 02, Q-3), where the
-- first n bytes are 2 at the start.
--   literals_named               the literals of an answer are of variables from 1 on
--   Fit n xs j, AllFit n xs      the literal at place j is of a variable up to n that no literal before it names; each literal is
--   StrayAt n xs s               the first literal that is not fit is of a variable above n, and its first byte is at s
--   RepeatedAt n xs s            it is of a variable up to n that a literal before it names, and its first byte is at s
--   filled_none                  no buffer, filled
--   Meant n xs o, meant, meant_unique      what an outcome means; `assigned_of` gives one that is so, and only one is
--   assigned_stray, stray_assigned         the outcome is stray at s just where `StrayAt n xs s`
--   assigned_repeated, repeated_assigned   it is repeated at s just where `RepeatedAt n xs s`
--   assigned_done, done_assigned           it is done just where each literal is fit
--   named_value, unnamed_value   then the byte of a variable is the value of the literal that names it, or 2
--   named_or_not                 a variable is named or not
--   unset_unnamed                where each literal is fit, as many variables have no value as no literal names
--   unnamed_rest                 and with the literals these make up n
-- Assumes nothing.
use Prim.Native.Nat.{ℕ, zero, suc, ◌+◌, ◌-◌, ◌≤◌, ◌<◌}
use native.Mathlib.Nat.{le_of_suc-le-suc}
use native.Mathlib.Omega.{arith}
use mathlib.Core.Path.{◌≡◌, refl, sym, ◌∙◌, ap, subst}
use mathlib.Core.Logic.{◌⊎◌, inl, inr, ⊎_elim}
use mathlib.Core.Bool.{Bool, true, false, So, cond, false≢true}
use mathlib.Core.List.{List, [], ◌++◌, append-nil}
use lib.Dec.{eqb}
use lib.ListN.{length, get_or, drop, replicate, length-append, length-replicate, get_or-replicate, get_or-append}
use borrow.Author.Tests.{eq-eqb, ne_eqb, eqb-true}
use Rattle.lists.proofs.Bools.{false_of}
use Rattle.lists.proofs.Tests.{le_or_lt, any_at, any_in}
use Rattle.lists.proofs.Tables.{sum_ext}
use Rattle.lists.proofs.Counting.{others}
use Rattle.encoding.specs.Literal.{variable}
use Rattle.answer_form.specs.Pieces.{Next, next_literal, Spotted}
use Rattle.answer_bytes.specs.Bytes.{Outcome, unset_count, overwritten}
use Rattle.answer_values.specs.Assign.{literal_then, literals_within, literals_from, literal_value, nobody, literal_at, variable_at, spot_at, Unnamed, Named, is_named, unnamed_count, assigned_of, assigned_bytes}
use Rattle.answer_values.proofs.Taking.{ahead}
use Rattle.answer_values.specs.Rows.{Old, Fit, AllFit, StrayAt, RepeatedAt}
use Rattle.answer_values.proofs.Steps.{AllNamed, State, Says, says, value_not_two, byte_kept, byte_given}

-- ---- the literals of an answer

within_named : (t : List ℕ) (f p : ℕ) → AllNamed (literals_within f t p)
unfolding literals_within
within_named t zero p k h = absurd (omega (arith, h))
within_named t (suc f) p k h = go (next_literal t p) refl (within_named t f) k h
  where
    go : (x : Next) → next_literal t p ≡ x → ((q : ℕ) → AllNamed (literals_within f t q)) → AllNamed (literal_then x (literals_within f t))
    go (Next.literal l g j) e ih zero h = (ahead t p l g j e).named
    go (Next.literal l g j) e ih (suc k) h = ih j k (le_of_suc-le-suc h)
    go (Next.last j) e ih k h = absurd (omega (arith, h))
    go (Next.left s) e ih k h = absurd (omega (arith, h))

pub literals_named : (t : List ℕ) (p : ℕ) → AllNamed (literals_from t p)
unfolding literals_from
literals_named t p = within_named t (length t) p

-- ---- what each outcome means

pub data Meant (n : ℕ) (xs : List Spotted) : Outcome → Type 0 where
  all_fit : AllFit n xs → Meant n xs Outcome.done
  stray_at : (s : ℕ) → StrayAt n xs s → Meant n xs (Outcome.stray s)
  repeated_at : (s : ℕ) → RepeatedAt n xs s → Meant n xs (Outcome.repeated s)

module _ (n : ℕ) (xs : List Spotted) where
  -- the first place that is not fit is one
  one_place : (i j : ℕ) → (Fit n xs i → ⊥) → (Fit n xs j → ⊥) → ((k : ℕ) → k < i → Fit n xs k) → ((k : ℕ) → k < j → Fit n xs k) → i ≡ j
  one_place i j p q f g =
      ⊎_elim (λ (h : i ≤ j). ⊎_elim (λ (k : j ≤ i). omega (arith, h, k)) (λ (k : i < j). absurd (p (g i k))) (le_or_lt j i))
      (λ (h : j < i). absurd (q (f j h))) (le_or_lt i j)

  stray_unfit : {s : ℕ} (m : StrayAt n xs s) → Fit n xs m.place → ⊥
  stray_unfit m f = omega (arith, m.above, f.0)

  repeated_unfit : {s : ℕ} (m : RepeatedAt n xs s) → Fit n xs m.place → ⊥
  repeated_unfit m f = f.1 m.again.0 m.again.1 m.again.2

  differ : {s r : ℕ} → StrayAt n xs s → RepeatedAt n xs r → ⊥
  differ m w =
      let same = one_place m.place w.place (stray_unfit m) (repeated_unfit w) m.before w.before in
      let at = ap (variable_at xs) same in
      omega (arith, m.above, w.within, at)

  pub meant_unique : (o u : Outcome) → Meant n xs o → Meant n xs u → o ≡ u
  meant_unique o u (Meant.all_fit f) (Meant.all_fit g) = refl
  meant_unique o u (Meant.all_fit f) (Meant.stray_at s m) = absurd (stray_unfit m (f m.place m.inside))
  meant_unique o u (Meant.all_fit f) (Meant.repeated_at s m) = absurd (repeated_unfit m (f m.place m.inside))
  meant_unique o u (Meant.stray_at s m) (Meant.all_fit f) = absurd (stray_unfit m (f m.place m.inside))
  meant_unique o u (Meant.stray_at s m) (Meant.stray_at r w) =
      ap Outcome.stray (m.spot ∙ ap (spot_at xs) (one_place m.place w.place (stray_unfit m) (stray_unfit w) m.before w.before) ∙ sym w.spot)
  meant_unique o u (Meant.stray_at s m) (Meant.repeated_at r w) = absurd (differ m w)
  meant_unique o u (Meant.repeated_at s m) (Meant.all_fit f) = absurd (repeated_unfit m (f m.place m.inside))
  meant_unique o u (Meant.repeated_at s m) (Meant.stray_at r w) = absurd (differ w m)
  meant_unique o u (Meant.repeated_at s m) (Meant.repeated_at r w) =
      ap Outcome.repeated (m.spot ∙ ap (spot_at xs) (one_place m.place w.place (repeated_unfit m) (repeated_unfit w) m.before w.before) ∙ sym w.spot)

-- ---- a buffer with no values

none : ℕ → Bool
none v = false

-- no buffer, filled
drop_none : (n : ℕ) → drop {A = ℕ} n [] ≡ []
drop_none zero = refl
drop_none (suc n) = refl

pub filled_none : (n x : ℕ) → overwritten n x [] ≡ replicate n x
unfolding overwritten
filled_none n x = ap (λ (b : List ℕ). replicate n x ++ b) (drop_none n) ∙ append-nil (replicate n x)

filled_byte : (n : ℕ) (b : List ℕ) (v : ℕ) → 0 < v → v ≤ n → get_or (overwritten n 2 b) (v - 1) 0 ≡ 2
unfolding overwritten
filled_byte n b v p h =
    let i : v - 1 < n = omega (arith, p, h) in
    get_or-append (replicate n 2) (drop n b) 0 (v - 1) (subst (λ (k : ℕ). v - 1 < k) (sym (length-replicate n 2)) i) ∙ get_or-replicate n (v - 1) 2 0 i

filled_length : (n : ℕ) (b : List ℕ) → n ≤ length (overwritten n 2 b)
unfolding overwritten
filled_length n b = omega (arith, length-append (replicate n 2) (drop n b), length-replicate {A = ℕ} n 2)

no_values_lem : (n : ℕ) (b : List ℕ) → State n none (overwritten n 2 b)
unfolding none
no_values_lem n b = record { room = filled_length n b; unseen = λ v p h e. filled_byte n b v p h; taken = λ v p h e q. false≢true e }

-- ---- the outcome

module _ (n : ℕ) (xs : List Spotted) (b : List ℕ) (named : AllNamed xs) where
  pub meant : Meant n xs (assigned_of n xs (overwritten n 2 b))
  unfolding none
  meant = go (assigned_of n xs (overwritten n 2 b)) (says n xs none (overwritten n 2 b) (no_values_lem n b) named)
    where
      old : (k : ℕ) → (none (variable_at xs k) ≡ true) ⊎ Old xs k → Old xs k
      old k (inl e) = absurd (false≢true e)
      old k (inr o) = o

      go : (o : Outcome) → Says n none xs o → Meant n xs o
      go o (Says.all_good f) = Meant.all_fit (λ j h. let g = f j h in (g.0, g.2))
      go o (Says.a_stray k h a f) =
          Meant.stray_at (spot_at xs k) (record { place = k; inside = h; spot = refl; above = a; before = λ j q. let g = f j q in (g.0, g.2) })
      go o (Says.a_repeated k h a e f) =
          Meant.repeated_at (spot_at xs k) (record { place = k; inside = h; spot = refl; within = a; again = old k e; before = λ j q. let g = f j q in (g.0, g.2) })

  meant_as : (o : Outcome) → assigned_of n xs (overwritten n 2 b) ≡ o → Meant n xs o
  meant_as o e = subst (Meant n xs) e meant

  pub assigned_stray : (s : ℕ) → assigned_of n xs (overwritten n 2 b) ≡ Outcome.stray s → StrayAt n xs s
  assigned_stray s e = go (meant_as (Outcome.stray s) e)
    where
      go : Meant n xs (Outcome.stray s) → StrayAt n xs s
      go (Meant.stray_at r m) = m

  pub stray_assigned : (s : ℕ) → StrayAt n xs s → assigned_of n xs (overwritten n 2 b) ≡ Outcome.stray s
  stray_assigned s m = meant_unique n xs (assigned_of n xs (overwritten n 2 b)) (Outcome.stray s) meant (Meant.stray_at s m)

  pub assigned_repeated : (s : ℕ) → assigned_of n xs (overwritten n 2 b) ≡ Outcome.repeated s → RepeatedAt n xs s
  assigned_repeated s e = go (meant_as (Outcome.repeated s) e)
    where
      go : Meant n xs (Outcome.repeated s) → RepeatedAt n xs s
      go (Meant.repeated_at r m) = m

  pub repeated_assigned : (s : ℕ) → RepeatedAt n xs s → assigned_of n xs (overwritten n 2 b) ≡ Outcome.repeated s
  repeated_assigned s m = meant_unique n xs (assigned_of n xs (overwritten n 2 b)) (Outcome.repeated s) meant (Meant.repeated_at s m)

  pub assigned_done : assigned_of n xs (overwritten n 2 b) ≡ Outcome.done → AllFit n xs
  assigned_done e = go (meant_as Outcome.done e)
    where
      go : Meant n xs Outcome.done → AllFit n xs
      go (Meant.all_fit f) = f

  pub done_assigned : AllFit n xs → assigned_of n xs (overwritten n 2 b) ≡ Outcome.done
  done_assigned f = meant_unique n xs (assigned_of n xs (overwritten n 2 b)) Outcome.done meant (Meant.all_fit f)

  -- ---- the buffer

  pub unnamed_value : (v : ℕ) → 0 < v → v ≤ n → Unnamed xs v → get_or (assigned_bytes n xs (overwritten n 2 b)) (v - 1) 0 ≡ 2
  unnamed_value v p h u = byte_kept n xs (overwritten n 2 b) v named p u ∙ filled_byte n b v p h

  pub named_value : AllFit n xs → (k : ℕ) → k < length xs → get_or (assigned_bytes n xs (overwritten n 2 b)) (variable_at xs k - 1) 0 ≡ literal_value (literal_at xs k)
  named_value f = byte_given n xs (overwritten n 2 b) (filled_length n b) named (done_assigned f) (λ j h. (f j h).1)

-- ---- the variables that no literal names

pub named_or_not : (xs : List Spotted) (v : ℕ) → Named xs v ⊎ Unnamed xs v
named_or_not xs v = go (is_named xs v) refl
  where
    at : (k : ℕ) → So (eqb (variable_at xs k) v) → variable_at xs k ≡ v
    at k e = eqb-true (variable_at xs k) v e

    go : (d : Bool) → is_named xs v ≡ d → Named xs v ⊎ Unnamed xs v
    go true e = let w = any_at (λ (x : Spotted). eqb (variable x.literal) v) xs nobody e in inl (w.0, w.1, at w.0 w.2)
    go false e =
        inr (λ k h q. false≢true (sym e ∙ any_in (λ (x : Spotted). eqb (variable x.literal) v) xs nobody k h (eq-eqb (variable_at xs k) v q)))

is_named_lem : (xs : List Spotted) (v : ℕ) → Named xs v → is_named xs v ≡ true
is_named_lem xs v m = any_in (λ (x : Spotted). eqb (variable x.literal) v) xs nobody m.0 m.1 (eq-eqb (variable_at xs m.0) v m.2)

not_named : (xs : List Spotted) (v : ℕ) → Unnamed xs v → is_named xs v ≡ false
not_named xs v u =
    false_of (is_named xs v)
    (λ e. let w = any_at (λ (x : Spotted). eqb (variable x.literal) v) xs nobody e in u w.0 w.1 (eqb-true (variable_at xs w.0) v w.2))

module _ (n : ℕ) (xs : List Spotted) (named : AllNamed xs) (fit : AllFit n xs) where
  pub unset_unnamed : (b : List ℕ) → unset_count n (assigned_bytes n xs (overwritten n 2 b)) ≡ unnamed_count n xs
  unfolding unset_count unnamed_count
  unset_unnamed b = sum_ext n _ _ (λ i h. one (suc i) (omega arith) h)
    where
      after : List ℕ
      after = assigned_bytes n xs (overwritten n 2 b)

      one : (v : ℕ) → 0 < v → v ≤ n → ◌≡◌ {A = ℕ} (cond (eqb (get_or after (v - 1) 0) 2) 1 0) (cond (is_named xs v) 0 1)
      one v p h =
          ⊎_elim (λ (m : Named xs v).
          ap (λ (d : Bool). cond d 1 0) (ne_eqb (get_or after (v - 1) 0) 2 (λ e. value_not_two (literal_at xs m.0) (given m ∙ e)))
          ∙ sym (ap (λ (d : Bool). cond d 0 1) (is_named_lem xs v m)))
          (λ (u : Unnamed xs v).
          ap (λ (d : Bool). cond d 1 0) (eq-eqb (get_or after (v - 1) 0) 2 (unnamed_value n xs b named v p h u))
          ∙ sym (ap (λ (d : Bool). cond d 0 1) (not_named xs v u))) (named_or_not xs v)
        where
          given : (m : Named xs v) → literal_value (literal_at xs m.0) ≡ get_or after (v - 1) 0
          given m = sym (named_value n xs b named fit m.0 m.1) ∙ ap (λ (u : ℕ). get_or after (u - 1) 0) m.2

  pub unnamed_rest : unnamed_count n xs + length xs ≡ n
  unfolding unnamed_count
  unnamed_rest =
      others (λ (x : Spotted). variable x.literal) nobody n xs (record { positive = named; within = λ j h. (fit j h).0; apart = λ j h. (fit j h).1 })
