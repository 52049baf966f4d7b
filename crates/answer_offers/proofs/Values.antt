-- The values that an answer's literals xs give the variables 1 to n (document 01, "Check and filling out"; document 02, Q-3).
--   any_outcome, any_bytes        the outcome and the first n bytes do not depend on the buffer; the bytes after them stay
--   bytes_unique                  values are told apart by their bytes
--   values_length, values_complete    where each literal is fit, `values_of n xs` is the completed assignment
--   values_alone                  the first n bytes, completed, are these values
--   values_unique                 and no other n values complete the literals
-- Assumes nothing.
use Prim.Native.Nat.{ℕ, zero, suc, ◌-◌, ◌≤◌, ◌<◌}
use native.Mathlib.Nat.{le_of_eq}
use native.Mathlib.Omega.{arith}
use mathlib.Core.Path.{◌≡◌, refl, sym, ◌∙◌, ap, ap₂, subst}
use mathlib.Core.Logic.{◌⊎◌, inl, inr}
use mathlib.Core.Bool.{Bool, true, false, not, So, cond, false≢true}
use mathlib.Core.List.{List, [], ◌∷◌, ◌++◌, map}
use lib.Dec.{eqb, ltb}
use lib.ListN.{length, get_or, set, drop, replicate, length-map, length-set, length-replicate, get_or-replicate, get_or-append}
use lib.Seq.{ext_get_or, set-append_left}
use borrow.Author.Tests.{eqb-true, eq-eqb, ltb-false, not-true}
use Rattle.lists.specs.Lists.{any}
use Rattle.lists.proofs.Bools.{false_of}
use Rattle.lists.proofs.Tests.{any_at, any_in}
use Rattle.lists.proofs.Tables.{length_tab, get_or_tab, get_d_map}
use Rattle.encoding.specs.Literal.{Literal, variable, Assignment, value_of, literal_true}
use Literal.{var, −◌}
use Rattle.answer_form.specs.Pieces.{Spotted}
use Rattle.answer_bytes.specs.Bytes.{Outcome, put_outcome, put_bytes, completed_byte, completed, overwritten}
use Rattle.answer_values.specs.Assign.{literal_value as byte_of, nobody, literal_at, variable_at, Named, Unnamed, then_outcome, then_bytes, assigned_of, assigned_bytes}
use Rattle.answer_values.proofs.Steps.{AllNamed, byte_kept, byte_given, rest_kept}
use Rattle.answer_values.specs.Rows.{AllFit}
use Rattle.answer_values.proofs.Rows.{done_assigned, named_or_not}
use Rattle.answer_offers.specs.Offered.{value_bytes, is_positive, values_of, LiteralsTrue, Completes}

-- ---- the bytes after the first n

module _ (n : ℕ) (d : List ℕ) where
  put_front : (v s x : ℕ) (c : List ℕ) → 0 < v → length c ≡ n → (put_outcome n v s (c ++ d) ≡ put_outcome n v s c) × (put_bytes n v x (c ++ d) ≡ put_bytes n v x c ++ d)
  unfolding put_outcome put_bytes
  put_front v s x c p e = go (ltb n v) refl
    where
      go : (a : Bool) → ltb n v ≡ a
          → (cond a (Outcome.stray s) (cond (eqb (get_or (c ++ d) (v - 1) 0) 2) Outcome.done (Outcome.repeated s))
          ≡ cond a (Outcome.stray s) (cond (eqb (get_or c (v - 1) 0) 2) Outcome.done (Outcome.repeated s)))
          × (cond a (c ++ d) (cond (eqb (get_or (c ++ d) (v - 1) 0) 2) (set (c ++ d) (v - 1) x) (c ++ d))
          ≡ cond a c (cond (eqb (get_or c (v - 1) 0) 2) (set c (v - 1) x) c) ++ d)
      go true f = (refl, refl)
      go false f =
          let inside : v - 1 < length c = omega (arith, p, e, ltb-false n v f) in
          let at = get_or-append c d 0 (v - 1) inside in (
            ap (λ (y : ℕ). cond (eqb y 2) Outcome.done (Outcome.repeated s)) at,
            ap₂ (λ (y : ℕ) (u : List ℕ). cond (eqb y 2) u (c ++ d)) at (set-append_left c d (v - 1) x inside) ∙ same (eqb (get_or c (v - 1) 0) 2),
          )
        where
          same : (a : Bool) → cond a (set c (v - 1) x ++ d) (c ++ d) ≡ cond a (set c (v - 1) x) c ++ d
          same true = refl
          same false = refl

  put_length : (v x : ℕ) (c : List ℕ) → length (put_bytes n v x c) ≡ length c
  unfolding put_bytes
  put_length v x c = go (ltb n v) (eqb (get_or c (v - 1) 0) 2)
    where
      go : (a e : Bool) → length (cond a c (cond e (set c (v - 1) x) c)) ≡ length c
      go true e = refl
      go false true = length-set c (v - 1) x
      go false false = refl

  then_front : (o : Outcome) (later c : List ℕ) → then_bytes o (later ++ d) (c ++ d) ≡ then_bytes o later c ++ d
  then_front Outcome.done later c = refl
  then_front (Outcome.stray s) later c = refl
  then_front (Outcome.repeated s) later c = refl

  front : (xs : List Spotted) (c : List ℕ) → AllNamed xs → length c ≡ n
      → (assigned_of n xs (c ++ d) ≡ assigned_of n xs c) × (assigned_bytes n xs (c ++ d) ≡ assigned_bytes n xs c ++ d)
  front [] c named e = (refl, refl)
  front (x ∷ xs) c named e =
      let v = variable x.literal in
      let w = byte_of x.literal in
      let o = put_outcome n v x.first c in
      let p = put_front v x.first w c (named 0 (omega arith)) e in
      let r = front xs (put_bytes n v w c) (λ k q. named (suc k) (omega (arith, q))) (put_length v w c ∙ e) in (
        ap₂ (λ (y : Outcome) (u : List ℕ). then_outcome y (assigned_of n xs u)) p.0 p.1 ∙ ap (then_outcome o) r.0,
        ap₂ (λ (y : Outcome) (u : List ℕ). then_bytes y (assigned_bytes n xs u) (c ++ d)) p.0 p.1
            ∙ ap (λ (u : List ℕ). then_bytes o u (c ++ d)) r.1 ∙ then_front o (assigned_bytes n xs (put_bytes n v w c)) c,
      )

-- ---- values and bytes

-- the byte that a true literal gives is its variable's value
true_byte : (A : Assignment) (l : Literal) → So (literal_true A l) → byte_of l ≡ cond (A (variable l)) 1 0
true_byte A (var v) t = sym (ap (λ (x : Bool). cond x 1 0) t)
true_byte A (− v) t = sym (ap (λ (x : Bool). cond x 1 0) (not-true (A v) t))

-- it is not 2
same_byte : (l : Literal) → completed_byte (byte_of l) ≡ byte_of l
same_byte (var v) = refl
same_byte (− v) = refl

positive_is : (v : ℕ) (l : Literal) → So (is_positive v l) → (variable l ≡ v) × (byte_of l ≡ 1)
positive_is v (var u) t = (eqb-true u v t, refl)
positive_is v (− u) t = absurd (false≢true t)

bytes_back : (bs : List Bool) → map (λ x. eqb x 1) (value_bytes bs) ≡ bs
bytes_back [] = refl
bytes_back (true ∷ bs) = ap (λ (cs : List Bool). true ∷ cs) (bytes_back bs)
bytes_back (false ∷ bs) = ap (λ (cs : List Bool). false ∷ cs) (bytes_back bs)

pub bytes_unique : (bs cs : List Bool) → value_bytes bs ≡ value_bytes cs → bs ≡ cs
bytes_unique bs cs e = sym (bytes_back bs) ∙ ap (map (λ x. eqb x 1)) e ∙ bytes_back cs

pub values_length : (n : ℕ) (xs : List Spotted) → length (values_of n xs) ≡ n
unfolding values_of
values_length n xs = length_tab n _

value_at : (n : ℕ) (xs : List Spotted) (v : ℕ) → 0 < v → v ≤ n → value_of (values_of n xs) v ≡ any (λ (x : Spotted). is_positive v x.literal) xs
unfolding value_of values_of
value_at n xs zero p h = absurd (omega (arith, p))
value_at n xs (suc v) p h = get_or_tab n (λ u. any (λ (x : Spotted). is_positive u x.literal) xs) false v h

-- ---- the literals xs

module _ (n : ℕ) (xs : List Spotted) (named : AllNamed xs) where
  -- the first n bytes, from no values on
  abbrev alone : List ℕ
  alone = assigned_bytes n xs (replicate n 2)

  pub any_outcome : (b : List ℕ) → assigned_of n xs (overwritten n 2 b) ≡ assigned_of n xs (replicate n 2)
  unfolding overwritten
  any_outcome b = (front n (drop n b) xs (replicate n 2) named (length-replicate n 2)).0

  pub any_bytes : (b : List ℕ) → assigned_bytes n xs (overwritten n 2 b) ≡ assigned_bytes n xs (replicate n 2) ++ drop n b
  unfolding overwritten
  any_bytes b = (front n (drop n b) xs (replicate n 2) named (length-replicate n 2)).1

  module _ (fit : AllFit n xs) where
    alone_length : length alone ≡ n
    alone_length = (rest_kept n xs (replicate n 2) named).1 ∙ length-replicate n 2

    alone_byte : (k : ℕ) → k < length xs → get_or alone (variable_at xs k - 1) 0 ≡ byte_of (literal_at xs k)
    alone_byte =
        byte_given n xs (replicate n 2) (le_of_eq (sym (length-replicate n 2))) named (sym (any_outcome []) ∙ done_assigned n xs [] named fit) (λ j h. (fit j h).1)

    -- the byte of a variable that no literal names
    alone_none : (v : ℕ) → 0 < v → v ≤ n → Unnamed xs v → get_or alone (v - 1) 0 ≡ 2
    alone_none v p h u = byte_kept n xs (replicate n 2) v named p u ∙ get_or-replicate n (v - 1) 2 0 (omega (arith, p, h))

    completed_are : (bs : List Bool) → Completes n xs bs → completed alone ≡ value_bytes bs
    unfolding value_of
    completed_are bs C =
        ext_get_or 0 (completed alone) (value_bytes bs) (length-map alone completed_byte ∙ alone_length ∙ sym (length-map bs (λ b. cond b 1 0) ∙ C.sized))
        (λ i h. at i (subst (λ (m : ℕ). i < m) (length-map alone completed_byte ∙ alone_length) h))
      where
        -- by the byte of variable i + 1
        value : (i : ℕ) → i < n → Named xs (suc i) ⊎ Unnamed xs (suc i) → completed_byte (get_or alone i 0) ≡ cond (value_of bs (suc i)) 1 0
        value i h (inl w) =
            let place : i ≡ variable_at xs w.0 - 1 = omega (arith, w.2) in
            ap completed_byte (ap (λ (j : ℕ). get_or alone j 0) place ∙ alone_byte w.0 w.1) ∙ same_byte (literal_at xs w.0)
            ∙ true_byte (value_of bs) (literal_at xs w.0) (C.each_true_lem w.0 w.1) ∙ ap (λ (v : ℕ). cond (value_of bs v) 1 0) w.2
        value i h (inr u) =
            let place : i ≡ suc i - 1 = omega arith in
            ap completed_byte (ap (λ (j : ℕ). get_or alone j 0) place ∙ alone_none (suc i) (omega arith) h u) ∙ sym (ap (λ (x : Bool). cond x 1 0) (C.unnamed_false (suc i) (omega arith) h u))

        at : (i : ℕ) → i < n → get_or (completed alone) i 0 ≡ get_or (value_bytes bs) i 0
        at i h =
            get_d_map completed_byte alone 0 0 i (subst (λ (m : ℕ). i < m) (sym alone_length) h) ∙ value i h (named_or_not xs (suc i))
            ∙ sym (get_d_map (λ b. cond b 1 0) bs false 0 i (subst (λ (m : ℕ). i < m) (sym C.sized) h))

    values_true : LiteralsTrue xs (values_of n xs)
    values_true k h = go (literal_at xs k) refl
      where
        is : (v : ℕ) → variable_at xs k ≡ v → value_of (values_of n xs) v ≡ any (λ (x : Spotted). is_positive v x.literal) xs
        is v e = value_at n xs v (omega (arith, e, named k h)) (omega (arith, e, (fit k h).0))

        -- its positive literal would give another byte
        not_both : (v : ℕ) → literal_at xs k ≡ − v → So (any (λ (x : Spotted). is_positive v x.literal) xs) → ⊥
        not_both v e s =
            let w = any_at (λ (x : Spotted). is_positive v x.literal) xs nobody s in
            let p = positive_is v (literal_at xs w.0) w.2 in
            let one : get_or alone (v - 1) 0 ≡ 1 = ap (λ (u : ℕ). get_or alone (u - 1) 0) (sym p.0) ∙ alone_byte w.0 w.1 ∙ p.1 in
            let nil : get_or alone (v - 1) 0 ≡ 0 = ap (λ (l : Literal). get_or alone (variable l - 1) 0) (sym e) ∙ alone_byte k h ∙ ap byte_of e in
            omega (arith, one, nil)

        go : (l : Literal) → literal_at xs k ≡ l → So (literal_true (value_of (values_of n xs)) (literal_at xs k))
        go (var v) e =
            ap (literal_true (value_of (values_of n xs))) e ∙ is v (ap variable e)
            ∙ any_in (λ (x : Spotted). is_positive v x.literal) xs nobody k h (ap (is_positive v) e ∙ eq-eqb v v refl)
        go (− v) e =
            ap (literal_true (value_of (values_of n xs))) e
            ∙ ap not (is v (ap variable e) ∙ false_of (any (λ (x : Spotted). is_positive v x.literal) xs) (not_both v e))

    pub values_complete : Completes n xs (values_of n xs)
    values_complete = record { sized = values_length n xs; each_true_lem = values_true; unnamed_false = unnamed }
      where
        unnamed : (v : ℕ) → 0 < v → v ≤ n → Unnamed xs v → value_of (values_of n xs) v ≡ false
        unnamed v p h u =
            value_at n xs v p h
            ∙ false_of (any (λ (x : Spotted). is_positive v x.literal) xs)
            (λ s.
            let w = any_at (λ (x : Spotted). is_positive v x.literal) xs nobody s in
            u w.0 w.1 (positive_is v (literal_at xs w.0) w.2).0)

    -- from no values on
    pub values_alone : completed (assigned_bytes n xs (replicate n 2)) ≡ value_bytes (values_of n xs)
    values_alone = completed_are (values_of n xs) values_complete

    pub values_unique : (bs : List Bool) → Completes n xs bs → bs ≡ values_of n xs
    values_unique bs C = bytes_unique bs (values_of n xs) (sym (completed_are bs C) ∙ values_alone)
