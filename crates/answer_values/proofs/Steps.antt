-- The outcome and the buffer of a list of literals that is assigned, by its places.
--   AllNamed xs           each literal of xs is of a variable from 1 on
--   Good n seen xs j      the literal at place j is of a variable up to n that is not seen and that no literal before it names
--   State n seen b        the variables that have a value in b are those that are seen
--   Says n seen xs o      what the outcome o says
--   says                  `assigned_of` gives it
--   value_not_two         no literal gives the value 2
--   byte_kept             the byte of a variable that no literal names stays
--   byte_given            where all are done, the byte of a variable is the value of the literal that names it
--   rest_kept             the bytes from n on stay, and the length
-- Assumes nothing.
use Prim.Native.Nat.{ℕ, zero, suc, ◌-◌, ◌≤◌, ◌<◌}
use native.Mathlib.Nat.{le_of_suc-le-suc}
use native.Mathlib.Omega.{arith}
use mathlib.Core.Path.{◌≡◌, refl, sym, ◌∙◌, ap, subst}
use mathlib.Core.Logic.{◌⊎◌, inl, inr}
use mathlib.Core.Bool.{Bool, true, false, ◌||◌, true≢false}
use mathlib.Core.List.{List, [], ◌∷◌}
use lib.Dec.{eqb, ltb}
use lib.ListN.{length, get_or, set, drop, length-set}
use lib.Seq.{get_or-set_same, get_or-set_other, drop-set-lt}
use borrow.Author.Tests.{eqb-true, eqb-false, ltb-true, ltb-false}
use Rattle.lists.proofs.Bools.{or_neither}
use Rattle.encoding.specs.Literal.{Literal, variable}
use Literal.{var, −◌}
use Rattle.answer_form.specs.Pieces.{Spotted}
use Rattle.answer_bytes.specs.Bytes.{Outcome, put_outcome, put_bytes}
use Rattle.answer_values.specs.Assign.{literal_value, literal_at, variable_at, spot_at, Unnamed, then_outcome, then_bytes, assigned_of, assigned_bytes}
use Rattle.answer_values.specs.Rows.{New, Old}

-- ---- places

abbrev pub AllNamed : List Spotted → Type 0
AllNamed xs = (k : ℕ) → k < length xs → 0 < variable_at xs k

abbrev pub Good : ℕ → (ℕ → Bool) → List Spotted → ℕ → Type 0
Good n seen xs j = (variable_at xs j ≤ n) × (seen (variable_at xs j) ≡ false) × New xs j

pub record State (n : ℕ) (seen : ℕ → Bool) (b : List ℕ) : Type 0 where
  pub room : n ≤ length b
  pub unseen : (v : ℕ) → 0 < v → v ≤ n → seen v ≡ false → get_or b (v - 1) 0 ≡ 2
  pub taken : (v : ℕ) → 0 < v → v ≤ n → seen v ≡ true → get_or b (v - 1) 0 ≡ 2 → ⊥

pub data Says (n : ℕ) (seen : ℕ → Bool) (xs : List Spotted) : Outcome → Type 0 where
  all_good : ((j : ℕ) → j < length xs → Good n seen xs j) → Says n seen xs Outcome.done
  a_stray : (k : ℕ) → k < length xs → n < variable_at xs k → ((j : ℕ) → j < k → Good n seen xs j) → Says n seen xs (Outcome.stray (spot_at xs k))
  a_repeated : (k : ℕ) → k < length xs → variable_at xs k ≤ n → (seen (variable_at xs k) ≡ true) ⊎ Old xs k → ((j : ℕ) → j < k → Good n seen xs j)
      → Says n seen xs (Outcome.repeated (spot_at xs k))

-- ---- one literal

data Put (n v s x : ℕ) (b : List ℕ) : Type 0 where
  is_stray : n < v → put_outcome n v s b ≡ Outcome.stray s → put_bytes n v x b ≡ b → Put n v s x b
  is_repeated : v ≤ n → (get_or b (v - 1) 0 ≡ 2 → ⊥) → put_outcome n v s b ≡ Outcome.repeated s → put_bytes n v x b ≡ b → Put n v s x b
  is_done : v ≤ n → get_or b (v - 1) 0 ≡ 2 → put_outcome n v s b ≡ Outcome.done → put_bytes n v x b ≡ set b (v - 1) x → Put n v s x b

put_cases : (n v s x : ℕ) (b : List ℕ) → Put n v s x b
unfolding put_outcome put_bytes
put_cases n v s x b = go (ltb n v) refl (eqb (get_or b (v - 1) 0) 2) refl
  where
    go : (c : Bool) → ltb n v ≡ c → (d : Bool) → eqb (get_or b (v - 1) 0) 2 ≡ d → Put n v s x b
    go true e d f = Put.is_stray (ltb-true n v e) (rw e) (rw e)
    go false e true f = Put.is_done (ltb-false n v e) (eqb-true (get_or b (v - 1) 0) 2 f) (rw (e, f)) (rw (e, f))
    go false e false f = Put.is_repeated (ltb-false n v e) (eqb-false (get_or b (v - 1) 0) 2 f) (rw (e, f)) (rw (e, f))

pub value_not_two : (l : Literal) → literal_value l ≡ 2 → ⊥
value_not_two (var v) e = omega (arith, e)
value_not_two (− v) e = omega (arith, e)

-- the byte of another variable
other_byte : (b : List ℕ) (v u x : ℕ) → 0 < v → 0 < u → (v ≡ u → ⊥) → get_or (set b (v - 1) x) (u - 1) 0 ≡ get_or b (u - 1) 0
other_byte b v u x h g d = get_or-set_other b (v - 1) (u - 1) x 0 (λ e. d (omega (arith, h, g, e)))

-- ---- what is seen

-- v too
abbrev also : ℕ → (ℕ → Bool) → ℕ → Bool
also v seen u = eqb v u || seen u

one_of : (a b : Bool) → (a || b) ≡ true → (a ≡ true) ⊎ (b ≡ true)
one_of true b e = inl refl
one_of false b e = inr e

state_more : (n : ℕ) (seen : ℕ → Bool) (b : List ℕ) (v x : ℕ) → State n seen b → 0 < v → v ≤ n → (x ≡ 2 → ⊥) → State n (also v seen) (set b (v - 1) x)
state_more n seen b v x st p h d =
    record {
      room = subst (λ (k : ℕ). n ≤ k) (sym (length-set b (v - 1) x)) st.room;
      unseen = λ u q g e.
          let s = or_neither (eqb v u) (seen u) e in
          other_byte b v u x p q (eqb-false v u s.0) ∙ st.unseen u q g s.1;
      taken = λ u q g e f. go u q g f (eqb v u) refl (one_of (eqb v u) (seen u) e);
    }
  where
    go : (u : ℕ) → 0 < u → u ≤ n → get_or (set b (v - 1) x) (u - 1) 0 ≡ 2 → (a : Bool) → eqb v u ≡ a → (eqb v u ≡ true) ⊎ (seen u ≡ true) → ⊥
    go u q g f true a o =
        d (sym (get_or-set_same b (v - 1) x 0 (omega (arith, st.room, p, h))) ∙ ap (λ (k : ℕ). get_or (set b (v - 1) x) (k - 1) 0) (eqb-true v u a) ∙ f)
    go u q g f false a (inl o) = true≢false (sym o ∙ a)
    go u q g f false a (inr o) = st.taken u q g o (sym (other_byte b v u x p q (eqb-false v u a)) ∙ f)

-- ---- one place more

module _ (n : ℕ) (seen : ℕ → Bool) (x : Spotted) (xs : List Spotted) where
  new_later : (j : ℕ) → (variable x.literal ≡ variable_at xs j → ⊥) → New xs j → New (x ∷ xs) (suc j)
  new_later j d g zero h e = d e
  new_later j d g (suc i) h e = g i (le_of_suc-le-suc h) e

  good_later : (j : ℕ) → Good n (also (variable x.literal) seen) xs j → Good n seen (x ∷ xs) (suc j)
  good_later j g =
      let s = or_neither (eqb (variable x.literal) (variable_at xs j)) (seen (variable_at xs j)) g.1 in
      (g.0, s.1, new_later j (eqb-false (variable x.literal) (variable_at xs j) s.0) g.2)

  good_to : variable x.literal ≤ n → seen (variable x.literal) ≡ false → (k : ℕ) → ((j : ℕ) → j < k → Good n (also (variable x.literal) seen) xs j)
      → (j : ℕ) → j < suc k → Good n seen (x ∷ xs) j
  good_to h e k f zero g = (h, e, λ i q. absurd (omega (arith, q)))
  good_to h e k f (suc j) g = good_later j (f j (le_of_suc-le-suc g))

  old_later : (k : ℕ) → (also (variable x.literal) seen (variable_at xs k) ≡ true) ⊎ Old xs k → (seen (variable_at xs k) ≡ true) ⊎ Old (x ∷ xs) (suc k)
  old_later k (inl e) = go (one_of (eqb (variable x.literal) (variable_at xs k)) (seen (variable_at xs k)) e)
    where
      go : (eqb (variable x.literal) (variable_at xs k) ≡ true) ⊎ (seen (variable_at xs k) ≡ true) → (seen (variable_at xs k) ≡ true) ⊎ Old (x ∷ xs) (suc k)
      go (inl a) = inr (0, omega arith, eqb-true (variable x.literal) (variable_at xs k) a)
      go (inr a) = inl a
  old_later k (inr o) = inr (suc o.0, omega (arith, o.1), o.2)

  says_later : variable x.literal ≤ n → seen (variable x.literal) ≡ false → (o : Outcome) → Says n (also (variable x.literal) seen) xs o → Says n seen (x ∷ xs) o
  says_later h e o (Says.all_good f) = Says.all_good (good_to h e (length xs) f)
  says_later h e o (Says.a_stray k g a f) = Says.a_stray (suc k) (omega (arith, g)) a (good_to h e k f)
  says_later h e o (Says.a_repeated k g a q f) = Says.a_repeated (suc k) (omega (arith, g)) a (old_later k q) (good_to h e k f)

pub says : (n : ℕ) (xs : List Spotted) (seen : ℕ → Bool) (b : List ℕ) → State n seen b → AllNamed xs → Says n seen xs (assigned_of n xs b)
says n [] seen b st nm = Says.all_good (λ j h. absurd (omega (arith, h)))
says n (x ∷ xs) seen b st nm =
    go (put_cases n v x.first w b) (says n xs (also v seen) (put_bytes n v w b))
  where
    v : ℕ
    v = variable x.literal

    w : ℕ
    w = literal_value x.literal

    positive : 0 < v
    positive = nm 0 (omega arith)

    -- seen or not, by its byte
    free : v ≤ n → get_or b (v - 1) 0 ≡ 2 → (d : Bool) → seen v ≡ d → d ≡ false
    free h e true q = absurd (st.taken v positive h q e)
    free h e false q = refl

    full : v ≤ n → (get_or b (v - 1) 0 ≡ 2 → ⊥) → (d : Bool) → seen v ≡ d → d ≡ true
    full h e true q = refl
    full h e false q = absurd (e (st.unseen v positive h q))

    on : (o : Outcome) → assigned_of n (x ∷ xs) b ≡ o → Says n seen (x ∷ xs) o → Says n seen (x ∷ xs) (assigned_of n (x ∷ xs) b)
    on o e s = subst (Says n seen (x ∷ xs)) (sym e) s

    go : Put n v x.first w b → (State n (also v seen) (put_bytes n v w b) → AllNamed xs → Says n (also v seen) xs (assigned_of n xs (put_bytes n v w b)))
        → Says n seen (x ∷ xs) (assigned_of n (x ∷ xs) b)
    go (Put.is_stray h o c) rest =
        on (Outcome.stray x.first) (ap (λ (u : Outcome). then_outcome u (assigned_of n xs (put_bytes n v w b))) o)
        (Says.a_stray 0 (omega arith) h (λ j q. absurd (omega (arith, q))))
    go (Put.is_repeated h e o c) rest =
        on (Outcome.repeated x.first) (ap (λ (u : Outcome). then_outcome u (assigned_of n xs (put_bytes n v w b))) o)
        (Says.a_repeated 0 (omega arith) h (inl (full h e (seen v) refl)) (λ j q. absurd (omega (arith, q))))
    go (Put.is_done h e o c) rest =
        on (assigned_of n xs (put_bytes n v w b)) (ap (λ (u : Outcome). then_outcome u (assigned_of n xs (put_bytes n v w b))) o)
        (says_later n seen x xs h (free h e (seen v) refl) (assigned_of n xs (put_bytes n v w b))
        (rest (subst (State n (also v seen)) (sym c) (state_more n seen b v w st positive h (value_not_two x.literal))) (λ k q. nm (suc k) (omega (arith, q)))))

-- ---- the buffer

pub byte_kept : (n : ℕ) (xs : List Spotted) (b : List ℕ) (u : ℕ) → AllNamed xs → 0 < u → Unnamed xs u → get_or (assigned_bytes n xs b) (u - 1) 0 ≡ get_or b (u - 1) 0
byte_kept n [] b u nm p f = refl
byte_kept n (x ∷ xs) b u nm p f =
    go (put_cases n (variable x.literal) x.first (literal_value x.literal) b)
    (byte_kept n xs (put_bytes n (variable x.literal) (literal_value x.literal) b) u (λ k q. nm (suc k) (omega (arith, q))) p (λ k q. f (suc k) (omega (arith, q))))
  where
    b' : List ℕ
    b' = put_bytes n (variable x.literal) (literal_value x.literal) b

    go : Put n (variable x.literal) x.first (literal_value x.literal) b → get_or (assigned_bytes n xs b') (u - 1) 0 ≡ get_or b' (u - 1) 0
        → get_or (assigned_bytes n (x ∷ xs) b) (u - 1) 0 ≡ get_or b (u - 1) 0
    go (Put.is_stray h o c) r = ap (λ (q : Outcome). get_or (then_bytes q (assigned_bytes n xs b') b) (u - 1) 0) o
    go (Put.is_repeated h e o c) r = ap (λ (q : Outcome). get_or (then_bytes q (assigned_bytes n xs b') b) (u - 1) 0) o
    go (Put.is_done h e o c) r =
        ap (λ (q : Outcome). get_or (then_bytes q (assigned_bytes n xs b') b) (u - 1) 0) o ∙ r ∙ ap (λ (d : List ℕ). get_or d (u - 1) 0) c
        ∙ other_byte b (variable x.literal) u (literal_value x.literal) (nm 0 (omega arith)) p (f 0 (omega arith))

outcome_kind : Outcome → ℕ
outcome_kind Outcome.done = 0
outcome_kind (Outcome.stray s) = 1
outcome_kind (Outcome.repeated s) = 2

pub byte_given : (n : ℕ) (xs : List Spotted) (b : List ℕ) → n ≤ length b → AllNamed xs → assigned_of n xs b ≡ Outcome.done → ((j : ℕ) → j < length xs → New xs j)
    → (k : ℕ) → k < length xs → get_or (assigned_bytes n xs b) (variable_at xs k - 1) 0 ≡ literal_value (literal_at xs k)
unfolding outcome_kind
byte_given n [] b m nm d f k h = absurd (omega (arith, h))
byte_given n (x ∷ xs) b m nm d f k h =
    go (put_cases n (variable x.literal) x.first (literal_value x.literal) b) (byte_given n xs (put_bytes n (variable x.literal) (literal_value x.literal) b)) k h
  where
    b' : List ℕ
    b' = put_bytes n (variable x.literal) (literal_value x.literal) b

    named : AllNamed xs
    named j q = nm (suc j) (omega (arith, q))

    kind : (o : Outcome) → put_outcome n (variable x.literal) x.first b ≡ o → then_outcome o (assigned_of n xs b') ≡ Outcome.done
    kind o e = ap (λ (q : Outcome). then_outcome q (assigned_of n xs b')) (sym e) ∙ d

    go : Put n (variable x.literal) x.first (literal_value x.literal) b
        → (n ≤ length b' → AllNamed xs → assigned_of n xs b' ≡ Outcome.done → ((j : ℕ) → j < length xs → New xs j) → (k : ℕ) → k < length xs
        → get_or (assigned_bytes n xs b') (variable_at xs k - 1) 0 ≡ literal_value (literal_at xs k))
        → (k : ℕ) → k < suc (length xs) → get_or (assigned_bytes n (x ∷ xs) b) (variable_at (x ∷ xs) k - 1) 0 ≡ literal_value (literal_at (x ∷ xs) k)
    go (Put.is_stray g o c) r k h = absurd (omega (arith, ap outcome_kind (kind (Outcome.stray x.first) o)))
    go (Put.is_repeated g e o c) r k h = absurd (omega (arith, ap outcome_kind (kind (Outcome.repeated x.first) o)))
    go (Put.is_done g e o c) r zero h =
        ap (λ (q : Outcome). get_or (then_bytes q (assigned_bytes n xs b') b) (variable x.literal - 1) 0) o
        ∙ byte_kept n xs b' (variable x.literal) named (nm 0 (omega arith)) (λ j q s. f (suc j) (omega (arith, q)) 0 (omega arith) (sym s))
        ∙ ap (λ (d : List ℕ). get_or d (variable x.literal - 1) 0) c
        ∙ get_or-set_same b (variable x.literal - 1) (literal_value x.literal) 0 (omega (arith, m, g, nm 0 (omega arith)))
    go (Put.is_done g e o c) r (suc k) h =
        ap (λ (q : Outcome). get_or (then_bytes q (assigned_bytes n xs b') b) (variable_at xs k - 1) 0) o
        ∙ r (subst (λ (j : ℕ). n ≤ j) (sym (ap (λ (u : List ℕ). length u) c ∙ length-set b (variable x.literal - 1) (literal_value x.literal))) m) named (kind Outcome.done o)
        (λ j q i s t. f (suc j) (omega (arith, q)) (suc i) (omega (arith, s)) t) k (omega (arith, h))

pub rest_kept : (n : ℕ) (xs : List Spotted) (b : List ℕ) → AllNamed xs → (drop n (assigned_bytes n xs b) ≡ drop n b) × (length (assigned_bytes n xs b) ≡ length b)
rest_kept n [] b nm = (refl, refl)
rest_kept n (x ∷ xs) b nm =
    go (put_cases n (variable x.literal) x.first (literal_value x.literal) b)
    (rest_kept n xs (put_bytes n (variable x.literal) (literal_value x.literal) b) (λ k q. nm (suc k) (omega (arith, q))))
  where
    b' : List ℕ
    b' = put_bytes n (variable x.literal) (literal_value x.literal) b

    is : (o : Outcome) → put_outcome n (variable x.literal) x.first b ≡ o → assigned_bytes n (x ∷ xs) b ≡ then_bytes o (assigned_bytes n xs b') b
    is o e = ap (λ (q : Outcome). then_bytes q (assigned_bytes n xs b') b) e

    go : Put n (variable x.literal) x.first (literal_value x.literal) b → (drop n (assigned_bytes n xs b') ≡ drop n b') × (length (assigned_bytes n xs b') ≡ length b')
        → (drop n (assigned_bytes n (x ∷ xs) b) ≡ drop n b) × (length (assigned_bytes n (x ∷ xs) b) ≡ length b)
    go (Put.is_stray h o c) r = (ap (drop n) (is (Outcome.stray x.first) o), ap (λ (u : List ℕ). length u) (is (Outcome.stray x.first) o))
    go (Put.is_repeated h e o c) r = (ap (drop n) (is (Outcome.repeated x.first) o), ap (λ (u : List ℕ). length u) (is (Outcome.repeated x.first) o))
    go (Put.is_done h e o c) r = (
      ap (drop n) (is Outcome.done o) ∙ r.0 ∙ ap (drop n) c ∙ drop-set-lt n b (variable x.literal - 1) (literal_value x.literal) (omega (arith, h, nm 0 (omega arith))),
      ap (λ (u : List ℕ). length u) (is Outcome.done o) ∙ r.1 ∙ ap (λ (u : List ℕ). length u) c ∙ length-set b (variable x.literal - 1) (literal_value x.literal),
    )
