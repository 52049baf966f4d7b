-- The meaning of a comparison chain (group 5) and of a successor (group 4), over any width.
--   chain_iff       the clauses of a chain hold exactly if each z i compares the lowest i bits of x and y
--   successor_iff   the clauses of a successor hold exactly if u is v + 1 modulo 2^w
-- Assumes nothing.
use Prim.Native.Nat.{ℕ, zero, suc, pred, ◌+◌, ◌*◌, ◌^◌, ◌%◌, ◌<◌}
use native.Mathlib.Nat.{not-suc-le-zero, le_of_suc-le-suc, mod-eq_of_lt, add-mod_right, add-zero, pow-succ'}
use native.Mathlib.Omega.{arith}
use mathlib.Core.Path.{◌≡◌, refl, sym, ◌∙◌, ap, ap₂, subst}
use mathlib.Core.Logic.{◌↔◌}
use mathlib.Core.Bool.{Bool, true, false, not, ◌&&◌, ◌||◌, So, cond, beq}
use mathlib.Core.List.{List, [], ◌∷◌, ◌++◌}
use lib.Dec.{ltb, eqb}
use borrow.Author.Tests.{lt-ltb, le-ltb, ltb-true, ne_eqb, not-true}
use Rattle.lists.specs.Lists.{all_to, tab, each}
use Rattle.lists.proofs.Bools.{and_in, and_left, and_right, beq_eq, eq_beq, same}
use Rattle.lists.proofs.Tests.{all_to_at, all_to_in, all_to_ext, all_each, all_append, any_append, any_tab, any_to_not, all_to_or, up_to_lem}
use Rattle.encoding.specs.Literal.{Literal, var, −◌, Assignment, literal_true, clause_true, all_true}
use Rattle.encoding.specs.Counter.{value, chain, chain_at, successor, successor_at, keeps_clauses, flips_clauses}
use Rattle.theory.proofs.Bits.{value_lt, value_ext, value_inj}

-- ---- chains

-- a comparison, from that of the lower bits and the two top bits
abbrev step : Bool → Bool → Bool → Bool
step true true g = g
step true false g = false
step false true g = true
step false false g = g

less_same : (a b c d : ℕ) → (a < b → c < d) → (c < d → a < b) → ltb a b ≡ ltb c d
less_same a b c d f g = same (ltb a b) (ltb c d) (λ t. lt-ltb c d (f (ltb-true a b t))) (λ t. lt-ltb a b (g (ltb-true c d t)))

less_step : (X Y : ℕ → Bool) (i : ℕ) → ltb (value X (suc i)) (value Y (suc i)) ≡ step (X (suc i)) (Y (suc i)) (ltb (value X i) (value Y i))
less_step X Y i = go (X (suc i)) (Y (suc i)) (value X i) (value Y i) (2 ^ i) (value_lt X i) (value_lt Y i)
  where
    go : (x y : Bool) (a b p : ℕ) → a < p → b < p → ltb (a + cond x p 0) (b + cond y p 0) ≡ step x y (ltb a b)
    go true true a b p g h = less_same (a + p) (b + p) a b (λ k. omega arith) (λ k. omega arith)
    go true false a b p g h = le-ltb (a + p) (b + 0) (omega arith)
    go false true a b p g h = lt-ltb (a + 0) (b + p) (omega arith)
    go false false a b p g h = less_same (a + 0) (b + 0) a b (λ k. omega arith) (λ k. omega arith)

three : (z x y : Bool) → ((not z || (not x || false)) && ((not z || (y || false)) && ((z || (x || (not y || false))) && true))) ≡ beq z (step x y false)
three true true true = refl
three true true false = refl
three true false true = refl
three true false false = refl
three false true true = refl
three false true false = refl
three false false true = refl
three false false false = refl

six : (z x y g : Bool)
    → ((not z || (not x || (y || false))) && ((not z || (not x || (g || false))) && ((not z || (y || (g || false)))
    && ((z || (x || (not y || false))) && ((z || (x || (not g || false))) && ((z || (not y || (not g || false))) && true))))))
    ≡ beq z (step x y g)
six true true true true = refl
six true true true false = refl
six true true false true = refl
six true true false false = refl
six true false true true = refl
six true false true false = refl
six true false false true = refl
six true false false false = refl
six false true true true = refl
six false true true false = refl
six false true false true = refl
six false true false false = refl
six false false true true = refl
six false false true false = refl
six false false false true = refl
six false false false false = refl

module _ (A : Assignment) where
  -- the clauses of bit i, from the chain's value below it
  abbrev lower : (ℕ → ℕ) → ℕ → Bool
  lower z zero = false
  lower z (suc i) = A (z (suc i))

  chain_bit_lem : (z x y : ℕ → ℕ) (i : ℕ) → all_true A (chain_at z x y (suc i)) ≡ beq (A (z (suc i))) (step (A (x (suc i))) (A (y (suc i))) (lower z i))
  chain_bit_lem z x y zero = three (A (z 1)) (A (x 1)) (A (y 1))
  chain_bit_lem z x y (suc i) = six (A (z (suc (suc i)))) (A (x (suc (suc i)))) (A (y (suc (suc i)))) (A (z (suc i)))

  -- the bits of a counter whose variables are x
  abbrev pub bits : (ℕ → ℕ) → ℕ → Bool
  bits x i = A (x i)

  -- what a chain says of its bit i
  abbrev pub Compares : (z x y : ℕ → ℕ) → ℕ → Type 0
  Compares z x y i = A (z i) ≡ ltb (value (bits x) i) (value (bits y) i)

  chain_true_lem : (w : ℕ) (z x y : ℕ → ℕ) → So (all_true A (chain w z x y)) ↔ ((i : ℕ) → i < w → So (all_true A (chain_at z x y (suc i))))
  unfolding chain
  chain_true_lem w z x y = (
    λ t. all_to_at w (λ i. all_true A (chain_at z x y i)) (sym (all_each (clause_true A) w (chain_at z x y)) ∙ t),
    λ f. all_each (clause_true A) w (chain_at z x y) ∙ all_to_in w (λ i. all_true A (chain_at z x y i)) f,
  )

  lower_is : (z x y : ℕ → ℕ) (i : ℕ) → ((j : ℕ) → j < i → Compares z x y (suc j)) → lower z i ≡ ltb (value (bits x) i) (value (bits y) i)
  lower_is z x y zero f = refl
  lower_is z x y (suc i) f = f i (omega arith)

  compares : (w : ℕ) (z x y : ℕ → ℕ) → ((i : ℕ) → i < w → So (all_true A (chain_at z x y (suc i)))) → (i : ℕ) → i < w → Compares z x y (suc i)
  compares zero z x y f i h = absurd (not-suc-le-zero h)
  compares (suc w) z x y f i h =
      let below = compares w z x y (λ i h. f i (omega arith)) in
      up_to_lem (λ i. Compares z x y (suc i)) w below
      (beq_eq (A (z (suc w))) _ (sym (chain_bit_lem z x y w) ∙ f w (omega arith))
      ∙ ap (step (A (x (suc w))) (A (y (suc w)))) (lower_is z x y w below) ∙ sym (less_step (bits x) (bits y) w)) i h

  pub chain_iff : (w : ℕ) (z x y : ℕ → ℕ) → So (all_true A (chain w z x y)) ↔ ((i : ℕ) → i < w → Compares z x y (suc i))
  chain_iff w z x y = (
    λ t. compares w z x y ((chain_true_lem w z x y).0 t),
    λ f. (chain_true_lem w z x y).1 (λ i h. chain_bit_lem z x y i ∙ eq_beq (A (z (suc i))) _
        (f i h ∙ less_step (bits x) (bits y) i ∙ ap (step (A (x (suc i))) (A (y (suc i)))) (sym (lower_is z x y i (λ j g. f j (omega arith)))))),
  )

-- ---- successors

-- a bit of the successor, from the carry and the bit
abbrev flip : Bool → Bool → Bool
flip true v = not v
flip false v = v

four : (c x y : Bool)
    → ((c || beq x y) && ((not c || (not x || (not y || false))) && ((not c || (x || (y || false))) && true))) ≡ beq x (flip c y)
four true true true = refl
four true true false = refl
four true false true = refl
four true false false = refl
four false true true = refl
four false true false = refl
four false false true = refl
four false false false = refl

module _ (A : Assignment) (u v : ℕ → ℕ) where
  same_bits : (c x y : Bool) → ((c || (not x || (y || false))) && ((c || (x || (not y || false))) && true)) ≡ (c || beq x y)
  same_bits true true true = refl
  same_bits true true false = refl
  same_bits true false true = refl
  same_bits true false false = refl
  same_bits false true true = refl
  same_bits false true false = refl
  same_bits false false true = refl
  same_bits false false false = refl

  successor_bit : (i : ℕ) → all_true A (successor_at u v (suc i)) ≡ beq (A (u (suc i))) (flip (all_to i (bits A v)) (A (v (suc i))))
  successor_bit i =
      all_append (clause_true A) (each i (keeps_clauses u v (suc i))) (flips_clauses u v (suc i))
      ∙ ap₂ ◌&&◌
      (all_each (clause_true A) i (keeps_clauses u v (suc i)) ∙ all_to_ext i _ (λ j. bits A v j || beq (A (u (suc i))) (A (v (suc i)))) (λ j h. same_bits (A (v (suc j))) (A (u (suc i))) (A (v (suc i))))
      ∙ all_to_or i (bits A v) _)
      (ap₂ (λ a b. a && (b && true)) (last (− u (suc i) ∷ − v (suc i) ∷ [])) (last (var (u (suc i)) ∷ var (v (suc i)) ∷ [])))
      ∙ four (all_to i (bits A v)) (A (u (suc i))) (A (v (suc i)))
    where
      last : (ls : List Literal) → clause_true A (tab i (λ j. − v j) ++ ls) ≡ (not (all_to i (bits A v)) || clause_true A ls)
      last ls =
          any_append (literal_true A) (tab i (λ j. − v j)) ls
          ∙ ap (λ b. b || clause_true A ls) (any_tab (literal_true A) i (λ j. − v j) ∙ any_to_not i (bits A v))

-- each bit flips under a carry out of all the bits below it
abbrev Flips : (ℕ → Bool) → (ℕ → Bool) → ℕ → Type 0
Flips U V' w = (i : ℕ) → i < w → U (suc i) ≡ flip (all_to i V') (V' (suc i))

-- the number grows by one, but for the carry out of the top
carry : (U V' : ℕ → Bool) (w : ℕ) → Flips U V' w → value U w + cond (all_to w V') (2 ^ w) 0 ≡ value V' w + 1
carry U V' zero f = refl
carry U V' (suc w) f =
    go (all_to w V') (V' (suc w)) (U (suc w)) (value U w) (value V' w) (2 ^ w) (2 ^ suc w) (pow-succ' 2 w) (f w (omega arith)) (carry U V' w (λ i h. f i (omega arith)))
  where
    go : (c v u : Bool) (x y p q : ℕ) → q ≡ 2 * p → u ≡ flip c v → x + cond c p 0 ≡ y + 1
        → x + cond u p 0 + cond (c && v) q 0 ≡ y + cond v p 0 + 1
    go c v u x y p q d e h = subst (λ (u : Bool). x + cond u p 0 + cond (c && v) q 0 ≡ y + cond v p 0 + 1) (sym e) (cases c v h)
      where
        cases : (c v : Bool) → x + cond c p 0 ≡ y + 1 → x + cond (flip c v) p 0 + cond (c && v) q 0 ≡ y + cond v p 0 + 1
        cases true true h = omega arith
        cases true false h = omega arith
        cases false true h = omega arith
        cases false false h = omega arith

flips_value : (U V' : ℕ → Bool) (w : ℕ) → Flips U V' w → value U w ≡ (value V' w + 1) % 2 ^ w
flips_value U V' w f = go (all_to w V') (carry U V' w f)
  where
    go : (c : Bool) → value U w + cond c (2 ^ w) 0 ≡ value V' w + 1 → value U w ≡ (value V' w + 1) % 2 ^ w
    go true e = sym (ap (λ (x : ℕ). x % 2 ^ w) (sym e) ∙ add-mod_right (value U w) (2 ^ w) ∙ mod-eq_of_lt (value_lt U w))
    go false e = sym (ap (λ (x : ℕ). x % 2 ^ w) (sym e ∙ add-zero (value U w)) ∙ mod-eq_of_lt (value_lt U w))

value_flips : (U V' : ℕ → Bool) (w : ℕ) → value U w ≡ (value V' w + 1) % 2 ^ w → Flips U V' w
value_flips U V' w e i h =
    let W : ℕ → Bool = λ j. flip (all_to (pred j) V') (V' j) in
    value_inj U W w (e ∙ sym (flips_value W V' w (λ j g. refl))) i h

pub successor_iff : (A : Assignment) (w : ℕ) (u v : ℕ → ℕ)
    → So (all_true A (successor w u v)) ↔ (value (bits A u) w ≡ (value (bits A v) w + 1) % 2 ^ w)
unfolding successor
successor_iff A w u v = (
  λ t. flips_value (bits A u) (bits A v) w
      (λ i h. beq_eq _ _ (sym (successor_bit A u v i) ∙ all_to_at w (λ i. all_true A (successor_at u v i)) (sym (all_each (clause_true A) w (successor_at u v)) ∙ t) i h)),
  λ e. all_each (clause_true A) w (successor_at u v) ∙ all_to_in w (λ i. all_true A (successor_at u v i))
      (λ i h. successor_bit A u v i ∙ eq_beq _ _ (value_flips (bits A u) (bits A v) w e i h)),
)

-- ---- the number 1

-- the lowest bit alone is set
abbrev lowest : ℕ → Bool
lowest i = eqb i 1

value_one : (w : ℕ) → value lowest (suc w) ≡ 1
value_one zero = refl
value_one (suc w) = ap (λ (x : ℕ). x + cond (eqb (suc (suc w)) 1) (2 ^ suc w) 0) (value_one w) ∙ ap (λ b. 1 + cond b (2 ^ suc w) 0) (ne_eqb (suc (suc w)) 1 (λ e. omega arith))

pub one_iff : (X : ℕ → Bool) (w : ℕ) → So (X 1 && all_to w (λ i. not (X (suc i)))) ↔ (value X (suc w) ≡ 1)
one_iff X w = (
  λ t. value_ext X lowest (suc w) (λ i h. bits_one t i h) ∙ value_one w,
  λ e. let f = value_inj X lowest (suc w) (e ∙ sym (value_one w)) in
      and_in (f 0 (omega arith)) (all_to_in w _ (λ i h. ap not (f (suc i) (omega arith) ∙ ne_eqb (suc (suc i)) 1 (λ e. omega arith)))),
)
  where
    bits_one : So (X 1 && all_to w (λ i. not (X (suc i)))) → (i : ℕ) → i < suc w → X (suc i) ≡ lowest (suc i)
    bits_one t zero h = and_left (X 1) (all_to w (λ i. not (X (suc i)))) t
    bits_one t (suc i) h =
        not-true (X (suc (suc i))) (all_to_at w (λ i. not (X (suc i))) (and_right (X 1) (all_to w (λ i. not (X (suc i)))) t) i (le_of_suc-le-suc h))
        ∙ sym (ne_eqb (suc (suc i)) 1 (λ e. omega arith))
