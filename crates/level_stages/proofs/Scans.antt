-- Bytes read and written one after the other, as the loops do.
--   unlike_is                   one of two bytes alone is 0 exactly if one alone is not 0
--   Alike, unlike_here, unlike_nowhere    the first atom at which bytes differ so
--   unlike_pair, pair_found, pair_nowhere the same of the bytes in pairs
--   difference_taken, taken_even          the same of the first n bytes, which are as long
--   filled_front, front_long    the first bytes filled with zeros
-- Assumes nothing.
use Prim.Native.Nat.{ℕ, zero, suc, ◌+◌, ◌≤◌, ◌<◌}
use native.Mathlib.Nat.{le_antisymm, le_refl}
use native.Mathlib.Numerals.{add-one}
use native.Mathlib.Omega.{arith}
use mathlib.Core.Path.{◌≡◌, refl, sym, ◌∙◌, ap, ap₂, subst}
use mathlib.Core.Logic.{⊎_elim}
use mathlib.Core.Bool.{Bool, true, false, not, So, beq, cond}
use lib.Dec.{eqb}
use borrow.Author.Tests.{lt-ltb}
use Rattle.std.specs.Prelude.{Option, Some, None}
use Rattle.std.specs.List.{zip, position, position_or_len}
use Rattle.std.proofs.lemmas.List.Quantifiers.{position-Some}
use Rattle.std.proofs.lemmas.List.Sums.{fails_before_first}
use Rattle.std.proofs.lemmas.Slice.Zip.{length-zip, get_or-zip}
use mathlib.Core.List.{List, [], ◌∷◌, ◌++◌}
use lib.ListN.{length, get_or, take, drop, replicate, length-append}
use Rattle.lists.specs.Lists.{tab, first}
use Rattle.lists.proofs.Bools.{not_So}
use Rattle.lists.proofs.Tests.{le_or_lt}
use Rattle.std.proofs.lemmas.List.{length-take-le, get_or-take}
use Rattle.lists.proofs.Tables.{length_tab}
use Rattle.lists.proofs.First.{first_is, first_le, first_pos, first_ext, first_none}
use Rattle.truth_literals.specs.Values.{value_in}
use Rattle.level_stages.specs.Levels.{first_difference}

-- ---- the first atom at which bytes differ in being 0

pub unlike_is : (p q : Bool) → not (beq p q) ≡ not (beq (not p) (not q))
unlike_is true true = refl
unlike_is true false = refl
unlike_is false true = refl
unlike_is false false = refl

module _ (s ls : List ℕ) where
  abbrev unlike_at : ℕ → Bool
  unlike_at a = not (beq (value_in s a) (value_in ls a))

  -- the atoms 1 to a are alike
  abbrev pub Alike : ℕ → Type 0
  Alike a = (i : ℕ) → i < a → unlike_at (suc i) ≡ false

  pub unlike_here : (n a : ℕ) {r : Bool} → Alike a → a < n → r ≡ unlike_at (suc a) → r ≡ true → a + 1 ≡ first_difference n s ls
  unfolding first_difference
  unlike_here n a f h e u = le_antisymm least (subst (λ (k : ℕ). first n unlike_at ≤ k) (sym (add-one a)) (first_le n unlike_at a h here))
    where
      here : So (unlike_at (suc a))
      here = sym e ∙ u

      no : (k : ℕ) → k ≡ first n unlike_at → k < a + 1 → ⊥
      no zero q l = absurd (omega (arith, first_pos n unlike_at a h here, q))
      no (suc k) q l =
          not_So (unlike_at (suc k)) (f k (omega (arith, l)))
          (subst (λ (x : ℕ). So (unlike_at x)) (sym q) ((first_is n unlike_at).passes (omega (arith, q))))

      least : a + 1 ≤ first n unlike_at
      least = ⊎_elim (λ (l : a + 1 ≤ first n unlike_at). l) (λ (l : first n unlike_at < a + 1). absurd (no (first n unlike_at) refl l)) (le_or_lt (a + 1) (first n unlike_at))

  pub unlike_nowhere : (n a : ℕ) → Alike a → n ≤ a → 0 ≡ first_difference n s ls
  unfolding first_difference
  unlike_nowhere n a f h = sym (first_none n unlike_at (λ i k. f i (omega (arith, h, k))))

-- one of a pair of bytes alone is 0
abbrev pub unlike_pair : ℕ × ℕ → Bool
unlike_pair q = not (beq (eqb q.0 0) (eqb q.1 0))

module _ (s ls : List ℕ) (e : length s ≡ length ls) where
  abbrev pairs : List (ℕ × ℕ)
  pairs = zip s ls

  pairs_long : length pairs ≡ length s
  pairs_long = omega (arith, length-zip s ls, e)

  pair_is : (i : ℕ) → i < length s → unlike_pair (get_or pairs i (0, 0)) ≡ unlike_at s ls (suc i)
  pair_is i h = ap unlike_pair (get_or-zip s ls i (0, 0) h (omega (arith, h, e))) ∙ unlike_is _ _

  pub pair_found : {r : Option ℕ} {i : ℕ} → r ≡ position unlike_pair (zip s ls) → r ≡ Some i → i + 1 ≡ first_difference (length s) s ls
  pair_found {r} {i} p q =
      let w = position-Some unlike_pair pairs i (0, 0) (sym p ∙ q) in
      let h : i < length s = omega (arith, w.0, pairs_long) in
      unlike_here s ls (length s) i (λ k g. sym (pair_is k (omega (arith, g, h))) ∙ w.2 k g) h refl (sym (pair_is i h) ∙ w.1)

  pub pair_nowhere : {r : Option ℕ} → r ≡ position unlike_pair (zip s ls) → r ≡ None → 0 ≡ first_difference (length s) s ls
  pair_nowhere {r} p q = ⊎_elim none some (le_or_lt (length pairs) (position_or_len unlike_pair pairs))
    where
      none : length pairs ≤ position_or_len unlike_pair pairs → 0 ≡ first_difference (length s) s ls
      none h =
          unlike_nowhere s ls (length s) (length s)
          (λ k g. sym (pair_is k g) ∙ fails_before_first unlike_pair pairs k (0, 0) (omega (arith, g, h, pairs_long))) (le_refl (length s))

      some : position_or_len unlike_pair pairs < length pairs → 0 ≡ first_difference (length s) s ls
      some h =
          let w : Some (position_or_len unlike_pair pairs) ≡ None = sym (ap (λ (b : Bool). cond b (Some (position_or_len unlike_pair pairs)) None) (lt-ltb (position_or_len unlike_pair pairs) (length pairs) h)) ∙ sym p ∙ q in
          absurd (cc)

-- of the first n bytes
pub difference_taken : (n : ℕ) (s ls : List ℕ) {m : ℕ} → m ≡ n → n ≤ length s → n ≤ length ls
    → first_difference (length (take m s)) (take m s) (take m ls) ≡ first_difference n s ls
unfolding first_difference
difference_taken n s ls e h g =
    ap (λ (m : ℕ). first_difference (length (take m s)) (take m s) (take m ls)) e
    ∙ ap (λ (k : ℕ). first_difference k (take n s) (take n ls)) (length-take-le n s h)
    ∙ first_ext n _ _ (λ i l. ap₂ (λ (x y : ℕ). not (beq (not (eqb x 0)) (not (eqb y 0)))) (get_or-take n s i 0 l) (get_or-take n ls i 0 l))

pub taken_even : (n : ℕ) (s ls : List ℕ) {m : ℕ} → m ≡ n → n ≤ length s → n ≤ length ls → length (take m s) ≡ length (take m ls)
taken_even n s ls e h g =
    ap (λ (m : ℕ). length (take m s)) e ∙ length-take-le n s h ∙ sym (length-take-le n ls g) ∙ ap (λ (m : ℕ). length (take m ls)) (sym e)

-- ---- zeros

zeros_tab : (n : ℕ) → replicate {A = ℕ} n 0 ≡ tab n (λ a. 0)
zeros_tab zero = refl
zeros_tab (suc n) = last n ∙ ap (λ (l : List ℕ). l ++ (0 ∷ [])) (zeros_tab n)
  where
    last : (n : ℕ) → replicate {A = ℕ} (suc n) 0 ≡ replicate n 0 ++ (0 ∷ [])
    last zero = refl
    last (suc n) = ap (λ (l : List ℕ). 0 ∷ l) (last n)

-- the first m bytes of ls filled with zeros, to zs
pub filled_front : {zs : List ℕ} (ls : List ℕ) {m n : ℕ} → m ≡ n → n ≤ length ls → zs ≡ replicate (length (take m ls)) 0 → zs ++ drop m ls ≡ tab n (λ a. 0) ++ drop n ls
filled_front {zs} ls {m} {n} e h q =
    ap (λ (l : List ℕ). l ++ drop m ls) q
    ∙ ap (λ (m : ℕ). replicate {A = ℕ} (length (take m ls)) 0 ++ drop m ls) e
    ∙ ap (λ (k : ℕ). replicate {A = ℕ} k 0 ++ drop n ls) (length-take-le n ls h)
    ∙ ap (λ (l : List ℕ). l ++ drop n ls) (zeros_tab n)

pub front_long : (n : ℕ) {ds : List ℕ} (rest : List ℕ) → ds ≡ tab n (λ a. 0) ++ rest → n ≤ length ds
front_long n {ds} rest q = let zs : List ℕ = tab n (λ a. 0) in omega (arith, ap length q, length-append zs rest, length_tab {A = ℕ} n (λ a. 0))
