-- Counters and counts, one bit or atom at a time.
--   part_true, part_false          what a variable adds
--   level_within                   the variables of an atom's counter have a byte
--   Counted, counted_more          the counter of the first i bits, with the next power of 2; of one bit more
--   counted_one, counted_no        of one bit more that is 1, or 0
--   tabled_more                    a table written into a buffer, one entry more
--   count_is, fold_is              the number of true atoms, and the highest level, as code counts
--   count_taken, highest_taken  of the first n bytes they are those of the atoms 1 to n of the longer list
-- Assumes nothing.
use Prim.Native.Nat.{ℕ, zero, suc, ◌+◌, ◌*◌, ◌^◌, ◌≤◌, ◌<◌, max}
use native.Mathlib.Nat.{add-zero, le_antisymm, mul-le-mul_right, pow-succ'}
use native.Mathlib.Numerals.{add-one}
use native.Mathlib.Omega.{arith}
use mathlib.Core.Path.{◌≡◌, refl, sym, ◌∙◌, ap, subst}
use mathlib.Core.Bool.{Bool, true, false, not, cond}
use lib.Dec.{eqb}
use mathlib.Core.List.{List, [], ◌∷◌, ◌++◌, append_assoc}
use lib.ListN.{length, get_or, set, take, drop}
use lib.Pow.{pow_mono}
use lib.Seq.{drop-cons, set_at, length-take-le, get_or-take}
use Rattle.std.specs.List.{fold, count_by}
use Rattle.std.proofs.lemmas.List.Sums.{sum_by-cons}
use Rattle.lists.specs.Lists.{tab, sum, highest}
use Rattle.lists.proofs.Tables.{length_tab, sum_ext}
use Rattle.lists.proofs.Highest.{highest_same}
use Rattle.encoding.specs.Variables.{Sizes, level_var}
use Rattle.encoding.specs.Counter.{value}
use Rattle.theory.proofs.Bits.{value_lt}
use Rattle.truth_clauses.specs.Truth.{value_in}
use Rattle.call_results.specs.Results.{true_count, level_byte}

-- ---- a variable

module _ {d : Bool} (x : Bool) (p : ℕ) (e : d ≡ x) where
  pub part_true : d ≡ true → p ≡ cond x p 0
  part_true t = sym (ap (λ b. cond b p 0) (sym e ∙ t))

  pub part_false : d ≡ false → 0 ≡ cond x p 0
  part_false t = sym (ap (λ b. cond b p 0) (sym e ∙ t))

part_small : (x : Bool) (p : ℕ) → cond x p 0 ≤ p
part_small true p = omega arith
part_small false p = omega arith

-- ---- a counter

pub level_within : (S : Sizes) (a i k : ℕ) → 0 < a → a ≤ S.n → i < S.w → S.n + 2 * S.m + S.n * S.w ≤ k → level_var S a (i + 1) ≤ k
level_within S zero i k p h g b = absurd (omega (arith, p))
level_within S (suc a) i k p h g b = omega (arith, mul-le-mul_right S.w h, g, b)

pub level_some : (S : Sizes) (a i : ℕ) → 0 < level_var S a (i + 1)
level_some S a i = omega arith

-- the lowest i bits make x, and the next one stands for `power`
pub record Counted (X : ℕ → Bool) (i x power : ℕ) : Type 0 where
  pub so_far : x ≡ value X i
  pub next : power ≡ 2 ^ i

pub counted_none : (X : ℕ → Bool) → Counted X 0 0 1
counted_none X = record { so_far = refl; next = refl }

module _ {X : ℕ → Bool} {i x power : ℕ} (c : Counted X i x power) where
  pub counted_more : {d : ℕ} → d ≡ cond (X (i + 1)) power 0 → Counted X (i + 1) (x + d) (power * 2)
  counted_more {d} e =
      record {
        so_far = more;
        next = omega (arith, c.next, pow-succ' 2 i) ∙ ap (λ (k : ℕ). 2 ^ k) (sym (add-one i));
      }
    where
      more : x + d ≡ value X (i + 1)
      more =
          ap (λ (y : ℕ). y + d) c.so_far
          ∙ ap (λ (y : ℕ). value X i + y) (e ∙ ap (λ (p : ℕ). cond (X (i + 1)) p 0) c.next ∙ ap (λ (k : ℕ). cond (X k) (2 ^ i) 0) (add-one i))
          ∙ ap (value X) (sym (add-one i))

  -- bit i + 1 is b, and y the counter with it
  pub counted_one : {b : Bool} → b ≡ X (i + 1) → b ≡ true → {y : ℕ} → y ≡ x + power → Counted X (i + 1) y (power * 2)
  counted_one e t q = subst (λ (y : ℕ). Counted X (i + 1) y (power * 2)) (sym q) (counted_more (part_true (X (i + 1)) power e t))

  pub counted_no : {b : Bool} → b ≡ X (i + 1) → b ≡ false → {y : ℕ} → y ≡ x → Counted X (i + 1) y (power * 2)
  counted_no e t q = subst (λ (y : ℕ). Counted X (i + 1) y (power * 2)) (add-zero x ∙ sym q) (counted_more (part_false (X (i + 1)) power e t))

  pub counted_all : (w : ℕ) → i ≤ w → w ≤ i → x ≡ value X w
  counted_all w h g = c.so_far ∙ ap (value X) (le_antisymm h g)

  module _ (h : i < 7) where
    pub power_small : power ≤ 64
    power_small = subst (λ (p : ℕ). p ≤ 64) (sym c.next) (pow_mono {i = i} {j = 6} (omega (arith, h)))

    pub counted_fits : {d : ℕ} → d ≡ cond (X (i + 1)) power 0 → x + d < 256
    counted_fits {d} e =
        omega (arith, power_small, c.so_far, c.next, value_lt X i, subst (λ (y : ℕ). y ≤ power) (sym e) (part_small (X (i + 1)) power))

-- ---- a table in a buffer

pub tabled_more : (f : ℕ → ℕ) (b c : List ℕ) (i : ℕ) → i < length b → c ≡ tab i f ++ drop i b → {x : ℕ} → x ≡ f (i + 1)
    → set c i x ≡ tab (i + 1) f ++ drop (i + 1) b
tabled_more f b c i h e {x} q =
    ap (λ (d : List ℕ). set d i x) (e ∙ ap (λ (d : List ℕ). tab i f ++ d) (drop-cons b i 0 h))
    ∙ set_at (tab i f) (get_or b i 0) (drop (suc i) b) x i (length_tab i f)
    ∙ sym (append_assoc (tab i f) (x ∷ []) (drop (suc i) b))
    ∙ ap (λ (y : ℕ). (tab i f ++ (y ∷ [])) ++ drop (suc i) b) (q ∙ ap f (add-one i))
    ∙ ap (λ (k : ℕ). tab k f ++ drop k b) (sym (add-one i))

-- ---- the two numbers

-- the first term in front
sum_front : (n : ℕ) (f : ℕ → ℕ) → sum (suc n) f ≡ f 1 + sum n (λ i. f (suc i))
sum_front zero f = omega arith
sum_front (suc n) f = omega (arith, sum_front n f)

highest_front : (n : ℕ) (f : ℕ → ℕ) → highest (suc n) f ≡ max (f 1) (highest n (λ i. f (suc i)))
highest_front zero f = omega arith
highest_front (suc n) f = omega (arith, highest_front n f)

pub count_is : (bs : List ℕ) → count_by (λ b. not (eqb b 0)) bs ≡ true_count (length bs) bs
unfolding true_count
count_is [] = refl
count_is (b ∷ bs) =
    sum_by-cons (λ x. cond (not (eqb x 0)) 1 0) b bs
    ∙ ap (λ (k : ℕ). cond (not (eqb b 0)) 1 0 + k) (count_is bs ∙ sum_ext (length bs) _ _ (λ i h. refl))
    ∙ sym (sum_front (length bs) (λ a. cond (value_in (b ∷ bs) a) 1 0))

fold_from : (x : ℕ) (ls : List ℕ) → fold (λ a y. max a y) x ls ≡ max x (highest (length ls) (level_byte ls))
fold_from x [] = omega arith
fold_from x (y ∷ ls) =
    fold_from (max x y) ls
    ∙ omega (arith, highest_front (length ls) (level_byte (y ∷ ls)), highest_same (length ls) (λ i. level_byte (y ∷ ls) (suc i)) (level_byte ls) (λ i h. refl))

pub fold_is : (ls : List ℕ) → fold (λ a y. max a y) 0 ls ≡ highest (length ls) (level_byte ls)
fold_is ls = omega (arith, fold_from 0 ls)

-- of the first n bytes
pub count_taken : (n : ℕ) (bs : List ℕ) {m : ℕ} → m ≡ n → n ≤ length bs → true_count (length (take m bs)) (take m bs) ≡ true_count n bs
unfolding true_count
count_taken n bs e h =
    ap (λ (m : ℕ). true_count (length (take m bs)) (take m bs)) e
    ∙ ap (λ (k : ℕ). true_count k (take n bs)) (length-take-le n bs h)
    ∙ sum_ext n _ _ (λ i l. ap (λ (b : ℕ). cond (not (eqb b 0)) 1 0) (get_or-take n bs i 0 l))

pub highest_taken : (n : ℕ) (ls : List ℕ) {m : ℕ} → m ≡ n → n ≤ length ls → highest (length (take m ls)) (level_byte (take m ls)) ≡ highest n (level_byte ls)
highest_taken n ls e h =
    ap (λ (m : ℕ). highest (length (take m ls)) (level_byte (take m ls))) e
    ∙ ap (λ (k : ℕ). highest k (level_byte (take n ls))) (length-take-le n ls h)
    ∙ highest_same n (level_byte (take n ls)) (level_byte ls) (λ i l. get_or-take n ls i 0 l)

pub tabled_all : (f : ℕ → ℕ) (b c : List ℕ) (i n : ℕ) → c ≡ tab i f ++ drop i b → i ≤ n → n ≤ i → c ≡ tab n f ++ drop n b
tabled_all f b c i n e h g = e ∙ ap (λ (k : ℕ). tab k f ++ drop k b) (le_antisymm h g)
