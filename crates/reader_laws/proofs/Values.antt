-- The fold over the text of a program comes to the program's work (`judged`), at the place where a text may end.
-- Assumes nothing.
use Prim.Native.Nat.{ℕ, zero, suc, ◌+◌, ◌*◌, ◌-◌, ◌/◌, ◌%◌, ◌≤◌, ◌<◌}
use native.Mathlib.Omega.{arith}
use mathlib.Core.Path.{◌≡◌, refl, sym, ◌∙◌, ap, ap₂}
use mathlib.Core.Logic.{⊎_elim}
use mathlib.Core.Bool.{Bool, true, false, cond}
use mathlib.Core.List.{List, [], ◌∷◌, ◌++◌, append_assoc}
use lib.Dec.{ltb, eqb}
use lib.ListN.{length, length-append}
use borrow.Author.Tests.{ne_eqb, lt-ltb, le-ltb}
use Rattle.lists.proofs.Tests.{le_or_lt}
use Rattle.meaning.specs.Program.{Rule, Program}
use Rattle.text.specs.Decimal.{decimal}
use Rattle.text.specs.Text.{more_text, list_text, rule_text, rules_text, text_of}
use Rattle.text.proofs.Decimals.{decimal_small, decimal_large, digits-ind}
use Rattle.reader_form.specs.Automaton.{placed, form_at, digit_test, literal_of, leave_of, digit_of, act_at, item_of, form_step}
use Rattle.reader_work.specs.Work.{grown_of, value_after, begin_after, work_of, work_heads, work_starts, work_bodies}
use Rattle.reader_work.specs.Fold.{State, ended, read_from}
use Rattle.reader_laws.specs.Judge.{Work, acts, cap, number_read, more_read, list_read, positive_spot, negative_spot, rule_end, rule_read, rules_read, judged}

abbrev pub state_of : ℕ → ℕ → ℕ → ℕ → Work → State
state_of k m v g W =
    record { k = k; mode = m; value = v; begin = g; counts = W.counts; heads = W.heads; starts = W.starts; bodies = W.bodies }

-- one byte
pub byte : (k m b k' m' act v g i : ℕ) (W : Work) (t : List ℕ) → form_step k m b ≡ placed k' m' act → eqb m' 4 ≡ false
    → read_from (state_of k m v g W) i (b ∷ t) ≡ read_from (state_of k' m' (value_after act v b) (begin_after act g i) (acts act k v g i W)) (i + 1) t
unfolding read_from acts
byte k m b k' m' act v g i W t e d = rw (e, d)

-- a fixed byte that does nothing else
idle : (k b k' i : ℕ) (W : Work) (t : List ℕ) → form_step k 0 b ≡ placed k' 0 0 → read_from (state_of k 0 0 0 W) i (b ∷ t) ≡ read_from (state_of k' 0 0 0 W) (i + 1) t
unfolding value_after begin_after acts work_of work_heads work_starts work_bodies
idle k b k' i W t e = byte k 0 b k' 0 0 0 0 i W t e refl

atoms_word : (i : ℕ) (W : Work) (t : List ℕ) → read_from (state_of 0 0 0 0 W) i (40 ∷ 97 ∷ 116 ∷ 111 ∷ 109 ∷ 115 ∷ 32 ∷ t) ≡ read_from (state_of 7 0 0 0 W) (i + 7) t
unfolding form_step form_at literal_of act_at
atoms_word i W t =
    idle 0 40 1 i W _ refl ∙ idle 1 97 2 (i + 1) W _ refl ∙ idle 2 116 3 (i + 1 + 1) W _ refl ∙ idle 3 111 4 (i + 1 + 1 + 1) W _ refl
    ∙ idle 4 109 5 (i + 1 + 1 + 1 + 1) W _ refl ∙ idle 5 115 6 (i + 1 + 1 + 1 + 1 + 1) W _ refl ∙ idle 6 32 7 (i + 1 + 1 + 1 + 1 + 1 + 1) W _ refl
    ∙ ap (λ (j : ℕ). read_from (state_of 7 0 0 0 W) j t) (omega arith)

-- a fixed byte with an action
does : (k b k' act i : ℕ) (W : Work) (t : List ℕ) → form_step k 0 b ≡ placed k' 0 act → eqb act 1 ≡ false → eqb act 2 ≡ false
    → read_from (state_of k 0 0 0 W) i (b ∷ t) ≡ read_from (state_of k' 0 0 0 (acts act k 0 0 i W)) (i + 1) t
unfolding value_after begin_after
does k b k' act i W t e p q = byte k 0 b k' 0 act 0 0 i W t e refl ∙ rw (p, q)

-- ---- numbers

-- the mode within the number n
abbrev pub in_number : ℕ → ℕ
in_number n = cond (eqb n 0) 1 2

-- a place of the form that takes numbers
pub data Item : ℕ → Type 0 where
  atoms : Item 7
  head : Item 16
  positive : Item 19
  negative : Item 23

pub digit_step : (k m d : ℕ) → Item k → d < 10 → form_step k m (48 + d) ≡ digit_of k m (48 + d)
unfolding form_step form_at item_of digit_test
digit_step k m d atoms h = rw (le-ltb (48 + d) 48 (omega arith), lt-ltb (48 + d) 58 (omega arith))
digit_step k m d head h = rw (le-ltb (48 + d) 48 (omega arith), lt-ltb (48 + d) 58 (omega arith))
digit_step k m d positive h = rw (le-ltb (48 + d) 48 (omega arith), lt-ltb (48 + d) 58 (omega arith))
digit_step k m d negative h = rw (le-ltb (48 + d) 48 (omega arith), lt-ltb (48 + d) 58 (omega arith))

-- no number is begun: at the place itself, or after a list's space
pub data Fresh : ℕ → Type 0 where
  now : Fresh 0
  after : Fresh 3

-- the first digit of a number, and a further one
pub first_digit : (k m d : ℕ) → Item k → Fresh m → d < 10 → form_step k m (48 + d) ≡ placed k (in_number d) 1
unfolding digit_of
first_digit k m d it f h = digit_step k m d it h ∙ modes m f ∙ zeros d
  where
    modes : (m : ℕ) → Fresh m → digit_of k m (48 + d) ≡ cond (eqb (48 + d) 48) (placed k 1 1) (placed k 2 1)
    modes m now = refl
    modes m after = refl

    zeros : (d : ℕ) → cond (eqb (48 + d) 48) (placed k 1 1) (placed k 2 1) ≡ placed k (in_number d) 1
    zeros zero = refl
    zeros (suc d) = rw (ne_eqb (48 + suc d) 48 (λ e. omega arith), ne_eqb (suc d) 0 (λ e. omega arith))

pub further_digit : (k d : ℕ) → Item k → d < 10 → form_step k 2 (48 + d) ≡ placed k 2 2
unfolding digit_of
further_digit k d it h = digit_step k 2 d it h

pub cap_small : (n : ℕ) → n ≤ 999 → cap n ≡ n
unfolding cap
cap_small n h = rw (le-ltb 999 n h)

pub cap_large : (n : ℕ) → 999 < n → cap n ≡ 1000
unfolding cap
cap_large n h = rw (lt-ltb 999 n h)

grown_of_lem : (v b x : ℕ) → v ≤ 999 → 48 ≤ b → v * 10 + (b - 48) ≡ x → grown_of v b ≡ cap x
unfolding grown_of
grown_of_lem v b x h g e = rw (le-ltb 999 v h, le-ltb b 48 g, e) (kept x)
  where
    kept : (x : ℕ) → cond (ltb 1000 x) 1000 x ≡ cap x
    kept x =
        ⊎_elim (λ (l : x ≤ 1000). rw (le-ltb 1000 x l) (⊎_elim (λ (k : x ≤ 999). sym (cap_small x k)) (λ (k : 999 < x). omega (arith, cap_large x k)) (le_or_lt x 999)))
        (λ (l : 1000 < x). rw (lt-ltb 1000 x l) (sym (cap_large x (omega arith)))) (le_or_lt x 1000)

grown_large : (b : ℕ) → grown_of 1000 b ≡ 1000
unfolding grown_of
grown_large b = refl

grown_cap : (n : ℕ) → grown_of (cap (n / 10)) (48 + n % 10) ≡ cap n
grown_cap n =
    ⊎_elim (λ (l : n / 10 ≤ 999). rw (cap_small (n / 10) l) (grown_of_lem (n / 10) (48 + n % 10) n l (omega arith) (omega arith)))
    (λ (l : 999 < n / 10). rw (cap_large (n / 10) l) (grown_large (48 + n % 10) ∙ sym (cap_large n (omega arith)))) (le_or_lt (n / 10) 999)

in_number_live : (n : ℕ) → eqb (in_number n) 4 ≡ false
in_number_live n = go (eqb n 0)
  where
    go : (b : Bool) → eqb (cond b 1 2) 4 ≡ false
    go true = refl
    go false = refl

pub in_number_pos : (n : ℕ) → 0 < n → in_number n ≡ 2
in_number_pos n h = rw (ne_eqb n 0 (λ e. omega arith))

begins : (k m d i : ℕ) (W : Work) (t : List ℕ) → Item k → Fresh m → d < 10
    → read_from (state_of k m 0 0 W) i ((48 + d) ∷ t) ≡ read_from (state_of k (in_number d) (cap d) i W) (i + 1) t
unfolding value_after begin_after acts work_of work_heads work_starts work_bodies
begins k m d i W t it f h =
    byte k m (48 + d) k (in_number d) 1 0 0 i W t (first_digit k m d it f h) (in_number_live d)
    ∙ ap (λ (v : ℕ). read_from (state_of k (in_number d) v i W) (i + 1) t) (grown_of_lem 0 (48 + d) d (omega arith) (omega arith) (omega arith))

goes_on : (k v g d i : ℕ) (W : Work) (t : List ℕ) → Item k → d < 10
    → read_from (state_of k 2 v g W) i ((48 + d) ∷ t) ≡ read_from (state_of k 2 (grown_of v (48 + d)) g W) (i + 1) t
unfolding value_after begin_after acts work_of work_heads work_starts work_bodies
goes_on k v g d i W t it h = byte k 2 (48 + d) k 2 2 v g i W t (further_digit k d it h) refl

-- the digits of n, from place k with no number begun
pub number : (n k m i : ℕ) (W : Work) (t : List ℕ) → Item k → Fresh m
    → read_from (state_of k m 0 0 W) i (decimal n ++ t) ≡ read_from (state_of k (in_number n) (cap n) i W) (i + length (decimal n)) t
number n k m i W t it f = digits-ind Reads small large n t
  where
    Reads : ℕ → Type 0
    Reads n = (t : List ℕ) → read_from (state_of k m 0 0 W) i (decimal n ++ t) ≡ read_from (state_of k (in_number n) (cap n) i W) (i + length (decimal n)) t

    small : (n : ℕ) → n < 10 → Reads n
    small n h t = rw (decimal_small n h) (begins k m n i W t it f h)

    large : (n : ℕ) → 10 ≤ n → Reads (n / 10) → Reads n
    large n h ih t =
        let d = n % 10 in
        let j = i + length (decimal (n / 10)) in
        ap (λ (ds : List ℕ). read_from (state_of k m 0 0 W) i (ds ++ t)) (decimal_large n h)
        ∙ ap (read_from (state_of k m 0 0 W) i) (append_assoc (decimal (n / 10)) ((48 + d) ∷ []) t)
        ∙ ih ((48 + d) ∷ t)
        ∙ ap (λ (q : ℕ). read_from (state_of k q (cap (n / 10)) i W) j ((48 + d) ∷ t)) (in_number_pos (n / 10) (omega arith))
        ∙ goes_on k (cap (n / 10)) i d j W t it (omega arith)
        ∙ ap₂ (λ (q v : ℕ). read_from (state_of k q v i W) (j + 1) t) (sym (in_number_pos n (omega arith))) (grown_cap n)
        ∙ ap (λ (x : ℕ). read_from (state_of k (in_number n) (cap n) i W) x t) (omega (arith, ap length (decimal_large n h) ∙ length-append (decimal (n / 10)) ((48 + d) ∷ [])))

-- ---- the ends of numbers and lists

-- a number that is begun is left by a byte that does the same from 0 and from another number
leaves : (n k b k' m' i g : ℕ) (W : Work) (t : List ℕ) → form_step k 1 b ≡ placed k' m' 3 → form_step k 2 b ≡ placed k' m' 3 → eqb m' 4 ≡ false
    → read_from (state_of k (in_number n) (cap n) g W) i (b ∷ t) ≡ read_from (state_of k' m' 0 0 (acts 3 k (cap n) g i W)) (i + 1) t
unfolding value_after begin_after
leaves n k b k' m' i g W t e f d = byte k (in_number n) b k' m' 3 (cap n) g i W t (go (eqb n 0)) d
  where
    go : (z : Bool) → form_step k (cond z 1 2) b ≡ placed k' m' 3
    go true = e
    go false = f

-- a number and the byte that leaves it
number_then : (n k m b k' m' i : ℕ) (W : Work) (t : List ℕ) → Item k → Fresh m → form_step k 1 b ≡ placed k' m' 3 → form_step k 2 b ≡ placed k' m' 3 → eqb m' 4 ≡ false
    → read_from (state_of k m 0 0 W) i (decimal n ++ (b ∷ t)) ≡ read_from (state_of k' m' 0 0 (number_read k n i W)) (i + length (decimal n) + 1) t
number_then n k m b k' m' i W t it f e g d = number n k m i W (b ∷ t) it f ∙ leaves n k b k' m' (i + length (decimal n)) i W t e g d

-- a list's place: its bracket, and the place after it
pub data ListAt : ℕ → Type 0 where
  positive : ListAt 19
  negative : ListAt 23

pub item_of_lem : {k : ℕ} → ListAt k → Item k
item_of_lem positive = Item.positive
item_of_lem negative = Item.negative

list_space : (k : ℕ) → ListAt k → (form_step k 1 32 ≡ placed k 3 3) × (form_step k 2 32 ≡ placed k 3 3)
unfolding form_step form_at item_of digit_test leave_of
list_space k positive = (refl, refl)
list_space k negative = (refl, refl)

list_end : (k : ℕ) → ListAt k → (form_step k 1 41 ≡ placed (k + 2) 0 3) × (form_step k 2 41 ≡ placed (k + 2) 0 3) × (form_step k 0 41 ≡ placed (k + 2) 0 0)
unfolding form_step form_at item_of digit_test leave_of literal_of
list_end k positive = (refl, refl, refl)
list_end k negative = (refl, refl, refl)

-- the numbers after a first one, up to the bracket
more : (xs : List ℕ) (x k m i : ℕ) (W : Work) (t : List ℕ) → ListAt k → Fresh m
    → read_from (state_of k m 0 0 W) i (decimal x ++ (more_text xs ++ (41 ∷ t)))
    ≡ read_from (state_of (k + 2) 0 0 0 (more_read k xs (i + length (decimal x)) (number_read k x i W))) (i + length (decimal x ++ more_text xs) + 1) t
more [] x k m i W t l f =
    number_then x k m 41 (k + 2) 0 i W t (item_of_lem l) f (list_end k l).0 (list_end k l).1 refl
    ∙ ap (λ (j : ℕ). read_from (state_of (k + 2) 0 0 0 (number_read k x i W)) j t) (omega (arith, length-append (decimal x) []))
more (y ∷ ys) x k m i W t l f =
    number_then x k m 32 k 3 i W ((decimal y ++ more_text ys) ++ (41 ∷ t)) (item_of_lem l) f (list_space k l).0 (list_space k l).1 refl
    ∙ ap (read_from (state_of k 3 0 0 (number_read k x i W)) (i + length (decimal x) + 1)) (append_assoc (decimal y) (more_text ys) (41 ∷ t))
    ∙ more ys y k 3 (i + length (decimal x) + 1) (number_read k x i W) t l after
    ∙ ap (λ (j : ℕ). read_from (state_of (k + 2) 0 0 0 (more_read k (y ∷ ys) (i + length (decimal x)) (number_read k x i W))) j t)
    (omega (arith, length-append (decimal x) (32 ∷ (decimal y ++ more_text ys))))

-- a list and its bracket
list : (xs : List ℕ) (k i : ℕ) (W : Work) (t : List ℕ) → ListAt k
    → read_from (state_of k 0 0 0 W) i (list_text xs ++ (41 ∷ t)) ≡ read_from (state_of (k + 2) 0 0 0 (list_read k xs i W)) (i + length (list_text xs) + 1) t
list [] k i W t l = idle k 41 (k + 2) i W t (list_end k l).2 ∙ ap (λ (j : ℕ). read_from (state_of (k + 2) 0 0 0 W) j t) (omega arith)
list (x ∷ xs) k i W t l = ap (read_from (state_of k 0 0 0 W) i) (append_assoc (decimal x) (more_text xs) (41 ∷ t)) ∙ more xs x k 0 i W t l now

-- ---- lines

rule_word : (i : ℕ) (W : Work) (t : List ℕ)
    → read_from (state_of 10 0 0 0 W) i (40 ∷ 114 ∷ 117 ∷ 108 ∷ 101 ∷ 32 ∷ t) ≡ read_from (state_of 16 0 0 0 (acts 4 10 0 0 i W)) (i + 6) t
unfolding form_step form_at literal_of act_at
rule_word i W t =
    let U = acts 4 10 0 0 i W in
    does 10 40 11 4 i W _ refl refl refl ∙ idle 11 114 12 (i + 1) U _ refl ∙ idle 12 117 13 (i + 1 + 1) U _ refl ∙ idle 13 108 14 (i + 1 + 1 + 1) U _ refl
    ∙ idle 14 101 15 (i + 1 + 1 + 1 + 1) U _ refl ∙ idle 15 32 16 (i + 1 + 1 + 1 + 1 + 1) U _ refl ∙ ap (λ (j : ℕ). read_from (state_of 16 0 0 0 U) j t) (omega arith)

head_then : (n i : ℕ) (W : Work) (t : List ℕ)
    → read_from (state_of 16 0 0 0 W) i (decimal n ++ (32 ∷ 40 ∷ t)) ≡ read_from (state_of 19 0 0 0 (number_read 16 n i W)) (i + length (decimal n) + 2) t
unfolding form_step form_at item_of digit_test leave_of literal_of act_at
head_then n i W t =
    number_then n 16 0 32 18 0 i W (40 ∷ t) head now refl refl refl ∙ idle 18 40 19 (i + length (decimal n) + 1) (number_read 16 n i W) t refl
    ∙ ap (λ (j : ℕ). read_from (state_of 19 0 0 0 (number_read 16 n i W)) j t) (omega arith)

between : (i : ℕ) (W : Work) (t : List ℕ) → read_from (state_of 21 0 0 0 W) i (32 ∷ 40 ∷ t) ≡ read_from (state_of 23 0 0 0 (acts 5 21 0 0 i W)) (i + 2) t
unfolding form_step form_at literal_of act_at
between i W t = does 21 32 22 5 i W _ refl refl refl ∙ idle 22 40 23 (i + 1) (acts 5 21 0 0 i W) t refl ∙ ap (λ (j : ℕ). read_from (state_of 23 0 0 0 (acts 5 21 0 0 i W)) j t) (omega arith)

line_end_lem : (i : ℕ) (W : Work) (t : List ℕ) → read_from (state_of 25 0 0 0 W) i (41 ∷ 10 ∷ t) ≡ read_from (state_of 10 0 0 0 (acts 6 26 0 0 (i + 1) W)) (i + 2) t
unfolding form_step form_at literal_of act_at
line_end_lem i W t = idle 25 41 26 i W _ refl ∙ does 26 10 10 6 (i + 1) W t refl refl refl ∙ ap (λ (j : ℕ). read_from (state_of 10 0 0 0 (acts 6 26 0 0 (i + 1) W)) j t) (omega arith)

-- a rule's text and what follows it, bracketed to the right
pub rule_then : (r : Rule) (t : List ℕ) → rule_text r ++ t
    ≡ 40 ∷ 114 ∷ 117 ∷ 108 ∷ 101 ∷ 32 ∷ (decimal r.head ++ (32 ∷ 40 ∷ (list_text r.positive ++ (41 ∷ 32 ∷ 40 ∷ (list_text r.negative ++ (41 ∷ 41 ∷ 10 ∷ t))))))
rule_then r t = simp append_assoc

rule : (r : Rule) (i : ℕ) (W : Work) (t : List ℕ) → read_from (state_of 10 0 0 0 W) i (rule_text r ++ t) ≡ read_from (state_of 10 0 0 0 (rule_read r i W)) (rule_end r i) t
rule r i W t =
    let W1 = acts 4 10 0 0 i W in
    let W2 = number_read 16 r.head (i + 6) W1 in
    let W3 = list_read 19 r.positive (positive_spot r i) W2 in
    let j = positive_spot r i + length (list_text r.positive) + 1 in
    let W4 = acts 5 21 0 0 j W3 in
    let W5 = list_read 23 r.negative (negative_spot r i) W4 in
    ap (read_from (state_of 10 0 0 0 W) i) (rule_then r t)
    ∙ rule_word i W _
    ∙ head_then r.head (i + 6) W1 _
    ∙ list r.positive 19 (positive_spot r i) W2 (32 ∷ 40 ∷ (list_text r.negative ++ (41 ∷ 41 ∷ 10 ∷ t))) positive
    ∙ between j W3 (list_text r.negative ++ (41 ∷ 41 ∷ 10 ∷ t))
    ∙ ap (λ (x : ℕ). read_from (state_of 23 0 0 0 W4) x (list_text r.negative ++ (41 ∷ 41 ∷ 10 ∷ t))) (omega arith)
    ∙ list r.negative 23 (negative_spot r i) W4 (41 ∷ 10 ∷ t) negative
    ∙ line_end_lem (negative_spot r i + length (list_text r.negative) + 1) W5 t
    ∙ ap₂ (λ (x y : ℕ). read_from (state_of 10 0 0 0 (acts 6 26 0 0 x W5)) y t) (omega arith) (omega arith)

rules : (rs : List Rule) (i : ℕ) (W : Work) → read_from (state_of 10 0 0 0 W) i (rules_text rs) ≡ state_of 10 0 0 0 (rules_read rs i W)
unfolding read_from ended
rules [] i W = refl
rules (r ∷ rs) i W = rule r i W (rules_text rs) ∙ rules rs (rule_end r i) (rule_read r i W)

-- the text of a program comes to its work, at the place where a text may end
pub read_text : (P : Program) (W : Work) → read_from (state_of 0 0 0 0 W) 0 (text_of P) ≡ state_of 10 0 0 0 (judged P W)
unfolding text_of judged form_step form_at item_of digit_test leave_of literal_of act_at
read_text P W =
    atoms_word 0 W _
    ∙ number_then P.atoms 7 0 41 9 0 7 W (10 ∷ rules_text P.rules) atoms now refl refl refl
    ∙ idle 9 10 10 (7 + length (decimal P.atoms) + 1) (number_read 7 P.atoms 7 W) (rules_text P.rules) refl
    ∙ ap (λ (j : ℕ). read_from (state_of 10 0 0 0 (number_read 7 P.atoms 7 W)) j (rules_text P.rules)) (omega arith)
    ∙ rules P.rules (7 + length (decimal P.atoms) + 2) (number_read 7 P.atoms 7 W)
