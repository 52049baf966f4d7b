-- How many digits a number has, and the lengths of literals as bytes.
--   decimal_fits, decimal_reaches    below 10 ^ (k + 1) a number has at most k + 1 digits, from 10 ^ k on at least that many
--   decimal_ten                      at most 10 digits below 2 ^ 32
--   literal_fits                     a literal has at most one byte more than its variable's digits
--   word_length                      a literal followed by one space
--   literals_append                  the literals of appended clauses; -length: their length
--   literals_fit                     literals of at most m bytes each, with their spaces
--   line_length                      a clause's line
-- Assumes nothing.
use Prim.Native.Nat.{ℕ, zero, suc, ◌+◌, ◌*◌, ◌/◌, ◌%◌, ◌^◌, ◌≤◌, ◌<◌}
use native.Mathlib.Nat.{pow-suc, suc-mul, one-le-pow, le_of_eq, le_antisymm}
use native.Mathlib.Omega.{arith}
use mathlib.Core.Path.{◌≡◌, refl, sym, ◌∙◌, ap}
use mathlib.Core.Logic.{⊎_elim}
use mathlib.Core.List.{List, [], ◌∷◌, ◌++◌, append_assoc}
use lib.IntN.{ℤ, pos, negsuc, nat_abs}
use lib.ListN.{length, get_or, length-append}
use Rattle.lists.proofs.Tests.{le_or_lt}
use Rattle.text.specs.Decimal.{decimal}
use Rattle.text.proofs.Decimals.{decimal_small, decimal_large}
use Rattle.encoding.specs.Literal.{Literal, literal_number}
use Rattle.digits.specs.Bytes.{literal_text, literals_text, line_text}

pub length_small : (n : ℕ) → n < 10 → length (decimal n) ≡ 1
length_small n h = rw (decimal_small n h)

pub length_large : (n : ℕ) → 10 ≤ n → length (decimal n) ≡ suc (length (decimal (n / 10)))
length_large n h = ap (λ (l : List ℕ). length l) (decimal_large n h) ∙ length-append (decimal (n / 10)) ((48 + n % 10) ∷ []) ∙ omega arith

-- some digit stands there
pub decimal_some : (n : ℕ) → 1 ≤ length (decimal n)
decimal_some n = ⊎_elim (λ (l : 10 ≤ n). omega (arith, length_large n l)) (λ (l : n < 10). omega (arith, length_small n l)) (le_or_lt 10 n)

pub decimal_fits : (k n : ℕ) → n < 10 ^ suc k → length (decimal n) ≤ suc k
decimal_fits zero n h = le_of_eq (length_small n h)
decimal_fits (suc k) n h =
    ⊎_elim
    (λ (l : 10 ≤ n). omega (arith, length_large n l, decimal_fits k (n / 10) (omega (arith, pow-suc 10 (suc k), h))))
    (λ (l : n < 10). omega (arith, length_small n l)) (le_or_lt 10 n)

pub decimal_reaches : (k n : ℕ) → 10 ^ k ≤ n → suc k ≤ length (decimal n)
decimal_reaches zero n h = decimal_some n
decimal_reaches (suc k) n h = go (10 ^ k) (one-le-pow k 10 (omega arith)) (rw (pow-suc 10 k) at h) (λ l. decimal_reaches k (n / 10) l)
  where
    go : (p : ℕ) → 1 ≤ p → p * 10 ≤ n → (p ≤ n / 10 → suc k ≤ length (decimal (n / 10))) → suc (suc k) ≤ length (decimal n)
    go p l m ih = omega (arith, length_large n (omega (arith, l, m)), ih (omega (arith, m)))

pub decimal_length : (k n : ℕ) → 10 ^ k ≤ n → n < 10 ^ suc k → length (decimal n) ≡ suc k
decimal_length k n l h = le_antisymm (decimal_fits k n h) (decimal_reaches k n l)

pub decimal_ten : (n : ℕ) → n < 2 ^ 32 → length (decimal n) ≤ 10
decimal_ten n h = decimal_fits 9 n (omega (arith, h))

-- ---- literals, each followed by one space

pub word_length : (x : ℤ) → length (literal_text x ++ (32 ∷ [])) ≡ length (literal_text x) + 1
word_length x = length-append (literal_text x) (32 ∷ [])

pub literal_fits : (k : ℕ) (x : ℤ) → nat_abs x < 10 ^ suc k → length (literal_text x) ≤ suc (suc k)
literal_fits k (pos n) h = omega (arith, decimal_fits k n h)
literal_fits k (negsuc n) h = omega (arith, decimal_fits k (suc n) h)

pub literals_append : (c d : List Literal) → literals_text (c ++ d) ≡ literals_text c ++ literals_text d
literals_append [] d = refl
literals_append (l ∷ c) d =
    ap (λ (t : List ℕ). (literal_text (literal_number l) ++ (32 ∷ [])) ++ t) (literals_append c d)
    ∙ sym (append_assoc (literal_text (literal_number l) ++ (32 ∷ [])) (literals_text c) (literals_text d))

pub literals_append_length : (c d : List Literal) → length (literals_text (c ++ d)) ≡ length (literals_text c) + length (literals_text d)
literals_append_length c d = ap (λ (t : List ℕ). length t) (literals_append c d) ∙ length-append (literals_text c) (literals_text d)

pub literals_fit : (m : ℕ) (d : Literal) (c : List Literal)
    → ((i : ℕ) → i < length c → length (literal_text (literal_number (get_or c i d))) + 1 ≤ m) → length (literals_text c) ≤ length c * m
literals_fit m d [] f = omega arith
literals_fit m d (l ∷ c) f =
    omega (
      arith,
      length-append (literal_text (literal_number l) ++ (32 ∷ [])) (literals_text c),
      word_length (literal_number l),
      suc-mul (length c) m,
      f 0 (omega arith),
      literals_fit m d c (λ i h. f (suc i) (omega (arith, h))),
    )

pub line_length : (c : List Literal) → length (line_text c) ≡ length (literals_text c) + 2
line_length c = length-append (literals_text c) (48 ∷ 10 ∷ [])
