-- Literals with the digits of their variables, and their texts.
--   number_back                         the number of a literal, read back from its bits
--   numeral_positive, numeral_negative  the text of a literal from its digits, by its sign
--   sign_is                             how many bytes its sign has
--   sign_tail, sign_put                 the sign's byte, and the digits after it or over it
--   one_put                             the line of a literal alone
--   lower_word_lem                      the text of a variable, negated
-- Assumes nothing.
use Prim.Native.Nat.{ℕ, zero, suc, ◌+◌, ◌-◌, ◌<◌}
use native.Mathlib.Omega.{arith}
use mathlib.Core.Path.{◌≡◌, refl, sym, ◌∙◌, ap, subst}
use mathlib.Core.Bool.{Bool, true, false, cond}
use mathlib.Core.List.{List, [], ◌∷◌, ◌++◌, append-nil}
use mir.Syntax.{w32}
use mir.Val.{to_z, of_z}
use mir.Facts.{to_z-of_z}
use lib.ListN.{length, take, drop, set, length-append, length-set}
use borrow.Rule.Slice.PartMut.{put_mid}
use lib.Dec.{leb-suc-zero}
use mir.Val.{bool_byte}
use Rattle.std.specs.Int.{is_negative as below_zero}
use lib.IntN.{ℤ, pos, negsuc, nat_abs}
use Rattle.encoding.specs.Literal.{Literal, var, −◌, literal_number}
use Rattle.text.specs.Decimal.{decimal}
use Rattle.clause_literals.specs.Signed.{is_negative}
use Rattle.clause_literals.proofs.Signed.{abs_fits}
use Rattle.digits.specs.Bytes.{literal_text, literals_text, line_text, Room, Wrote}
use Rattle.digits.specs.Digits.{digits_text}
use Rattle.digits.proofs.DigitLaws.{digits_text_lem}
use Rattle.digits.proofs.Wrote.{wrote_none, wrote_as, wrote_after, wrote_end}
use Rattle.digits.proofs.Tail.{tail_length}
use Rattle.digits.proofs.Writing.{word_positive, word_negative, lead_put}
use Rattle.clause_numerals.specs.declared.Numeral.{Numeral}
use Rattle.clause_numerals.specs.Numerals.{literal_of, held, opposed}

-- the number of x, read back from its bits
pub number_back : (x : Numeral) → to_z w32 (of_z w32 x.literal) ≡ x.literal
number_back x = to_z-of_z (abs_fits x.literal (omega (arith, x.numbered.short.fits)))

-- ---- the text, y is the number as the machine holds it, and r what is_negative returns

module _ (x : Numeral) {y : ℤ} {r : Bool} (q : y ≡ x.literal) (e : r ≡ is_negative y) where
  numeral_positive : r ≡ false → digits_text x.digits ≡ literal_text x.literal ++ (32 ∷ [])
  numeral_positive s = ap digits_text x.numbered.written ∙ digits_text_lem (nat_abs x.literal) x.numbered.short.fits ∙ sym (word_positive q e s (ap nat_abs (sym q)))

  numeral_negative : r ≡ true → literal_text x.literal ++ (32 ∷ []) ≡ 45 ∷ digits_text x.digits
  numeral_negative s =
      word_negative q e s (ap nat_abs (sym q))
      ∙ ap (λ (t : List ℕ). 45 ∷ t) (sym (ap digits_text x.numbered.written ∙ digits_text_lem (nat_abs x.literal) x.numbered.short.fits))

-- how many bytes the sign has
pub sign_is : {k : ℕ} {r : Bool} (y : ℤ) → k ≡ bool_byte r → r ≡ below_zero y → k ≡ cond (is_negative y) 1 0
sign_is (pos n) e s = e ∙ ap bool_byte (s ∙ leb-suc-zero n)
sign_is (negsuc n) e s = e ∙ ap bool_byte s

-- ---- the sign's byte is written first, and the digits over it where the literal is positive

past_first : (b : List ℕ) (v r : ℕ) → 0 < r → drop r (set b 0 v) ≡ drop r b
past_first b v zero h = absurd (omega (arith, h))
past_first [] v (suc r) h = refl
past_first (y ∷ b) v (suc r) h = refl

-- a text over the first byte v
over : (b : List ℕ) (v : ℕ) {s e : List ℕ} {r : ℕ} → 0 < length s → Wrote s (set b 0 v) e r → Wrote s b e r
over b v {s} {r = r} h W =
    record { count = W.count; bytes = W.bytes ∙ ap (λ (t : List ℕ). s ++ t) (past_first b v r (omega (arith, W.count, h))) }

-- y is the number as the machine holds it, and k how many bytes its sign has
module _ (x : Numeral) (b : List ℕ) {y : ℤ} {k : ℕ} (q : y ≡ x.literal) (e : k ≡ cond (is_negative y) 1 0) (f : Room (literal_text x.literal ++ (32 ∷ [])) b) where
  abbrev word : List ℕ
  word = literal_text x.literal ++ (32 ∷ [])

  abbrev digits : List ℕ
  digits = digits_text x.digits

  abbrev E : List ℕ
  E = set b 0 45

  word_length : length word ≡ k + length digits
  word_length = go (is_negative y) refl ∙ ap (λ (j : ℕ). j + length digits) (sym e)
    where
      go : (r : Bool) → r ≡ is_negative y → length word ≡ cond r 1 0 + length digits
      go true p = ap (λ (t : List ℕ). length t) (numeral_negative x q p refl) ∙ omega arith
      go false p = ap (λ (t : List ℕ). length t) (sym (numeral_positive x q p refl)) ∙ omega arith

  some_digits : 0 < length digits
  some_digits =
      omega (arith, ap (λ (t : List ℕ). length t) (ap digits_text x.numbered.written ∙ digits_text_lem (nat_abs x.literal) x.numbered.short.fits), length-append (decimal (nat_abs x.literal)) (32 ∷ []))

  pub sign_tail : Room digits (take (length E - k) (drop k E))
  sign_tail = omega (arith, word_length, f, length-set b 0 45, tail_length E k)

  module _ {l : List ℕ} {r : ℕ} where
    by_sign : (c : Bool) → c ≡ is_negative y → Wrote digits (take (length E - cond c 1 0) (drop (cond c 1 0) E)) l r
        → Wrote word b (put_mid (cond c 1 0) (length E - cond c 1 0) E l) (cond c 1 0 + r)
    by_sign true p X = lead_put b (numeral_negative x q p refl) f X
    by_sign false p X = wrote_as (numeral_positive x q p refl) (over b 45 some_digits (wrote_after (wrote_none E) digits X))

    pub sign_put : Wrote digits (take (length E - k) (drop k E)) l r → Wrote word b (put_mid k (length E - k) E l) (k + r)
    sign_put X =
        subst (λ (j : ℕ). Wrote word b (put_mid j (length E - j) E l) (j + r)) (sym e)
        (by_sign (is_negative y) refl (subst (λ (j : ℕ). Wrote digits (take (length E - j) (drop j E)) l r) e X))

-- ---- a literal alone

held_number : (z : ℤ) → literal_number (literal_of z) ≡ z
held_number (pos n) = refl
held_number (negsuc n) = refl

literals_one : (x : Numeral) → literal_text x.literal ++ (32 ∷ []) ≡ literals_text (held x ∷ [])
literals_one x =
    ap (λ (z : ℤ). literal_text z ++ (32 ∷ [])) (sym (held_number x.literal))
    ∙ sym (append-nil (literal_text (literal_number (held x)) ++ (32 ∷ [])))

-- the end of the line after it
module _ (x : Numeral) {b e : List ℕ} {to : ℕ} (f : Room (line_text (held x ∷ [])) b) (W : Wrote (literal_text x.literal ++ (32 ∷ [])) b e to) where
  pub one_put : (u v : ℕ) → u ≡ 48 → v ≡ 10 → Wrote (line_text (held x ∷ [])) b (set (set e to u) (to + 1) v) (to + 2)
  one_put = wrote_end (held x ∷ []) f (wrote_as (literals_one x) W)

pub lower_word_lem : (x : Numeral) {l : Literal} {v : ℕ} → held x ≡ opposed l → l ≡ var v → literal_text x.literal ++ (32 ∷ []) ≡ literal_text (literal_number (− v)) ++ (32 ∷ [])
lower_word_lem x e q =
    ap (λ (z : ℤ). literal_text z ++ (32 ∷ [])) (sym (held_number x.literal) ∙ ap literal_number (e ∙ ap opposed q))
