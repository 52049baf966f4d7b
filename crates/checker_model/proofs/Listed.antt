-- The text of a list of numbers, number by number.
--   numbers_more    one number more at the end
--   listed p f n    f of the numbers from 1 to n that pass p; its text as code writes it
--   wrote_next, next_start, next_room    the next number, after those before it, where there is room for all
--   listed_small    how many bytes numbers of at most k digits are
--   levels_are      the levels of the true atoms
-- Assumes nothing.
use Prim.Native.Nat.{ℕ, zero, suc, ◌+◌, ◌*◌, ◌-◌, ◌≤◌, ◌<◌}
use native.Mathlib.Nat.{le_antisymm, eq-or-lt_of_le, le_of_suc-le-suc, suc-mul}
use native.Mathlib.Numerals.{add-one}
use native.Mathlib.Omega.{arith}
use mathlib.Core.Path.{◌≡◌, sym, ◌∙◌, ap, subst}
use mathlib.Core.Logic.{⊎_elim}
use mathlib.Core.Bool.{Bool, true, false, cond}
use mathlib.Core.List.{List, [], ◌∷◌, ◌++◌, append-nil, append_assoc}
use lib.ListN.{length, take, drop, length-append}
use Rattle.text.specs.Decimal.{decimal}
use Rattle.digits.proofs.Lengths.{decimal_some}
use Rattle.digits.specs.Bytes.{Room, Wrote}
use Rattle.digits.proofs.Wrote.{room_as, wrote_as, wrote_after, after_start, after_room}
use borrow.Rule.Slice.PartMut.{put_mid}
use Rattle.clause_walk.proofs.Tabs.{map_select}
use Rattle.truth_literals.specs.Values.{value_in}
use Rattle.level_lists.specs.Bytes.{level_byte}
use Rattle.checker_model.proofs.Next.{next_some}
use Rattle.checker_model.specs.Model.{chosen, spaced_numbers, numbers_text, levels_text, listed_text, shown_text}

spaced_more : (xs : List ℕ) (x : ℕ) → spaced_numbers (xs ++ (x ∷ [])) ≡ spaced_numbers xs ++ (32 ∷ decimal x)
spaced_more [] x = append-nil (32 ∷ decimal x)
spaced_more (y ∷ ys) x =
    ap (λ (t : List ℕ). (32 ∷ decimal y) ++ t) (spaced_more ys x) ∙ sym (append_assoc (32 ∷ decimal y) (spaced_numbers ys) (32 ∷ decimal x))

pub numbers_more : (xs : List ℕ) (x : ℕ) → numbers_text (xs ++ (x ∷ [])) ≡ numbers_text xs ++ listed_text (length (numbers_text xs)) x
numbers_more [] x = append-nil (decimal x)
numbers_more (y ∷ ys) x =
    ap (λ (t : List ℕ). decimal y ++ t) (spaced_more ys x) ∙ sym (append_assoc (decimal y) (spaced_numbers ys) (32 ∷ decimal x))
    ∙ ap (λ (t : List ℕ). numbers_text (y ∷ ys) ++ t) (sym (next_some (length (numbers_text (y ∷ ys))) x (λ (e : length (numbers_text (y ∷ ys)) ≡ 0). omega (arith, e, decimal_some y, length-append (decimal y) (spaced_numbers ys)))))

module _ (p : ℕ → Bool) (f : ℕ → ℕ) where
  abbrev pub listed : ℕ → List ℕ
  listed n = chosen p f n

  listed_suc : (n : ℕ) → numbers_text (listed (suc n)) ≡ numbers_text (listed n) ++ shown_text (p (suc n)) (length (numbers_text (listed n))) (f (suc n))
  listed_suc n = go (p (suc n))
    where
      go : (b : Bool) → numbers_text (listed n ++ cond b (f (suc n) ∷ []) []) ≡ numbers_text (listed n) ++ shown_text b (length (numbers_text (listed n))) (f (suc n))
      go true = numbers_more (listed n) (f (suc n))
      go false = ap numbers_text (append-nil (listed n)) ∙ sym (append-nil (numbers_text (listed n)))

  -- s and x are what code has for the next number
  module _ (a : ℕ) {to x : ℕ} {s : Bool} (e : to ≡ length (numbers_text (listed a))) (q : s ≡ p (a + 1)) (y : x ≡ f (a + 1)) where
    listed_more : numbers_text (listed (a + 1)) ≡ numbers_text (listed a) ++ shown_text s to x
    listed_more = rw (add-one a, listed_suc a, e, q, y, add-one a)

  listed_mono : (a n : ℕ) → a ≤ n → length (numbers_text (listed a)) ≤ length (numbers_text (listed n))
  listed_mono a zero h = subst (λ (k : ℕ). length (numbers_text (listed k)) ≤ 0) (le_antisymm (omega arith) h) (omega arith)
  listed_mono a (suc n) h =
      ⊎_elim (λ (e : a ≡ suc n). subst (λ (k : ℕ). length (numbers_text (listed k)) ≤ length (numbers_text (listed (suc n)))) (sym e) (omega arith))
      (λ (l : a < suc n).
      omega (
        arith,
        listed_mono a n (le_of_suc-le-suc l),
        ap (λ (t : List ℕ). length t) (listed_suc n),
        length-append (numbers_text (listed n)) (shown_text (p (suc n)) (length (numbers_text (listed n))) (f (suc n))),
      )) (eq-or-lt_of_le h)

  -- the next number, after those of the first a, where there is room for those of n
  module _ (a : ℕ) {to x : ℕ} {s : Bool} {b e : List ℕ} (W : Wrote (numbers_text (listed a)) b e to) (q : s ≡ p (a + 1)) (y : x ≡ f (a + 1)) where
    pub wrote_next : {l : List ℕ} {r : ℕ} → Wrote (shown_text s to x) (take (length e - to) (drop to e)) l r
        → Wrote (numbers_text (listed (a + 1))) b (put_mid to (length e - to) e l) (to + r)
    wrote_next X = wrote_as (sym (listed_more a W.count q y)) (wrote_after W (shown_text s to x) X)

    module _ {n : ℕ} (h : a < n) (l : Room (numbers_text (listed n)) b) where
      fits : Room (numbers_text (listed a) ++ shown_text s to x) b
      fits = room_as (sym (listed_more a W.count q y)) (omega (arith, listed_mono (a + 1) n (omega (arith, h)), l))

      pub next_start : to ≤ length e
      next_start = after_start W (shown_text s to x) fits

      pub next_room : Room (shown_text s to x) (take (length e - to) (drop to e))
      next_room = after_room W (shown_text s to x) fits

  shown_small : (b : Bool) (k to x : ℕ) → length (decimal x) ≤ k → length (shown_text b to x) ≤ k + 1
  shown_small true k zero x h = omega (arith, h)
  shown_small true k (suc to) x h = omega (arith, h)
  shown_small false k to x h = omega arith

  pub listed_small : (k n : ℕ) → ((a : ℕ) → a < n → length (decimal (f (suc a))) ≤ k) → length (numbers_text (listed n)) ≤ n * (k + 1)
  listed_small k zero h = omega arith
  listed_small k (suc n) h =
      omega (
        arith,
        listed_small k n (λ a l. h a (omega (arith, l))),
        ap (λ (t : List ℕ). length t) (listed_suc n),
        length-append (numbers_text (listed n)) (shown_text (p (suc n)) (length (numbers_text (listed n))) (f (suc n))),
        shown_small (p (suc n)) k (length (numbers_text (listed n))) (f (suc n)) (h n (omega arith)),
        suc-mul n (k + 1),
      )

-- the levels of the true atoms
pub levels_are : (ls bs : List ℕ) (n : ℕ) → numbers_text (listed (value_in bs) (level_byte ls) n) ≡ levels_text n bs ls
levels_are ls bs n = ap numbers_text (sym (map_select (level_byte ls) n (value_in bs)))
