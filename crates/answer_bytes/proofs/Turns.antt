-- One turn of the loop over a buffer, and the bytes that are counted.
--   copy_goes                 one more byte is copied and completed
--   unset_is                  how many bytes are 2
-- Assumes nothing.
use Prim.Native.Nat.{ℕ, zero, suc, ◌+◌, ◌-◌, ◌≤◌, ◌<◌}
use native.Mathlib.Numerals.{add-one}
use native.Mathlib.Omega.{arith}
use mathlib.Core.Path.{◌≡◌, refl, sym, ◌∙◌, ap, ap₂}
use mathlib.Core.Bool.{Bool, cond}
use mathlib.Core.List.{List, [], ◌∷◌, ◌++◌, append_assoc, map-append}
use lib.Dec.{eqb}
use lib.ListN.{length, get_or, set, take, drop, length-map}
use lib.Seq.{drop-cons, take-suc, length-take-le, set_at, take_all}
use Rattle.std.specs.List.{count_by, filter}
use Rattle.std.proofs.lemmas.List.Sums.{length-filter, sum_by_push}
use Rattle.answer_bytes.specs.Bytes.{unset_count, completed_byte, completed}

-- ---- copying

pub copy_goes : (s b c : List ℕ) (i x : ℕ) → i < length s → i < length b → c ≡ completed (take i s) ++ drop i b → x ≡ completed_byte (get_or s i 0)
    → set c i x ≡ completed (take (i + 1) s) ++ drop (i + 1) b
copy_goes s b c i x g h e f =
    ap₂ (λ (d : List ℕ) (y : ℕ). set d i y) (e ∙ ap (λ (d : List ℕ). completed (take i s) ++ d) (drop-cons b i 0 h)) f
    ∙ set_at (completed (take i s)) (get_or b i 0) (drop (suc i) b) y i (length-map (take i s) completed_byte ∙ length-take-le i s (omega (arith, g)))
    ∙ sym (append_assoc (completed (take i s)) (y ∷ []) (drop (suc i) b))
    ∙ ap (λ (d : List ℕ). d ++ drop (suc i) b) (sym (map-append completed_byte (take i s) (get_or s i 0 ∷ [])) ∙ ap completed (sym (take-suc s i 0 g)))
    ∙ ap (λ (k : ℕ). completed (take k s) ++ drop k b) (sym (add-one i))
  where
    y : ℕ
    y = completed_byte (get_or s i 0)

-- ---- how many have no value

module _ (b : List ℕ) where
  abbrev is_unset : ℕ → Bool
  is_unset x = eqb x 2

  unset_front : (i : ℕ) → i ≤ length b → count_by is_unset (take i b) ≡ unset_count i b
  unfolding unset_count
  unset_front zero h = refl
  unset_front (suc i) h =
      let same : i ≡ suc i - 1 = omega arith in
      ap (count_by is_unset) (take-suc b i 0 (omega (arith, h))) ∙ sum_by_push (λ x. cond (is_unset x) 1 0) (take i b) (get_or b i 0)
      ∙ ap₂ (λ (x y : ℕ). x + y) (unset_front i (omega (arith, h))) (ap (λ (j : ℕ). cond (is_unset (get_or b j 0)) 1 0) same)

  pub unset_is : length (filter is_unset b) ≡ unset_count (length b) b
  unset_is = length-filter is_unset b ∙ ap (count_by is_unset) (sym (take_all (length b) b (omega arith))) ∙ unset_front (length b) (omega arith)
