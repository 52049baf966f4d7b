-- The literals that are left once some slots of a clause are done.
--   left_none    none is left once all slots are done
--   left_past    passing empty slots leaves the same
--   left_next    the literal of the next slot is the first that is left, and the others are left behind the empty slots that follow it
--   goes_on      an iterator that gives the first of what is left has fewer left
-- Assumes nothing.
use Prim.Native.Nat.{ℕ, zero, suc, ◌+◌, ◌-◌, ◌≤◌, ◌<◌}
use native.Mathlib.Nat.{zero-add, suc-add}
use native.Mathlib.Numerals.{add-one}
use native.Mathlib.Omega.{arith}
use mathlib.Core.Path.{◌≡◌, sym, ◌∙◌, ap, subst}
use mathlib.Core.List.{List, [], ◌∷◌, ◌++◌, map, append_assoc, append-nil}
use mathlib.Core.Logic.{◌≢◌}
use lib.IntN.{ℤ}
use lib.ListN.{length, drop, length-append, drop_of_length-le}
use lib.Seq.{drop-append_seam}
use Rattle.std.specs.Prelude.{Option, None, Some, MatchOption}
use Rattle.std.specs.Iterator.{YieldsFirst, item_count, MakesProgress}
use Rattle.lists.specs.Lists.{each}
use Rattle.encoding.specs.Literal.{Literal, literal_number}
use Rattle.clause_slots.specs.SlotNumber.{slot_number}
use Rattle.clause_table_laws.proofs.Bounds.{Slotted, empty, holds}

module _ {A : Type 0} (f : ℕ → List A) where
  -- what the numbers after l add
  each_rest : (l k : ℕ) → l ≤ k → (zs : List A) × (each k f ≡ each l f ++ zs)
  each_rest l k h = subst (λ (n : ℕ). (zs : List A) × (each n f ≡ each l f ++ zs)) (whole l k h) (go (k - l))
    where
      whole : (l k : ℕ) → l ≤ k → (k - l) + l ≡ k
      whole l k h = omega (arith, h)

      go : (d : ℕ) → (zs : List A) × (each (d + l) f ≡ each l f ++ zs)
      go zero = ([], ap (λ (n : ℕ). each n f) (zero-add l) ∙ sym (append-nil (each l f)))
      go (suc d) =
          let x = go d in
          (x.0 ++ f (suc (d + l)), ap (λ (n : ℕ). each n f) (suc-add d l) ∙ ap (λ (xs : List A). xs ++ f (suc (d + l))) x.1 ∙ append_assoc (each l f) x.0 (f (suc (d + l))))

  -- the elements of k numbers that are left after those of l
  abbrev left : ℕ → ℕ → List A
  left k l = drop (length (each l f)) (each k f)

  none_left : (k l : ℕ) → k ≤ l → left k l ≡ []
  none_left k l h =
      let x = each_rest k l h in
      drop_of_length-le (each k f) (omega (arith, ap (λ (xs : List A). length xs) x.1, length-append (each k f) x.0))

  one_left : (k l r : ℕ) → l < k → (x : A) → f (l + 1) ≡ x ∷ [] → each r f ≡ each (l + 1) f → left k l ≡ x ∷ left k r
  one_left k l r h x e p =
      ap (drop (length (each l f))) whole ∙ drop-append_seam (each l f) (x ∷ z.0) ∙ ap (λ (xs : List A). x ∷ xs) (sym behind)
    where
      z : (zs : List A) × (each k f ≡ each (l + 1) f ++ zs)
      z = each_rest (l + 1) k (omega (arith, h))

      more : each (l + 1) f ≡ each l f ++ (x ∷ [])
      more = ap (λ (n : ℕ). each n f) (add-one l) ∙ ap (λ (n : ℕ). each l f ++ f n) (sym (add-one l)) ∙ ap (λ (xs : List A). each l f ++ xs) e

      whole : each k f ≡ each l f ++ (x ∷ z.0)
      whole = z.1 ∙ ap (λ (xs : List A). xs ++ z.0) more ∙ append_assoc (each l f) (x ∷ []) z.0

      behind : left k r ≡ z.0
      behind = ap (λ (xs : List A). drop (length xs) (each k f)) p ∙ ap (drop (length (each (l + 1) f))) z.1 ∙ drop-append_seam (each (l + 1) f) z.0

-- the numbers of the literals in k slots that are left after the first l
module _ (f : ℕ → List Literal) (k : ℕ) where
  abbrev pub numbers : ℕ → List ℤ
  numbers l = map literal_number (left f k l)

  pub left_none : {n l : ℕ} → n ≡ k → n ≤ l → numbers l ≡ []
  left_none {n} {l} e h = ap (λ (ls : List Literal). map literal_number ls) (none_left f k l (subst (λ (j : ℕ). j ≤ l) e h))

  pub left_past : (l r : ℕ) → each r f ≡ each l f → numbers r ≡ numbers l
  left_past l r p = ap (λ (ls : List Literal). map literal_number (drop (length ls) (each k f))) p

  pub left_next : (l r : ℕ) (x : Option ℤ) → l < k → Slotted (f (l + 1)) → f (l + 1) ≢ [] → x ≡ slot_number (f (l + 1)) → each r f ≡ each (l + 1) f
      → YieldsFirst numbers l x r
  left_next l r x h (empty q) n e p = absurd (n q)
  left_next l r x h (holds z q u v) n e p =
      subst (λ (x : Option ℤ). YieldsFirst numbers l x r) (sym (e ∙ ap slot_number q)) (ap (λ (ls : List Literal). map literal_number ls) (one_left f k l r h z q p))

  -- from slot r on, as from slot l on where the slots between are empty
  pub left_behind : (l r t : ℕ) (x : Option ℤ) → each r f ≡ each l f → YieldsFirst numbers r x t → YieldsFirst numbers l x t
  left_behind l r t x p = subst (λ (zs : List ℤ). MatchOption x ((zs ≡ []) × (numbers t ≡ [])) (λ z. zs ≡ z ∷ numbers t)) (left_past l r p)

pub goes_on : {S A : Type 0} (rest : S → List A) {s t : S} (r : Option A) → YieldsFirst rest s r t → MakesProgress (λ _. Unit {0}) (item_count rest) s r t
goes_on rest None h = record { on = λ f. tt; keeps = tt; rests = λ f. tt }
goes_on rest (Some x) h = record { on = λ f. (tt, tt, omega (arith, ap length h)); keeps = tt; rests = λ f. tt }
